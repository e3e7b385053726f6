use Rattle.std.proofs.Common.{◌≡◌, ◌++◌, vec_items}
use Rattle.std.specs.List.{flat_map}
use Rattle.hall.specs.Format.{corner_bytes}
use Rattle.hall.specs.Outlines.{outline}
use Rattle.hall.proofs.writer.write_shape.Given as goal

abbrev pub invariant-loop-corner : goal.invariant-loop-corner
invariant-loop-corner l = vec_items l.out ≡ vec_items l.initial.out ++ flat_map corner_bytes (outline l.corner-index l.corner-items)
