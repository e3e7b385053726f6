use Rattle.std.proofs.Common.{◌≡◌, ◌++◌, map}
use Rattle.std.specs.BTreeMap.{values}
use Rattle.std.specs.List.{flat_map}
use Rattle.hall.specs.Format.{shape_bytes}
use Rattle.hall.specs.Shapes.{shape_of}
use Rattle.hall.proofs.halls.Hall.to_bytes.Given as goal

-- with the bytes of the things that are left the bytes are those of all
abbrev pub invariant-loop-thing : goal.invariant-loop-thing
invariant-loop-thing l =
    l.bytes.items ++ flat_map shape_bytes (map shape_of l.thing-iterator) ≡ l.initial.bytes.items ++ flat_map shape_bytes (map shape_of (values l.self.things))
