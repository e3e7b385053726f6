use Rattle.std.proofs.Common.{◌≡◌, length}
use Rattle.exact.specs.Points.{place_of}
use Rattle.hall.specs.Shapes.{shape_of}
use Rattle.motion.proofs.Valued.{Found}
use Rattle.motion.proofs.stretches.Stretch.is_clear.Given as goal

abbrev pub invariant-loop-i : goal.invariant-loop-i
invariant-loop-i g l = Found (shape_of l.shape) (place_of l.self.from) (place_of l.self.to) l.i l.ends × (length l.ends ≡ g.row.N)
