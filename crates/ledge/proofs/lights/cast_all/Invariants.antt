use Rattle.std.proofs.Common.{map}
use Rattle.exact.specs.Points.{corner_of}
use Rattle.hall.specs.Halls.{task_of}
use Rattle.hall.specs.Shapes.{shape_of}
use Rattle.ledge.proofs.Lighting.{Cast}
use Rattle.ledge.proofs.lights.cast_all.Given as goal

abbrev pub invariant-loop-j : goal.invariant-loop-j
invariant-loop-j l = Cast (task_of l.hall).hall (map shape_of l.obstacles) (corner_of l.surface.from) (corner_of l.surface.to) l.j l.shadows
