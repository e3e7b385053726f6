use Rattle.std.proofs.Common.{◌≡◌, length}
use Rattle.hall.specs.Shapes.{shape_of}
use Rattle.obstacle.proofs.GrowWalk.{Walked}
use Rattle.obstacle.proofs.growing.grow.Given as goal

abbrev pub invariant-loop-corner : goal.invariant-loop-corner
invariant-loop-corner g l = record { walked : Walked (shape_of l.load) (shape_of l.thing) l.corner-iterator l.corners l.count; room : length l.corners ≡ g.row.G }
