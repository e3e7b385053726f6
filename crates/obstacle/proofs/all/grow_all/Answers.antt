use Rattle.std.proofs.Common.{arith}
use Rattle.hall.specs.Shapes.{shape_of}
use Rattle.obstacle.proofs.Freely.{within_wider}
use Rattle.obstacle.proofs.all.grow_all.Goals as goal

pub grow_each-requires-clause-load : goal.grow_each-requires-clause-load
grow_each-requires-clause-load c = within_wider 200 1000 (shape_of c.load-load.result) (omega arith) c.load-load.ensures.bound
