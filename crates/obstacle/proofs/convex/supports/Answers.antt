use Rattle.obstacle.proofs.convex.supports.Goals as goal
use Rattle.obstacle.proofs.Fan.{supports}

pub returns : goal.returns
returns c = supports
