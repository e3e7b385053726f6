use Rattle.obstacle.proofs.convex.supports_strictly.Goals as goal
use Rattle.obstacle.proofs.Open.{supports_strictly}

pub returns : goal.returns
returns c = supports_strictly
