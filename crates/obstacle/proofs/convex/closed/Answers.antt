use Rattle.obstacle.proofs.convex.closed.Goals as goal
use Rattle.obstacle.proofs.Open.{closed}

pub returns : goal.returns
returns c = closed
