use Rattle.obstacle.proofs.convex.away.Goals as goal
use Rattle.obstacle.proofs.Open.{away}

pub returns : goal.returns
returns c = away
