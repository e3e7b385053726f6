use Rattle.obstacle.proofs.convex.open.Goals as goal
use Rattle.obstacle.proofs.Open.{open_law}

pub returns : goal.returns
returns c = open_law
