use Rattle.obstacle.proofs.convex.strictly.Goals as goal
use Rattle.obstacle.proofs.Strict.{strictly}

pub returns : goal.returns
returns c = strictly
