use Rattle.obstacle.proofs.convex.has_inside.Goals as goal
use Rattle.obstacle.proofs.Middle.{has_inside}

pub returns : goal.returns
returns c = has_inside
