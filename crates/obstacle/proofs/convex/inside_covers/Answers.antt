use Rattle.obstacle.proofs.convex.inside_covers.Goals as goal
use Rattle.obstacle.proofs.Open.{inside_covers}

pub returns : goal.returns
returns c = inside_covers
