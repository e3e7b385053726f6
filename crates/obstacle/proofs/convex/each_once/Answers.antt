use Rattle.obstacle.proofs.convex.each_once.Goals as goal
use Rattle.obstacle.proofs.Strict.{each_once}

pub returns : goal.returns
returns c = each_once
