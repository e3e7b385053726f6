use Rattle.obstacle.proofs.convex.fan.Goals as goal
use Rattle.obstacle.proofs.Fan.{fan}

pub returns : goal.returns
returns c = fan
