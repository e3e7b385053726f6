use Rattle.obstacle.proofs.grows.grows.Goals as goal
use Rattle.obstacle.proofs.Merging.{merging}
use Rattle.obstacle.proofs.Existence as existence

pub returns : goal.returns
returns c = existence.grows merging
