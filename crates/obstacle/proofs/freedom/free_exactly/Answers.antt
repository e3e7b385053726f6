use Rattle.obstacle.proofs.Freely.{free_exactly}
use Rattle.obstacle.proofs.freedom.free_exactly.Goals as goal

pub returns : goal.returns
returns c = free_exactly
