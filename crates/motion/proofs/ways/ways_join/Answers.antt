use Rattle.motion.proofs.ways.ways_join.Goals as goal
use Rattle.motion.proofs.Waying.{together}

pub returns : goal.returns
returns c = together
