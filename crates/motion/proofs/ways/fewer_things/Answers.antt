use Rattle.motion.proofs.ways.fewer_things.Goals as goal
use Rattle.motion.proofs.Waying.{fewer}

pub returns : goal.returns
returns c = fewer
