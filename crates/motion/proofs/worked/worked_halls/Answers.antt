use Rattle.motion.proofs.worked.worked_halls.Goals as goal
use Rattle.motion.proofs.WorkedOut.{worked_halls}

pub returns : goal.returns
returns c = worked_halls
