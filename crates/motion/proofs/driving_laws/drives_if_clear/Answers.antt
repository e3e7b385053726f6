use Rattle.motion.proofs.driving_laws.drives_if_clear.Goals as goal
use Rattle.motion.proofs.DriveClear.{drives_if_clear}

pub returns : goal.returns
returns c = drives_if_clear
