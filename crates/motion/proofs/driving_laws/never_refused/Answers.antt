use Rattle.motion.proofs.driving_laws.never_refused.Goals as goal
use Rattle.motion.proofs.DriveNever.{never_refused}

pub returns : goal.returns
returns c = never_refused
