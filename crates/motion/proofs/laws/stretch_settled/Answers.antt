use Rattle.motion.proofs.laws.stretch_settled.Goals as goal
use Rattle.motion.proofs.Settle.{stretch_settled}

pub returns : goal.returns
returns c = stretch_settled
