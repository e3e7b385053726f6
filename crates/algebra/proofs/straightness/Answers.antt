use Rattle.algebra.proofs.straightness.Goals as goal
use Rattle.algebra.proofs.Places.{straightness}

pub returns : goal.returns
returns c = straightness
