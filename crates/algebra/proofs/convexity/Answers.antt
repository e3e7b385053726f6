use Rattle.algebra.proofs.convexity.Goals as goal
use Rattle.algebra.proofs.Places.{convexity}

pub returns : goal.returns
returns c = convexity
