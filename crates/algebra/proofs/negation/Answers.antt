use Rattle.algebra.proofs.negation.Goals as goal
use Rattle.algebra.proofs.Forms.{negation}

pub returns : goal.returns
returns c = negation
