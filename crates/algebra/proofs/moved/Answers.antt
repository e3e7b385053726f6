use Rattle.algebra.proofs.moved.Goals as goal
use Rattle.algebra.proofs.Forms.{moved}

pub returns : goal.returns
returns c = moved
