use Rattle.algebra.proofs.sign_along.Goals as goal
use Rattle.algebra.proofs.Forms.{sign_along}

pub returns : goal.returns
returns c = sign_along
