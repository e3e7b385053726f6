use Rattle.algebra.proofs.interpolation.Goals as goal
use Rattle.algebra.proofs.Forms.{interpolation}

pub returns : goal.returns
returns c = interpolation
