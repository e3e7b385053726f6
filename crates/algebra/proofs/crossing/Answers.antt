use Rattle.algebra.proofs.crossing.Goals as goal
use Rattle.algebra.proofs.Forms.{crossing}

pub returns : goal.returns
returns c = crossing
