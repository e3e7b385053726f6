use Rattle.algebra.proofs.stretch.Goals as goal
use Rattle.algebra.proofs.Forms.{stretch}

pub returns : goal.returns
returns c = stretch
