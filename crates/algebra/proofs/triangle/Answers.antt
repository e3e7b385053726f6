use Rattle.algebra.proofs.triangle.Goals as goal
use Rattle.algebra.proofs.Forms.{triangle}

pub returns : goal.returns
returns c = triangle
