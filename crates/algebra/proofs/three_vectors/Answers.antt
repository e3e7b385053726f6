use Rattle.algebra.proofs.three_vectors.Goals as goal
use Rattle.algebra.proofs.Forms.{three_vectors}

pub returns : goal.returns
returns c = three_vectors
