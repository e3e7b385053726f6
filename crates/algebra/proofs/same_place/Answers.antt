use Rattle.algebra.proofs.same_place.Goals as goal
use Rattle.algebra.proofs.Forms.{same_place}

pub returns : goal.returns
returns c = same_place
