use Rattle.algebra.proofs.same_standing.Goals as goal
use Rattle.algebra.proofs.Places.{same_standing}

pub returns : goal.returns
returns c = same_standing
