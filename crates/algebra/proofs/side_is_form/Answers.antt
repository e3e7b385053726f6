use Rattle.algebra.proofs.side_is_form.Goals as goal
use Rattle.algebra.proofs.Forms.{side_is_form}

pub returns : goal.returns
returns c = side_is_form
