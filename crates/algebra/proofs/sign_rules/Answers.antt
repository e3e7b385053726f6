use Rattle.algebra.proofs.sign_rules.Goals as goal
use Rattle.algebra.proofs.Order.{sign_rules}

pub returns : goal.returns
returns c = sign_rules
