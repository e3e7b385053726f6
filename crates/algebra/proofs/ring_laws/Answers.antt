use Rattle.algebra.proofs.ring_laws.Goals as goal
use Rattle.algebra.proofs.Ring.{ring_laws}

pub returns : goal.returns
returns c = ring_laws
