use Rattle.algebra.proofs.solver.Goals as goal
use Rattle.algebra.proofs.Polynomial.{solver}

pub returns : goal.returns
returns c = solver
