use Rattle.algebra.proofs.intervals.Goals as goal
use Rattle.algebra.proofs.Ranges.{intervals}

pub returns : goal.returns
returns c = intervals
