use Rattle.exact.specs.Points.{corner_of}
use Rattle.ledge.proofs.Mapping.{Filled}
use Rattle.ledge.proofs.ledges.write_ledges.Given as goal

abbrev pub invariant-loop-c : goal.invariant-loop-c
invariant-loop-c l = Filled l.shadows (corner_of l.line.from) (corner_of l.line.to) l.c l.parts
