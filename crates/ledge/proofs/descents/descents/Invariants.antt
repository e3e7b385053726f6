use Rattle.ledge.proofs.Filling.{Filled}
use Rattle.ledge.proofs.descents.descents.Given as goal

abbrev pub invariant-loop-k : goal.invariant-loop-k
invariant-loop-k l = Filled l.fn.site.task.hall l.fn.site.obstacles l.k l.all
