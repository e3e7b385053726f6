use Rattle.std.proofs.Common.{◌+◌, length}
use Rattle.ledge.proofs.Mapping.{MappedTo}
use Rattle.ledge.proofs.ledges.write_map.Given as goal

abbrev pub invariant-loop-number : goal.invariant-loop-number
invariant-loop-number l = MappedTo l.fn.site.task.hall l.fn.site.obstacles (length l.site-inside.obstacles.now + 5) l.number l.words
