use Rattle.std.proofs.Common.{rules, arith}
use Rattle.hall.proofs.Spelt.{digit}
use Rattle.hall.proofs.refusals.RefusalDisplay.fmt.Goals as goal

pub returns-in-Length-clause-writes : goal.returns-in-Length-clause-writes
returns-in-Length-clause-writes g c = rw (c.in-Length.is, digit 1 (omega arith)) (search rules)

pub returns-in-Number-clause-writes : goal.returns-in-Number-clause-writes
returns-in-Number-clause-writes g c = rw (c.in-Number.is, digit 2 (omega arith)) (search rules)

pub returns-in-Count-clause-writes : goal.returns-in-Count-clause-writes
returns-in-Count-clause-writes g c = rw (c.in-Count.is, digit 3 (omega arith)) (search rules)

pub returns-in-Bend-clause-writes : goal.returns-in-Bend-clause-writes
returns-in-Bend-clause-writes g c = rw (c.in-Bend.is, digit 4 (omega arith)) (search rules)

pub returns-in-Slice-clause-writes : goal.returns-in-Slice-clause-writes
returns-in-Slice-clause-writes g c = rw (c.in-Slice.is, digit 5 (omega arith)) (search rules)

pub returns-in-Waypoint-clause-writes : goal.returns-in-Waypoint-clause-writes
returns-in-Waypoint-clause-writes g c = rw (c.in-Waypoint.is, digit 6 (omega arith)) (search rules)

pub returns-in-Collision-clause-writes : goal.returns-in-Collision-clause-writes
returns-in-Collision-clause-writes g c = rw (c.in-Collision.is, digit 7 (omega arith)) (search rules)

pub returns-in-Memory-clause-writes : goal.returns-in-Memory-clause-writes
returns-in-Memory-clause-writes g c = rw (c.in-Memory.is, digit 8 (omega arith), digit 0 (omega arith)) (search rules)
