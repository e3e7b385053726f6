use Rattle.std.proofs.Common.{rules}
use Rattle.hall.proofs.Kept.{near_each}
use Rattle.hall.proofs.Walks.{one_more}
use Rattle.hall.proofs.sides.SidesIterator.next.Goals as goal

pub invariant_of-side : goal.invariant_of-side
invariant_of-side c =
    let near = near_each 2047 c.args.self.now.corners.now c.args.self.now.near in
    record { starts = near _ (search rules); ends = near _ (search rules) }

pub returns-clause-steps : goal.returns-clause-steps
returns-clause-steps c = one_more c.args.self.now.corners.now c.args.self.now.at c.after.result c.if-self.false c.after.ensures.value
