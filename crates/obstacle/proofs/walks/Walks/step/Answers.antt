use Rattle.std.proofs.Common.{subst}
use Rattle.obstacle.specs.Growing.{NextSide}
use Rattle.obstacle.proofs.GrowSteps.{on_thing, on_load, on_both}
use Rattle.obstacle.proofs.walks.Walks.step.Goals as goal

pub returns-in-Less : goal.returns-in-Less
returns-in-Less g c = let p = c.args.self.now in on_thing p c.on.ensures (subst (NextSide p) c.in-Less.is c.in_ok-next_side.ensures)

pub returns-in-Greater : goal.returns-in-Greater
returns-in-Greater g c = let p = c.args.self.now in on_load p c.on-in-Greater.ensures (subst (NextSide p) c.in-Greater.is c.in_ok-next_side.ensures)

pub returns-in-Equal : goal.returns-in-Equal
returns-in-Equal g c = let p = c.args.self.now in on_both p c.on-in-Equal.ensures c.on-in-Equal-2.ensures (subst (NextSide p) c.in-Equal.is c.in_ok-next_side.ensures)
