use Rattle.obstacle.proofs.GrowSteps.{way_points, back_points, minus_read}
use Rattle.obstacle.proofs.walks.Walks.next_side.Goals as goal

pub order-requires-clause-first : goal.order-requires-clause-first
order-requires-clause-first g c = way_points c.args.self.now.thing (minus_read c.way.ensures c.in-Some-Some.ensures.is c.corner.ensures.value)

pub order-requires-clause-second : goal.order-requires-clause-second
order-requires-clause-second g c = back_points c.args.self.now.load (minus_read c.way-in-Some-Some.ensures c.corner-in-Some-Some.ensures.value c.in-Some-Some.ensures'.is)
