use Rattle.ledge.proofs.Landing.{not_higher_at}
use Rattle.ledge.proofs.uprights.Upright.is_under.Goals as goal

pub returns : goal.returns
returns c = rw (c.is_le.ensures) (not_higher_at c.args.low.side c.args.high.side c.args.self.p c.args.low.onward c.args.high.onward c.args.self.near.real c.height_order.result c.height_order.ensures)
