use Rattle.std.proofs.Common.{rules}
use Rattle.ledge.proofs.Shading.{farther_first, farther_second, farther_alone}
use Rattle.ledge.proofs.shadows.farther.Goals as goal

pub returns-in-Some : goal.returns-in-Some
returns-in-Some c = farther_first c.in-Some.end c.args.spot c.args.end c.in-Some.is c.args.wanted c.order.result c.order.ensures (search rules)

pub returns-in_default : goal.returns-in_default
returns-in_default c = farther_second c.in-Some.end c.args.spot c.args.end c.in-Some.is c.args.wanted c.order.result c.order.ensures (λ e. search rules)

pub returns-in_default-2 : goal.returns-in_default-2
returns-in_default-2 c = farther_alone c.args.end c.args.spot c.args.wanted (search rules)
