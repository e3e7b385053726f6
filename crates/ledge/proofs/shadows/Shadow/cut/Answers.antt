use Rattle.ledge.proofs.Shading.{cut_nowhere, cut_everywhere, cut_after, cut_before}
use Rattle.ledge.proofs.shadows.Shadow.cut.Goals as goal

pub returns-in-Nowhere : goal.returns-in-Nowhere
returns-in-Nowhere c = cut_nowhere c.args.self c.args.e c.in-Nowhere.ensures

pub returns-in-Everywhere : goal.returns-in-Everywhere
returns-in-Everywhere c = cut_everywhere c.args.self c.args.e c.in-Everywhere.ensures c.opened.result c.opened.ensures

pub returns-in-After : goal.returns-in-After
returns-in-After c = cut_after c.args.self c.args.e c.in-After.spot c.farther.result c.in-After.ensures c.farther.ensures c.opened-in-After.result c.opened-in-After.ensures

pub returns-in-Before : goal.returns-in-Before
returns-in-Before c = cut_before c.args.self c.args.e c.in-Before.spot c.farther-in-Before.result c.in-Before.ensures c.farther-in-Before.ensures c.opened-in-Before.result c.opened-in-Before.ensures
