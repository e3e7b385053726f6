use Rattle.std.proofs.Common.{rules}
use Rattle.obstacle.specs.Growing.{vector_of}
use Rattle.obstacle.proofs.GrowTurns.{ranked, turned}
use Rattle.obstacle.proofs.growing.order.Goals as goal

pub returns : goal.returns
returns c =
    let d = vector_of c.args.d in
    let e = vector_of c.args.e in
    ranked c.is_up-2.result c.is_up.result c.then_with.result d e _ c.is_up-2.ensures c.is_up.ensures c.requires.first c.requires.second (rw c.cmp.ensures at c.then_with.ensures) (λ q. search (rules, turned))
