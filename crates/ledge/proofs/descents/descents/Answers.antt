use Rattle.std.proofs.Common.{◌≡◌, ℕ, length, subst, arith}
use Rattle.ledge.proofs.Numbering.{seen_count}
use Rattle.ledge.proofs.Filling.{Filled, filled_none, filled_more, filled_all}
use Rattle.ledge.proofs.descents.descents.Goals as goal

pub loop-k-init : goal.loop-k-init
loop-k-init c = filled_none c.args.site.now.task.hall c.args.site.now.obstacles

pub loop-k-preserved : goal.loop-k-preserved
loop-k-preserved c =
    let s = c.args.site.now in
    let q = seen_count _ _ _ c.site.view_is in
    filled_more s.task.hall s.obstacles c.loop-k.k c.loop-k.all c.loop-k.invariant (omega (arith, q, c.descent_of.ensures.few))
    c.descent_of.result c.descent_of-in-loop-k.result c.descent_of.ensures.value c.descent_of-in-loop-k.ensures.value

pub returns : goal.returns
returns c =
    let s = c.args.site.now in
    let q = seen_count _ _ _ c.site.view_is in
    let n : c.loop-k.k ≡ length s.obstacles = omega (arith, q) in
    filled_all s.task.hall s.obstacles c.loop-k.all (subst (λ (k : ℕ). Filled s.task.hall s.obstacles k c.loop-k.all) n c.loop-k.invariant)
