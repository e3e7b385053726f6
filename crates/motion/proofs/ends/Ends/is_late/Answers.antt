use Rattle.std.proofs.Common.{◌*ℤ◌, sym, ◌∙◌, ap₂}
use mir.Syntax.{w128}
use Rattle.std.proofs.lemmas.Bool.{both_ways}
use Rattle.exact.proofs.Bounds.{kept, ranked_at}
use Rattle.motion.proofs.Valued.{le_decides}
use Rattle.motion.proofs.ends.Ends.is_late.Goals as goal
use Rattle.motion.proofs.ends.Ends.is_late.Goals.{then-falls, else-falls}

pub returns-then-rises : goal.returns-then-rises
returns-then-rises c =
    let first = c.args.self in
    let second = c.args.other in
    let e = c.args.self in
    let f = c.args.other in
    let less =
    le_decides c.product_order.result (e.from *ℤ f.to) (f.from *ℤ e.to)
    (ranked_at c.product_order.result _ _ _ _ c.product_order.ensures (ap₂ ◌*ℤ◌ (kept w128 e.from first.starts tt) (kept w128 f.to second.ends tt))
    (ap₂ ◌*ℤ◌ (kept w128 f.from second.starts tt) (kept w128 e.to first.ends tt))) in
    elim c.if-falls.branch [
      | then-falls w ↦
          let falls = c.falls.ensures.0 w.if-falls.true in
          let rises = w.rises.ensures.0 (sym w.value-is ∙ c.if-rises.true) in (
            λ t. record { first_from = falls.0; first_to = falls.1; second_from = rises.0; second_to = rises.1; late = less.0 (sym c.is_le.ensures ∙ t) },
            λ h. c.is_le.ensures ∙ less.1 h.late,
          )
      | else-falls w ↦ absurd (both_ways _ w.if-falls.false (sym w.value-is ∙ c.if-rises.true))
    ]
