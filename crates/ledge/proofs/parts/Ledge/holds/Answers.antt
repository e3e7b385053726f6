use Rattle.std.proofs.Common.{sym, ◌∙◌}
use Rattle.ledge.proofs.Sharing.{at_most}
use Rattle.ledge.proofs.parts.Ledge.holds.Goals as goal

pub returns-then-is_le : goal.returns-then-is_le
returns-then-is_le c =
    let i = at_most c.x_order.result _ _ c.x_order.ensures in
    let j = at_most c.x_order-then-is_le.result _ _ c.x_order-then-is_le.ensures in (
      λ e. record { from = i.0 (sym c.is_le.ensures ∙ c.if-is_le.true); to = j.0 (sym c.is_le-then-is_le.ensures ∙ e) },
      λ h. c.is_le-then-is_le.ensures ∙ j.1 h.to,
    )
