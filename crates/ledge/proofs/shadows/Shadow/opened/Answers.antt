use Rattle.std.proofs.Common.{Option, sym, subst}
use Rattle.ledge.specs.declared.spots.Spot.{Spot}
use Rattle.ledge.specs.Shadows.{After, Until}
use Rattle.ledge.proofs.Spotting.{not_before}
use Rattle.ledge.proofs.Shading.{no_room}
use Rattle.ledge.proofs.shadows.Shadow.opened.Goals as goal

pub returns-in-Some-Some : goal.returns-in-Some-Some
returns-in-Some-Some c t u s d =
    let a = c.in-Some-Some.from in
    let b = c.in-Some-Some.to in
    no_room a b (not_before c.order.result a.t a.u b.t b.u c.order.ensures (sym c.if-not-is_lt.ensures)) t u
    (subst (λ (o : Option Spot). After o t u) c.in-Some-Some.is-0 d.after) (subst (λ (o : Option Spot). Until o t u) c.in-Some-Some.is-1 d.until)
