use Rattle.std.proofs.Common.{◌≡◌, ◌<◌, length, refl, sym, ◌∙◌, ap, subst, arith}
use Rattle.std.proofs.lemmas.List.{length-map}
use Rattle.std.proofs.lemmas.Bool.{both_ways}
use Rattle.algebra.specs.Hall.{Corner, Place, Shape, Free, at}
use Rattle.exact.specs.Points.{corner_of}
use Rattle.hall.specs.Shapes.{shape_of}
use Rattle.obstacle.proofs.Freely.{shape_item}
use Rattle.ledge.specs.Descents.{TipSide, end_at}
use Rattle.ledge.specs.Landings.{Floors}
use Rattle.ledge.specs.Lines.{surface_of}
use Rattle.ledge.specs.Surfaces.{obstacle}
use Rattle.ledge.proofs.Numbering.{seen, seen_count}
use Rattle.ledge.proofs.Tips.{tip_side_of, tip_end, end_free, end_here}
use Rattle.ledge.proofs.descents.descent_of.Goals as goal
use Rattle.ledge.proofs.descents.descent_of.Goals.{In_ok-shape, After-end_of-tip}

-- the obstacle stands, and the side that was found is its tip's
within : (c : In_ok-shape) → c.args.obstacle < length c.args.site.now.obstacles
within c = omega (arith, c.in_ok-shape.ensures.lookup.3.0, seen_count _ _ _ c.site.view_is)

shape_is : (c : In_ok-shape) → obstacle c.args.site.now.obstacles c.args.obstacle ≡ shape_of c.in_ok-shape.shape.now
shape_is c =
    let x = c.in_ok-shape.ensures.lookup in
    rw (seen _ _ _ c.site.view_is) at (shape_item c.site.inside.obstacles.now c.args.obstacle c.in_ok-shape.shape.now x.3.0 x.1)

tip_side : (c : After-end_of-tip) → (o : Shape) → o ≡ shape_of c.in_ok-shape.shape.now → TipSide o c.args.hand c.in_ok-side.side
tip_side c o e = subst (λ (y : Shape). TipSide y c.args.hand c.in_ok-side.side) (sym e) c.in_ok-side.ensures

tip_is : (c : After-end_of-tip) → (o : Shape) → o ≡ shape_of c.in_ok-shape.shape.now → corner_of c.end_of-tip.result ≡ end_at o c.in_ok-side.side c.args.hand
tip_is c o e =
    let s = c.side.ensures in
    c.end_of-tip.ensures.value ∙ (end_here (shape_of c.in_ok-shape.shape.now) c.in_ok-side.side _ s.from s.to c.args.hand ∙ ap (λ (y : Shape). end_at y c.in_ok-side.side c.args.hand) (sym e))

pub returns-in_err-side-clause-value : goal.returns-in_err-side-clause-value
returns-in_err-side-clause-value c =
    let s = c.args.site.now in
    let g = shape_is (goal.at.returns-in_err-side-clause-value c).In_ok-shape in
    rw c.from_residual-in_err-side.ensures
    (λ i e t o. c.in_err-side.ensures i (subst (λ (y : Shape). TipSide y c.args.hand i) g (tip_side_of s.task.hall s.obstacles c.args.obstacle c.args.hand i e t o)))

pub returns-then-not-is_free-clause-value : goal.returns-then-not-is_free-clause-value
returns-then-not-is_free-clause-value c i e t o =
    let d = (goal.at.returns-then-not-is_free-clause-value c).After-end_of-tip in
    let b = (goal.at.returns-then-not-is_free-clause-value c).In_ok-shape in
    let s = c.args.site.now in
    let k = c.args.obstacle in
    let g = shape_is b in
    let sound = rw (seen _ _ _ c.site.view_is) at (c.site.invariant.sound k (omega (arith, b.in_ok-shape.ensures.lookup.3.0, c.site.invariant.count, length-map c.site.inside.obstacles.now shape_of))) in
    let free = end_free s.task.hall s.obstacles k (within b) c.in_ok-side.side sound c.args.hand i e t o (tip_side d _ g) in
    let there = subst (λ (d : Corner). Free s.task.hall (at d)) (sym (tip_is d _ g)) free in
    both_ways c.is_free.result c.if-not-is_free.true (c.is_free.ensures.1 (subst (λ (p : Place). Free s.task.hall p) (sym c.from-there.ensures) there))

pub returns-clause-value : goal.returns-clause-value
returns-clause-value c =
    let d = (goal.at.returns-clause-value c).After-end_of-tip in
    let b = (goal.at.returns-clause-value c).In_ok-shape in
    let s = c.args.site.now in
    let g = shape_is b in
    let free = subst (λ (p : Place). Free s.task.hall p) c.from-there.ensures (c.is_free.ensures.0 c.if-not-is_free.false) in
    let t = tip_end s.task.hall s.obstacles c.args.obstacle (within b) c.in_ok-side.side c.args.hand (corner_of c.end_of-tip.result) (tip_is d _ g) (tip_side d _ g) free in
    record {
      within = within b;
      i = c.in_ok-side.side;
      surface = refl;
      near = c.end_of-tip.ensures.bound;
      tip = t.0;
      outermost = t.1;
      floor = subst (λ (p : Place). Floors s.task.hall s.obstacles p (surface_of c.floor_of.result)) c.from-there.ensures c.floor_of.ensures;
    }
