use Rattle.std.proofs.Common.{◌≡◌, pos, refl, sym, ap, ◌∙◌, arith, w64, to_z, of_z, ℤ}
use borrow.Author.Differences.{ints}
use lib.Signed.{le_z}
use Rattle.algebra.proofs.Ranges.{knows, by_value}
use Rattle.exact.specs.Points.{corner_of, place_of}
use Rattle.hall.specs.Shapes.{shape_of}
use Rattle.hall.proofs.Sounds.{le_from_le_z, le_z_from_le}
use Rattle.obstacle.specs.Section.{Spans}
use Rattle.ledge.specs.Landings.{IsOver}
use Rattle.ledge.proofs.Lining.{line_side}
use Rattle.ledge.proofs.uprights.Upright.is_held_by.Goals as goal
use Rattle.ledge.proofs.uprights.Upright.is_held_by.Goals.{then-reaches, else-reaches}

pub returns-then-is_spanned : goal.returns-then-is_spanned
returns-then-is_spanned c =
    let p = place_of c.args.self.p in
    let z = c.value.result in
    let v = line_side (corner_of c.args.roof.side.from) (corner_of c.args.roof.side.to) p in
    let e : to_z w64 (of_z w64 z) ≡ z = by_value (search (knows, c.value.ensures.bound) depth 60 fits 99999) refl in
    let f = ap (λ (y : ℤ). le_z (pos 0) y) e in
    let both : IsOver c.args.roof.side p × Spans (shape_of c.args.shape.now) p =
    elim c.if-reaches.branch [
      | then-reaches w ↦ (c.reaches.ensures.0 w.if-reaches.true, w.is_spanned.ensures.0 (cc))
      | else-reaches w ↦ absurd (cc)
    ] in (
      λ t. record { over = both.0; spans = both.1; not_above = let n = le_from_le_z (pos 0) z (sym f ∙ t) in omega (arith, ints, n, c.value.ensures.value, v) },
      λ o. f ∙ le_z_from_le (pos 0) z (omega (arith, ints, o.not_above, c.value.ensures.value, v)),
    )
