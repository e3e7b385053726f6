-- A free place falls freely to its floor. Assumes nothing.
use Rattle.std.proofs.Common.{◌≡◌, ℕ, ◌+◌, ◌*◌, ◌<◌, List, [], ◌∷◌, length, pos, ◌-ℤ◌, neg_ℤ, ◌≤ℤ◌, ◌<ℤ◌, sym, refl, ⊎_elim, arith}
use borrow.Author.Differences.{ints}
use Rattle.std.proofs.lemmas.Int.{by_lt_z}
use Rattle.algebra.specs.Hall.{Place, Shape, Hall, Inside, Within, Free, Straight, between, corner, edge}
use Rattle.algebra.specs.Forms.{Form, value, line}
use Rattle.algebra.proofs.Polynomial.{forms, by_ring}
use Rattle.algebra.proofs.Order.{product≥0, product≤0, factor>0, weaker}
use Rattle.algebra.proofs.Forms.{of_place, sign_along, stretch}
use Rattle.obstacle.specs.Freedom.{Obstacles}
use Rattle.obstacle.specs.Section.{Spans}
use Rattle.obstacle.proofs.Section.{inside_spans}
use Rattle.motion.proofs.DriveStretches.{straight_from}
use Rattle.ledge.specs.Heights.{Feet, Rises, Abreast, foot}
use Rattle.ledge.specs.Sides.{LowerOver, UpperOver, HasSides, BetweenSides, roof, end}
use Rattle.ledge.specs.Surfaces.{bottom, top, above, obstacle, On, Floor, landing, Falls}
use Rattle.ledge.proofs.Standing.{rises, stands, lower_rises, bottom_value, bottom_holds, edge_value, roof_edge, between_abreast, spans_abreast, reaches_abreast}

-- what is above 0 at the foot of a form is above 0 over it
pub over_foot : Feet → (f g : Form) (p : Place) → Rises f → Rises g → pos 0 ≤ℤ value f p → pos 0 <ℤ value g (foot f p) → pos 0 <ℤ value g p
over_foot feet f g p rf rg h k = factor>0 f.b (value g p) rf (omega (arith, ints, feet.values f g p rf, product≥0 g.b (value f p) (weaker g.b rg) h))

-- above 0 above the hall
abbrev ceiling : Hall → Form
ceiling h = record { a = pos 0; b = pos 1; c = neg_ℤ (pos h.high) }

ceiling_value : (h : Hall) (p : Place) → value (ceiling h) p ≡ p.y -ℤ pos (h.high * p.w)
unfolding value
ceiling_value h p = by_ring (of_place p (pos h.high ∷ [])) (search forms depth 60 fits 99999) refl

module _ (feet : Feet) (has_sides : HasSides) (between_sides : BetweenSides) (h : Hall) (gs : List Shape) (p : Place) (obstacles : Obstacles h gs) (free : Free h p) (f : Floor h gs p) where
  abbrev form : Form
  form = above gs f.surface

  form_rises : Rises form
  form_rises = rises gs f.surface (stands h gs f.surface p f.holds.reaches)

  foot_real : 0 < (landing f).w
  foot_real = feet.real form p form_rises free.real

  foot_abreast : Abreast (landing f) p
  foot_abreast = feet.abreast form p form_rises

  on_floor : On h gs f.surface (landing f)
  on_floor =
      record {
        real = foot_real;
        reaches = reaches_abreast p (landing f) free.real foot_real (sym foot_abreast) h gs f.surface f.holds.reaches;
        level = feet.level form p form_rises;
      }

  -- the floor is in the hall: not below the bottom wall, and not above p
  foot_within : Within h (landing f)
  foot_within =
      let b = bottom_holds h gs p free.walls in
      let r = reaches_abreast p (landing f) free.real foot_real (sym foot_abreast) h gs bottom b.reaches in
      let low : pos 0 ≤ℤ value (above gs bottom) (landing f) = f.highest bottom b in
      let c = product≤0 form.b (value (ceiling h) p) (weaker form.b form_rises) (omega (arith, ints, ceiling_value h p, free.walls.high)) in
      record {
        left = r.0;
        right = r.1;
        low = omega (arith, ints, bottom_value gs (landing f));
        high = omega (arith, ints, ceiling_value h (landing f), feet.values form (ceiling h) p form_rises, f.holds.not_above);
      }

  between_real : (t u : ℕ) → 0 < t + u → 0 < (between (landing f) p t u).w
  between_real t u some = stretch.real (landing f) p t u foot_real free.real some

  -- ---- no place of the fall is inside obstacle k
  module _ (t u : ℕ) (some : 0 < t + u) (k : ℕ) (few : k < length h.things) (inside : Inside (obstacle gs k) (between (landing f) p t u)) where
    abbrev spot : Place
    spot = between (landing f) p t u

    spans : Spans (obstacle gs k) p
    spans =
        spans_abreast spot p (between_real t u some) free.real (between_abreast (landing f) p t u foot_abreast) (obstacle gs k)
        (inside_spans (obstacle gs k) spot (obstacles.sound k few) (between_real t u some) inside)

    spot_left : (i : ℕ) → i < length (obstacle gs k) → pos 0 <ℤ edge (obstacle gs k) i spot
    unfolding Inside
    spot_left = inside

    -- p is above a lower side, since the spot or the floor is
    above_lower : (l : ℕ) → LowerOver (obstacle gs k) l p → pos 0 <ℤ edge (obstacle gs k) l p
    above_lower l low =
        let g = obstacle gs k in
        let side = line (corner g l) (end g l) in
        let at_spot : pos 0 <ℤ value side spot = omega (arith, ints, spot_left l low.within, edge_value g l spot) in
        let at_p : pos 0 <ℤ value side p =
        ⊎_elim (over_foot feet form side p form_rises (lower_rises g l p low) f.holds.not_above) (λ k. k)
        ((sign_along side (landing f) p t u foot_real free.real).comes>0 at_spot) in
        omega (arith, ints, edge_value g l p)

    -- an upper side that holds p up is not above the floor, nor above the spot
    not_held : (i : ℕ) → UpperOver (obstacle gs k) i p → pos 0 ≤ℤ value (roof (obstacle gs k) i) p → ⊥
    not_held i up held =
        let g = obstacle gs k in
        let at_floor = f.highest (top k i) (record { reaches = (omega (arith, obstacles.count), up); spans = spans; not_above = held }) in
        omega (arith, ints, (sign_along (roof g i) (landing f) p t u foot_real free.real).stays≥0 at_floor held, roof_edge g i spot, spot_left i up.upper.within)

    -- and one that doesn't has p below it, so that p is inside
    not_over : (l i : ℕ) → LowerOver (obstacle gs k) l p → UpperOver (obstacle gs k) i p → ⊥
    not_over l i low up =
        let g = obstacle gs k in
        by_lt_z (pos 0) (edge g i p)
        (λ left. free.things k few ((obstacles.grown k few).inside_meets p free.real
        (between_sides g p l i (obstacles.sound k few) free.real spans low up (above_lower l low) left)))
        (λ right. not_held i up (omega (arith, ints, roof_edge g i p)))

    never_inside : ⊥
    never_inside = let s = has_sides (obstacle gs k) p (obstacles.sound k few) free.real spans in not_over s.lower s.upper s.below s.above

  fall : On h gs f.surface (landing f) × Straight h (landing f) p
  fall = (
    on_floor,
    straight_from h (landing f) p foot_real free.real foot_within free.walls (λ t u n k l m.
        never_inside t u n k l ((obstacles.grown k l).meets_inside (between (landing f) p t u) (between_real t u n) m)),
  )

pub falls : Feet → HasSides → BetweenSides → Falls
falls = fall
