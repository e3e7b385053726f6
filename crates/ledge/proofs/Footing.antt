-- A place that is not below a line, and its foot on that line. Assumes nothing.
use Rattle.std.proofs.Common.{◌≡◌, ◌*◌, ◌<◌, List, [], ◌∷◌, pos, ◌-ℤ◌, neg_ℤ, ◌≤ℤ◌, sym, refl, arith}
use borrow.Author.Differences.{ints}
use Rattle.std.proofs.lemmas.Int.{by_lt_z}
use Rattle.algebra.specs.Hall.{Place, Shape, Hall, Within}
use Rattle.algebra.specs.Forms.{Form, value}
use Rattle.algebra.proofs.Polynomial.{forms, by_ring}
use Rattle.algebra.proofs.Order.{product≥0, factor≥0, weaker}
use Rattle.algebra.proofs.Forms.{of_place}
use Rattle.ledge.specs.Heights.{Feet, Rises, foot}
use Rattle.ledge.specs.Surfaces.{bottom, above}
use Rattle.ledge.proofs.Standing.{bottom_value, reaches_abreast}
use Rattle.ledge.proofs.Falling.{over_foot}

-- what rises and is not below 0 at the foot is not below 0 at the place
pub over_foot≥0 : Feet → (f g : Form) (p : Place) → Rises f → Rises g → pos 0 ≤ℤ value f p → pos 0 ≤ℤ value g (foot f p) → pos 0 ≤ℤ value g p
over_foot≥0 feet f g p rf rg over h = factor≥0 f.b (value g p) rf (omega (arith, ints, feet.values f g p rf, product≥0 g.b (value f p) (weaker g.b rg) over))

-- above 0 above the hall
abbrev ceiling : Hall → Form
ceiling h = record { a = pos 0; b = pos 1; c = neg_ℤ (pos h.high) }

ceiling_value : (h : Hall) (p : Place) → value (ceiling h) p ≡ p.y -ℤ pos (h.high * p.w)
unfolding value
ceiling_value h p = by_ring (of_place p (pos h.high ∷ [])) (search forms depth 60 fits 99999) refl

-- the foot is in the hall, unless it is below
pub foot_within : Feet → (h : Hall) (gs : List Shape) (f : Form) (p : Place) → Rises f → 0 < p.w → Within h p → pos 0 ≤ℤ value f p → pos 0 ≤ℤ value (above gs bottom) (foot f p) → Within h (foot f p)
foot_within feet h gs f p rf wp walls over low =
    let q = foot f p in
    let r = reaches_abreast p q wp (feet.real f p rf wp) (sym (feet.abreast f p rf)) h gs bottom (walls.left, walls.right) in
    record {
      left = r.0;
      right = r.1;
      low = omega (arith, ints, bottom_value gs q);
      high = by_lt_z (pos 0) (value (ceiling h) q)
          (λ n. absurd (omega (arith, ints, over_foot feet f (ceiling h) p rf (omega (arith, ints)) over n, ceiling_value h p, walls.high)))
          (λ n. omega (arith, ints, ceiling_value h q));
    }
