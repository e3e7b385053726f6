-- Surfaces that stand, and what is said of them at another place of the same abscissa. Assumes nothing.
use Rattle.std.proofs.Common.{◌≡◌, ℕ, ◌*◌, ◌<◌, List, [], ◌∷◌, ℤ, pos, ◌-ℤ◌, ◌*ℤ◌, neg_ℤ, sym, refl, ap, ◌∙◌, arith}
use borrow.Author.Differences.{ints}
use Rattle.algebra.specs.Hall.{Place, Shape, Hall, Within, corner, edge, between}
use Rattle.algebra.specs.Forms.{SameSign, value, line}
use Rattle.algebra.proofs.Polynomial.{forms, by_ring}
use Rattle.algebra.proofs.Order.{by-≡}
use Rattle.algebra.proofs.Forms.{of_place, same_sign, side_is_form}
use Rattle.obstacle.specs.Section.{Spans}
use Rattle.obstacle.proofs.Mixed.{side_back}
use Rattle.ledge.specs.Heights.{Rises, Abreast}
use Rattle.ledge.specs.Sides.{LowerOver, UpperOver, Upper, roof, end}
use Rattle.ledge.specs.Surfaces.{Surface, bottom, top, above, obstacle, Stands, Reaches, Spanned, Holds}

-- ---- forms that rise
pub roof_rises : (g : Shape) (i : ℕ) → Upper g i → Rises (roof g i)
unfolding line
roof_rises g i u = omega (arith, ints, u.runs)

pub lower_rises : (g : Shape) (i : ℕ) (p : Place) → LowerOver g i p → Rises (line (corner g i) (end g i))
unfolding line
lower_rises g i p l = omega (arith, ints, l.runs)

pub rises : (gs : List Shape) (s : Surface) → Stands gs s → Rises (above gs s)
rises gs bottom st = omega (arith, ints)
rises gs (top k i) st = roof_rises (obstacle gs k) i st.1

pub stands : (h : Hall) (gs : List Shape) (s : Surface) (p : Place) → Reaches h gs s p → Stands gs s
stands h gs bottom p r = tt
stands h gs (top k i) p r = (r.0, r.1.upper)

-- how far a place is above the bottom wall
pub bottom_value : (gs : List Shape) (p : Place) → value (above gs bottom) p ≡ p.y
unfolding value
bottom_value gs p = by_ring (of_place p []) (search forms depth 60 fits 99999) refl

-- it holds up every place of the hall
pub bottom_holds : (h : Hall) (gs : List Shape) (p : Place) → Within h p → Holds h gs bottom p
bottom_holds h gs p walls = record { reaches = (walls.left, walls.right); spans = tt; not_above = omega (arith, ints, bottom_value gs p, walls.low) }

-- ---- sides and their forms: what is below an upper side is to the left of it
pub edge_value : (g : Shape) (i : ℕ) (p : Place) → edge g i p ≡ value (line (corner g i) (end g i)) p
unfolding edge
edge_value g i p = side_is_form (corner g i) (end g i) p

pub roof_edge : (g : Shape) (i : ℕ) (p : Place) → value (roof g i) p ≡ neg_ℤ (edge g i p)
unfolding edge
roof_edge g i p = sym (side_is_form (end g i) (corner g i) p) ∙ side_back (end g i) (corner g i) p

-- ---- the same abscissa
-- every place on an upright stretch has the abscissa of its end
pub between_abreast : (p q : Place) (t u : ℕ) → Abreast p q → Abreast (between p q t u) q
unfolding between
between_abreast p q t u e =
    by-≡ ((p.x *ℤ pos q.w) *ℤ pos (q.w * u)) ((q.x *ℤ pos p.w) *ℤ pos (q.w * u)) (ap (λ (x : ℤ). x *ℤ pos (q.w * u)) e)
    (by_ring (p.x ∷ q.x ∷ pos p.w ∷ pos q.w ∷ pos t ∷ pos u ∷ []) (search forms depth 60 fits 99999) refl)

-- places of one abscissa are on the same side of every upright line
module _ (p q : Place) (wp : 0 < p.w) (wq : 0 < q.w) (e : Abreast p q) where
  pub abreast_sign : (c : ℤ) → SameSign (p.x -ℤ (c *ℤ pos p.w)) (q.x -ℤ (c *ℤ pos q.w))
  abreast_sign c =
      same_sign (p.x -ℤ (c *ℤ pos p.w)) (q.x -ℤ (c *ℤ pos q.w)) p.w q.w wp wq
      (by-≡ (p.x *ℤ pos q.w) (q.x *ℤ pos p.w) e
      (by_ring (c ∷ p.x ∷ q.x ∷ pos p.w ∷ pos q.w ∷ []) (search forms depth 60 fits 99999) refl))

  pub lower_abreast : (g : Shape) (i : ℕ) → LowerOver g i p → LowerOver g i q
  lower_abreast g i l =
      record {
        within = l.within;
        runs = l.runs;
        from = omega (arith, ints, (abreast_sign (corner g i).x).not_below (omega (arith, ints, l.from)));
        to = omega (arith, ints, (abreast_sign (end g i).x).not_above (omega (arith, ints, l.to)));
      }

  pub upper_abreast : (g : Shape) (i : ℕ) → UpperOver g i p → UpperOver g i q
  upper_abreast g i u =
      record {
        upper = u.upper;
        from = omega (arith, ints, (abreast_sign (end g i).x).not_below (omega (arith, ints, u.from)));
        to = omega (arith, ints, (abreast_sign (corner g i).x).not_above (omega (arith, ints, u.to)));
      }

  pub spans_abreast : (g : Shape) → Spans g p → Spans g q
  spans_abreast g s =
      record {
        i = s.i;
        j = s.j;
        i_within = s.i_within;
        j_within = s.j_within;
        left = omega (arith, ints, (abreast_sign (corner g s.i).x).above (omega (arith, ints, s.left)));
        right = omega (arith, ints, (abreast_sign (corner g s.j).x).below (omega (arith, ints, s.right)));
      }

  pub reaches_abreast : (h : Hall) (gs : List Shape) (s : Surface) → Reaches h gs s p → Reaches h gs s q
  reaches_abreast h gs bottom r =
      ((same_sign p.x q.x p.w q.w wp wq e).not_below r.0, omega (arith, ints, (abreast_sign (pos h.wide)).not_above (omega (arith, ints, r.1))))
  reaches_abreast h gs (top k i) r = (r.0, upper_abreast (obstacle gs k) i r.1)

  pub spanned_abreast : (gs : List Shape) (s : Surface) → Spanned gs s p → Spanned gs s q
  spanned_abreast gs bottom s = tt
  spanned_abreast gs (top k i) s = spans_abreast (obstacle gs k) s
