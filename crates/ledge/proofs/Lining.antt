-- What is on a surface lies between its ends, and the other way round. Assumes nothing.
use Rattle.std.proofs.Common.{◌≡◌, ℕ, zero, suc, ◌+◌, ◌*◌, ◌<◌, List, [], ◌∷◌, ℤ, pos, ◌+ℤ◌, ◌-ℤ◌, ◌*ℤ◌, nat_abs, ◌≤ℤ◌, ◌<ℤ◌, sym, refl, ap, ◌∙◌, ap₂, arith}
use borrow.Author.Differences.{ints}
use Rattle.algebra.specs.Hall.{Corner, Place, Shape, Hall, side, between, corner}
use Rattle.algebra.specs.Forms.{value, line}
use Rattle.algebra.proofs.Polynomial.{forms, by_ring}
use Rattle.algebra.proofs.Ring.{*ℤ-zero}
use Rattle.algebra.proofs.Order.{signs, by-≡, by-≤, untimes-≤, untimes-≡, times-<, pos>0}
use Rattle.exact.specs.Meets.{Among}
use Rattle.exact.proofs.Crossings.{among_line, size_up}
use Rattle.ledge.specs.Lines.{OnLines, left_end, right_end}
use Rattle.ledge.specs.Sides.{end}
use Rattle.ledge.specs.Surfaces.{Surface, bottom, top, obstacle, Stands, On}

-- a place that a line from a to b, to the right, goes through, at an abscissa from that of a to that of b
pub among_from_line : (a b : Corner) (p : Place) → 0 < p.w → a.x <ℤ b.x → (a.x *ℤ pos p.w) ≤ℤ p.x → p.x ≤ℤ (b.x *ℤ pos p.w) → value (line a b) p ≡ pos 0 → Among a b p
unfolding between value line
among_from_line a b p w h from to z =
    let i : ℤ = p.x -ℤ (a.x *ℤ pos p.w) in
    let j : ℤ = (b.x *ℤ pos p.w) -ℤ p.x in
    let t : ℕ = nat_abs i in
    let u : ℕ = nat_abs j in
    let et : pos t ≡ i = size_up i (omega (arith, ints)) in
    let eu : pos u ≡ j = size_up j (omega (arith, ints)) in
    let l = times-< a.x b.x (pos p.w) h (pos>0 p.w w) in
    record {
      t = t;
      u = u;
      some = omega (arith, ints);
      same = record {
        x = ap₂ (λ (m n : ℤ). p.x *ℤ ((pos 1 *ℤ pos 1) *ℤ (m +ℤ n))) et eu ∙ by_ring (a.x ∷ a.y ∷ b.x ∷ b.y ∷ p.x ∷ p.y ∷ pos p.w ∷ []) (search forms depth 60 fits 99999) refl ∙ sym (ap₂ (λ (m n : ℤ). (((a.x *ℤ pos 1) *ℤ n) +ℤ ((b.x *ℤ pos 1) *ℤ m)) *ℤ pos p.w) et eu);
        y = ap₂ (λ (m n : ℤ). p.y *ℤ ((pos 1 *ℤ pos 1) *ℤ (m +ℤ n))) et eu ∙ by-≡ (value (line a b) p *ℤ pos p.w) (pos 0 *ℤ pos p.w) (ap (λ (m : ℤ). m *ℤ pos p.w) z) (by_ring (a.x ∷ a.y ∷ b.x ∷ b.y ∷ p.x ∷ p.y ∷ pos p.w ∷ []) (search forms depth 60 fits 99999) refl) ∙ sym (ap₂ (λ (m n : ℤ). (((a.y *ℤ pos 1) *ℤ n) +ℤ ((b.y *ℤ pos 1) *ℤ m)) *ℤ pos p.w) et eu);
      };
    }

-- what lies between two corners goes no farther than they do
module _ (a b : Corner) (p : Place) (k : Among a b p) (h : a.x ≤ℤ b.x) where
  weighed_x : p.x *ℤ pos (k.t + k.u) ≡ ((a.x *ℤ pos k.u) +ℤ (b.x *ℤ pos k.t)) *ℤ pos p.w
  unfolding between
  weighed_x = by-≡ _ _ k.same.x (by_ring (a.x ∷ b.x ∷ p.x ∷ pos p.w ∷ pos k.t ∷ pos k.u ∷ []) (search forms depth 60 fits 99999) refl)

  pub among_right_of : (a.x *ℤ pos p.w) ≤ℤ p.x
  among_right_of =
      untimes-≤ (a.x *ℤ pos p.w) p.x (pos (k.t + k.u)) (pos>0 (k.t + k.u) k.some)
      (by-≤ (((b.x -ℤ a.x) *ℤ pos k.t) *ℤ pos p.w) (search signs depth 12 fits 5000) (weighed_x ∙ by_ring (a.x ∷ b.x ∷ pos p.w ∷ pos k.t ∷ pos k.u ∷ []) (search forms depth 60 fits 99999) refl))

  pub among_left_of : p.x ≤ℤ (b.x *ℤ pos p.w)
  among_left_of =
      untimes-≤ p.x (b.x *ℤ pos p.w) (pos (k.t + k.u)) (pos>0 (k.t + k.u) k.some)
      (by-≤ (((b.x -ℤ a.x) *ℤ pos k.u) *ℤ pos p.w) (search signs depth 12 fits 5000) (by-≡ _ _ (sym weighed_x) (by_ring (a.x ∷ b.x ∷ p.x ∷ pos p.w ∷ pos k.t ∷ pos k.u ∷ []) (search forms depth 60 fits 99999) refl)))

-- the value of a line's form is the side of the line
pub line_side : (a b : Corner) (p : Place) → value (line a b) p ≡ side a b p
unfolding value line side
line_side a b p = by_ring (a.x ∷ a.y ∷ b.x ∷ b.y ∷ p.x ∷ p.y ∷ pos p.w ∷ []) (search forms depth 60 fits 99999) refl

-- the bottom wall runs from 0 to n at height 0, and may be a single corner
left : Corner
left = record { x = pos 0; y = pos 0 }

right : ℕ → Corner
right n = record { x = pos n; y = pos 0 }

wall_value : (p : Place) → value (record { a = pos 0; b = pos 1; c = pos 0 }) p ≡ p.y
unfolding value
wall_value p = by_ring (p.x ∷ p.y ∷ pos p.w ∷ []) (search forms depth 60 fits 99999) refl

wall_line : (n : ℕ) (p : Place) → value (line left (right n)) p ≡ pos n *ℤ p.y
unfolding value line left right
wall_line n p = by_ring (pos n ∷ p.x ∷ p.y ∷ pos p.w ∷ []) (search forms depth 60 fits 99999) refl

among_wall : (n : ℕ) (p : Place) → 0 < p.w → pos 0 ≤ℤ p.x → p.x ≤ℤ pos (n * p.w) → p.y ≡ pos 0 → Among left (right n) p
unfolding between left right
among_wall zero p w from to z = record { t = 0; u = 1; some = omega arith; same = record { x = omega (arith, ints); y = omega (arith, ints) } }
among_wall (suc n) p w from to z =
    among_from_line left (right (suc n)) p w (omega (arith, ints)) (omega (arith, ints)) to (wall_line (suc n) p ∙ ap (λ (y : ℤ). pos (suc n) *ℤ y) z ∙ *ℤ-zero (pos (suc n)))

wall_level : (n : ℕ) (p : Place) → Among left (right n) p → p.y ≡ pos 0
unfolding between left right
wall_level n p k =
    untimes-≡ p.y (pos 0) (pos (k.t + k.u)) (pos>0 (k.t + k.u) k.some)
    (by-≡ _ _ k.same.y (by_ring (p.y ∷ pos p.w ∷ pos k.t ∷ pos k.u ∷ []) (search forms depth 60 fits 99999) refl))

among : (h : Hall) (gs : List Shape) (s : Surface) (p : Place) → On h gs s p → Among (left_end gs s) (right_end h gs s) p
unfolding left right
among h gs bottom p o = among_wall h.wide p o.real o.reaches.0 o.reaches.1 (sym (wall_value p) ∙ o.level)
among h gs (top k i) p o =
    let g = obstacle gs k in
    let v = o.reaches.1 in
    among_from_line (end g i) (corner g i) p o.real v.upper.runs v.from v.to o.level

on : (h : Hall) (gs : List Shape) (s : Surface) (p : Place) → Stands gs s → 0 < p.w → Among (left_end gs s) (right_end h gs s) p → On h gs s p
unfolding left right
on h gs bottom p s w k =
    let l : pos 0 ≤ℤ pos h.wide = omega (arith, ints) in
    record {
      real = w;
      reaches = (omega (arith, ints, among_right_of left (right h.wide) p k l), among_left_of left (right h.wide) p k l);
      level = wall_value p ∙ wall_level h.wide p k;
    }
on h gs (top j i) p s w k =
    let g = obstacle gs j in
    let l : (end g i).x ≤ℤ (corner g i).x = omega (arith, ints, s.1.runs) in
    record {
      real = w;
      reaches = (s.0, record { upper = s.1; from = among_right_of (end g i) (corner g i) p k l; to = among_left_of (end g i) (corner g i) p k l });
      level = line_side (end g i) (corner g i) p ∙ among_line (end g i) (corner g i) p k;
    }

onward : (h : Hall) (gs : List Shape) (s : Surface) → Stands gs s → (left_end gs s).x ≤ℤ (right_end h gs s).x
onward h gs bottom s = omega (arith, ints)
onward h gs (top k i) s = omega (arith, ints, s.1.runs)

pub on_lines : OnLines
on_lines = record { among = among; on = on; onward = onward }
