-- Linear forms at places: their values and signs on a stretch, where they are 0, the plane's identities, and the same place. Assumes nothing.
-- The atoms of an identity are put together by `of_form f (of_place p (..))`, for `by_ring`.
use Rattle.std.proofs.Common.{◌≡◌, ℕ, zero, suc, ◌+◌, ◌*◌, ◌<◌, ◌⊎◌, List, [], ◌∷◌, ℤ, pos, negsuc, ◌+ℤ◌, ◌*ℤ◌, neg_ℤ, nat_abs, ◌≤ℤ◌, ◌<ℤ◌, sym, refl, ◌∙◌, ap₂, inl, inr, mul_comm, mul-pos, arith}
use mathlib.Core.Logic.{⊎_map}
use lib.IntN.{+ℤ_comm}
use borrow.Author.Differences.{ints}
use Rattle.std.proofs.lemmas.Int.{by_lt_z}
use Rattle.algebra.specs.Hall.{Corner, Place, side, plus, between}
use Rattle.algebra.specs.Forms.{Form, value, negated, line, Same, SameSign, Along, Crosses}
use Rattle.algebra.specs.Laws.{SideIsForm, Interpolation, Moved, Negation, SignAlong, Stretch, ComesDown, GoesUp, Crossing, Triangle, ThreeVectors, SamePlace}
use Rattle.algebra.proofs.Polynomial.{forms, by_ring}
use Rattle.algebra.proofs.Order.{signs, pos>0, pos≥0, untimes-≡, untimes-<, untimes-≤, times-<, times-≤, by-≡}

-- ---- what a corner, a place and a form are made of
abbrev pub of_corner : Corner → List ℤ → List ℤ
of_corner c ρ = c.x ∷ c.y ∷ ρ

abbrev pub of_place : Place → List ℤ → List ℤ
of_place p ρ = p.x ∷ p.y ∷ pos p.w ∷ ρ

abbrev pub of_form : Form → List ℤ → List ℤ
of_form f ρ = f.a ∷ f.b ∷ f.c ∷ ρ

-- ---- values
pub side_is_form : SideIsForm
unfolding side value line
side_is_form a b p = by_ring (of_corner a (of_corner b (of_place p []))) (search forms depth 60 fits 99999) refl

pub interpolation : Interpolation
unfolding value between
interpolation f p q t u = by_ring (of_form f (of_place p (of_place q (pos t ∷ pos u ∷ [])))) (search forms depth 60 fits 99999) refl

pub moved : Moved
unfolding value plus
moved f p r = by_ring (of_form f (of_place p (of_place r []))) (search forms depth 60 fits 99999) refl

pub negation : Negation
unfolding value negated
negation f p = by_ring (of_form f (of_place p [])) (search forms depth 60 fits 99999) refl

-- ---- along a stretch
module _ (f : Form) (p q : Place) (t u : ℕ) where
  stays≥0 : pos 0 ≤ℤ value f p → pos 0 ≤ℤ value f q → pos 0 ≤ℤ value f (between p q t u)
  stays≥0 h k = rw interpolation (search signs)

  starts>0 : 0 < q.w → pos 0 <ℤ value f p → pos 0 ≤ℤ value f q → 0 < u → pos 0 <ℤ value f (between p q t u)
  starts>0 w h k n = rw interpolation (search signs)

  ends>0 : 0 < p.w → pos 0 ≤ℤ value f p → pos 0 <ℤ value f q → 0 < t → pos 0 <ℤ value f (between p q t u)
  ends>0 w h k n = rw interpolation (search signs)

-- below 0 is above 0 for the negated form
module _ (f : Form) (p : Place) where
  flip≥0 : value f p ≤ℤ pos 0 → pos 0 ≤ℤ value (negated f) p
  flip≥0 h = omega (arith, ints, negation f p)

  flip>0 : value f p <ℤ pos 0 → pos 0 <ℤ value (negated f) p
  flip>0 h = omega (arith, ints, negation f p)

  back≤0 : pos 0 ≤ℤ value (negated f) p → value f p ≤ℤ pos 0
  back≤0 h = omega (arith, ints, negation f p)

  back<0 : pos 0 <ℤ value (negated f) p → value f p <ℤ pos 0
  back<0 h = omega (arith, ints, negation f p)

module _ (f : Form) (p q : Place) (t u : ℕ) where
  stays≤0 : value f p ≤ℤ pos 0 → value f q ≤ℤ pos 0 → value f (between p q t u) ≤ℤ pos 0
  stays≤0 h k = back≤0 f (between p q t u) (stays≥0 (negated f) p q t u (flip≥0 f p h) (flip≥0 f q k))

  comes>0 : pos 0 <ℤ value f (between p q t u) → (pos 0 <ℤ value f p) ⊎ (pos 0 <ℤ value f q)
  comes>0 m = by_lt_z (pos 0) (value f p) inl (λ h. by_lt_z (pos 0) (value f q) inr (λ k. absurd (omega (arith, ints, stays≤0 h k))))

pub sign_along : SignAlong
sign_along f p q t u wp wq =
    let m = between p q t u in
    record {
      stays≥0 = stays≥0 f p q t u;
      starts>0 = starts>0 f p q t u wq;
      ends>0 = ends>0 f p q t u wp;
      stays≡0 = λ h k. omega (arith, ints, stays≥0 f p q t u (omega (arith, ints)) (omega (arith, ints)), stays≤0 f p q t u (omega (arith, ints)) (omega (arith, ints)));
      stays≤0 = stays≤0 f p q t u;
      starts<0 = λ h k n. back<0 f m (starts>0 (negated f) p q t u wq (flip>0 f p h) (flip≥0 f q k) n);
      ends<0 = λ h k n. back<0 f m (ends>0 (negated f) p q t u wp (flip≥0 f p h) (flip>0 f q k) n);
      comes>0 = comes>0 f p q t u;
      comes<0 = λ h. ⊎_map (back<0 f p) (back<0 f q) (comes>0 (negated f) p q t u (flip>0 f m h));
    }

-- the same of the side of a line
pub side_along : (a b : Corner) (p q : Place) (t u : ℕ) → 0 < p.w → 0 < q.w → Along (side a b p) (side a b q) (side a b (between p q t u)) t u
side_along a b p q t u wp wq = rw (side_is_form a b p, side_is_form a b q, side_is_form a b (between p q t u)) (sign_along (line a b) p q t u wp wq)

-- ---- the places of a stretch
place_same : {x y a b : ℤ} {v w : ℕ} → x ≡ a → y ≡ b → v ≡ w → ◌≡◌ {A = Place} (record { x = x; y = y; w = v }) (record { x = a; y = b; w = w })
place_same d e f = cc

pub stretch : Stretch
unfolding between
stretch =
    record {
      start = λ p q u.
          let ρ = of_place p (of_place q (pos u ∷ [])) in
          record { x = by_ring ρ (search forms depth 60 fits 99999) refl; y = by_ring ρ (search forms depth 60 fits 99999) refl };
      finish = λ p q t.
          let ρ = of_place p (of_place q (pos t ∷ [])) in
          record { x = by_ring ρ (search forms depth 60 fits 99999) refl; y = by_ring ρ (search forms depth 60 fits 99999) refl };
      back = λ p q t u. place_same (+ℤ_comm ((q.x *ℤ pos p.w) *ℤ pos t) ((p.x *ℤ pos q.w) *ℤ pos u)) (+ℤ_comm ((q.y *ℤ pos p.w) *ℤ pos t) ((p.y *ℤ pos q.w) *ℤ pos u)) (omega (arith, mul_comm p.w q.w));
      real = λ p q t u wp wq h. mul-pos (mul-pos wp wq) h;
      part = λ p q t u v w r s.
          let ρ = of_place p (of_place q (pos t ∷ pos u ∷ pos v ∷ pos w ∷ pos r ∷ pos s ∷ [])) in
          record { x = by_ring ρ (search forms depth 60 fits 99999) refl; y = by_ring ρ (search forms depth 60 fits 99999) refl };
    }

-- ---- where a form is 0
natural : (z : ℤ) → pos 0 ≤ℤ z → z ≡ pos (nat_abs z)
natural (pos n) h = refl
natural (negsuc n) h = absurd (omega (arith, ints))

-- t parts of t + u, with t the value at p and u that at q, each times the other's w
module _ (f : Form) (p q : Place) (wp : 0 < p.w) (wq : 0 < q.w) (m n : ℕ) (ep : value f p ≡ pos m) (eq : value f q ≡ neg_ℤ (pos n)) where
  crosses : (m ≡ 0 → n ≡ 0 → ⊥) → Crosses f p q
  crosses h = record {
    t = m * q.w;
    u = n * p.w;
    some = go m n h;
    zero = interpolation f p q (m * q.w) (n * p.w) ∙ rw (ep, eq) (by_ring (pos m ∷ pos n ∷ pos p.w ∷ pos q.w ∷ []) (search forms depth 60 fits 99999) refl);
    leaves = λ k. times>0 m q.w wq (λ e. k (omega (arith, ints)));
    arrives = λ k. times>0 n p.w wp (λ e. k (omega (arith, ints)));
  }
    where
      times>0 : (k w : ℕ) → 0 < w → (k ≡ 0 → ⊥) → 0 < k * w
      times>0 zero w h n = absurd (n refl)
      times>0 (suc k) w h n = mul-pos (omega arith) h

      go : (m n : ℕ) → (m ≡ 0 → n ≡ 0 → ⊥) → 0 < m * q.w + n * p.w
      go zero n h = omega (arith, times>0 n p.w wp (h refl))
      go (suc m) n h = omega (arith, times>0 (suc m) q.w wq (λ e. omega arith))

down : ComesDown
down f p q wp wq h k n =
    let ep : value f p ≡ pos (nat_abs (value f p)) = natural (value f p) h in
    let en : neg_ℤ (value f q) ≡ pos (nat_abs (neg_ℤ (value f q))) = natural (neg_ℤ (value f q)) (omega (arith, ints)) in
    crosses f p q wp wq (nat_abs (value f p)) (nat_abs (neg_ℤ (value f q))) ep (omega (arith, ints)) (λ a b. n (omega (arith, ints), omega (arith, ints)))

up : GoesUp
up f p q wp wq h k n =
    let zp : value (negated f) p ≡ pos 0 → value f p ≡ pos 0 = λ e. omega (arith, ints, negation f p) in
    let zq : value (negated f) q ≡ pos 0 → value f q ≡ pos 0 = λ e. omega (arith, ints, negation f q) in
    let c = down (negated f) p q wp wq (flip≥0 f p h) (omega (arith, ints, negation f q)) (λ e. n (zp e.0, zq e.1)) in
    record {
      t = c.t;
      u = c.u;
      some = c.some;
      zero = omega (arith, ints, c.zero, negation f (between p q c.t c.u));
      leaves = λ k. c.leaves (λ e. k (zp e));
      arrives = λ k. c.arrives (λ e. k (zq e));
    }

pub crossing : Crossing
crossing = record { down = down; up = up }

-- ---- the plane
pub triangle : Triangle
unfolding side
triangle a b c p =
    let ρ = of_corner a (of_corner b (of_corner c (of_place p []))) in
    record {
      sum = by_ring ρ (search forms depth 60 fits 99999) refl;
      x = by_ring ρ (search forms depth 60 fits 99999) refl;
      y = by_ring ρ (search forms depth 60 fits 99999) refl;
    }

pub three_vectors : ThreeVectors
three_vectors =
    record {
      x = λ ux uy vx vy nx ny. by_ring (ux ∷ uy ∷ vx ∷ vy ∷ nx ∷ ny ∷ []) (search forms depth 60 fits 99999) refl;
      y = λ ux uy vx vy nx ny. by_ring (ux ∷ uy ∷ vx ∷ vy ∷ nx ∷ ny ∷ []) (search forms depth 60 fits 99999) refl;
      product = λ fx fy gx gy ex ey zx zy. by_ring (fx ∷ fy ∷ gx ∷ gy ∷ ex ∷ ey ∷ zx ∷ zy ∷ []) (search forms depth 60 fits 99999) refl;
    }

-- ---- the same place

-- a / u is b / v and that is c / w, so a / u is c / w
pub fraction_trans : (a b c : ℤ) (u v w : ℕ) → 0 < v → a *ℤ pos v ≡ b *ℤ pos u → b *ℤ pos w ≡ c *ℤ pos v → a *ℤ pos w ≡ c *ℤ pos u
fraction_trans a b c u v w h d e =
    untimes-≡ (a *ℤ pos w) (c *ℤ pos u) (pos v) (pos>0 v h)
    (by-≡ (((a *ℤ pos v) *ℤ pos w) +ℤ ((b *ℤ pos w) *ℤ pos u)) (((b *ℤ pos u) *ℤ pos w) +ℤ ((c *ℤ pos v) *ℤ pos u))
    (ap₂ (λ (x y : ℤ). (x *ℤ pos w) +ℤ (y *ℤ pos u)) d e)
    (by_ring (a ∷ b ∷ c ∷ pos u ∷ pos v ∷ pos w ∷ []) (search forms depth 60 fits 99999) refl))

pub same_scaled : (f : Form) (p q : Place) → Same p q → value f p *ℤ pos q.w ≡ value f q *ℤ pos p.w
unfolding value
same_scaled f p q s =
    by-≡ ((f.a *ℤ (p.x *ℤ pos q.w)) +ℤ (f.b *ℤ (p.y *ℤ pos q.w))) ((f.a *ℤ (q.x *ℤ pos p.w)) +ℤ (f.b *ℤ (q.y *ℤ pos p.w)))
    (ap₂ (λ (x y : ℤ). (f.a *ℤ x) +ℤ (f.b *ℤ y)) s.x s.y)
    (by_ring (of_form f (of_place p (of_place q []))) (search forms depth 60 fits 99999) refl)

-- v n = w m with m and n above 0
pub same_sign : (v w : ℤ) (m n : ℕ) → 0 < m → 0 < n → v *ℤ pos n ≡ w *ℤ pos m → SameSign v w
same_sign v w m n hm hn e =
    let pm = pos>0 m hm in
    let pn = pos>0 n hn in
    let not_below : pos 0 ≤ℤ v → pos 0 ≤ℤ w = λ h. untimes-≤ (pos 0) w (pos m) pm (omega (arith, ints, times-≤ (pos 0) v (pos n) h (pos≥0 n))) in
    let not_above : v ≤ℤ pos 0 → w ≤ℤ pos 0 = λ h. untimes-≤ w (pos 0) (pos m) pm (omega (arith, ints, times-≤ v (pos 0) (pos n) h (pos≥0 n))) in
    record {
      above = λ h. untimes-< (pos 0) w (pos m) (pos≥0 m) (omega (arith, ints, times-< (pos 0) v (pos n) h pn));
      not_below = not_below;
      level = λ z. omega (arith, ints, not_below (omega (arith, ints)), not_above (omega (arith, ints)));
      not_above = not_above;
      below = λ h. untimes-< w (pos 0) (pos m) (pos≥0 m) (omega (arith, ints, times-< v (pos 0) (pos n) h pn));
    }

pub side_same : (a b : Corner) (p q : Place) → 0 < p.w → 0 < q.w → Same p q → SameSign (side a b p) (side a b q)
side_same a b p q hp hq s = rw (side_is_form a b p, side_is_form a b q) (same_sign (value (line a b) p) (value (line a b) q) p.w q.w hp hq (same_scaled (line a b) p q s))

pub same_place : SamePlace
same_place =
    record {
      reflexive = λ p. record { x = refl; y = refl };
      symmetric = λ p q s. record { x = sym s.x; y = sym s.y };
      transitive = λ p q r h s t. record { x = fraction_trans p.x q.x r.x p.w q.w r.w h s.x t.x; y = fraction_trans p.y q.y r.y p.w q.w r.w h s.y t.y };
      scaled = same_scaled;
      signs = λ f p q hp hq s. same_sign (value f p) (value f q) p.w q.w hp hq (same_scaled f p q s);
    }
