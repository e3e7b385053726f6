-- Spots of a surface as places: their order by abscissas, the spots between two others, and what lies on a stretch between two. Assumes nothing.
use Rattle.std.proofs.Common.{◌≡◌, ℕ, ◌+◌, ◌-◌, ◌*◌, ◌<◌, [], ◌∷◌, ℤ, pos, ◌+ℤ◌, ◌-ℤ◌, ◌*ℤ◌, ◌≤ℤ◌, ◌<ℤ◌, sym, refl, ap, ◌∙◌, subst, ap₂, ⊎_elim, mul-pos, arith}
use borrow.Author.Differences.{ints}
use Rattle.std.proofs.lemmas.Bool.{cases_lt}
use Rattle.std.proofs.Math.Nat.{mul-le-mul_right}
use Rattle.algebra.specs.Hall.{Corner, Place, Hall, Free, Straight, at, between}
use Rattle.algebra.specs.Forms.{Same}
use Rattle.algebra.proofs.Polynomial.{forms, by_ring}
use Rattle.algebra.proofs.Order.{signs, by-≡, factor>0, factor≥0, gap>0, gap≥0}
use Rattle.algebra.proofs.Forms.{of_corner, stretch}
use Rattle.algebra.proofs.Places.{same_standing, straightness}
use Rattle.ledge.specs.Shadows.{Before, Together, NotAfter}

abbrev pub spot : Corner → Corner → ℕ → ℕ → Place
spot a b t u = between (at a) (at b) t u

-- a spot is a place
pub spot_real : (a b : Corner) (t u : ℕ) → 0 < t + u → 0 < (spot a b t u).w
spot_real a b t u s = stretch.real (at a) (at b) t u (omega arith) (omega arith) s

-- ---- two places of the line, at the spots t u and v w
module _ (a b : Corner) (p q : Place) (t u v w : ℕ) (some : 0 < t + u) (some_too : 0 < v + w) (first : Same p (spot a b t u)) (second : Same q (spot a b v w)) where
  apart : (pos (t + u) *ℤ pos (v + w)) *ℤ ((q.x *ℤ pos p.w) -ℤ (p.x *ℤ pos q.w)) ≡ ((b.x -ℤ a.x) *ℤ (pos (v * u) -ℤ pos (t * w))) *ℤ (pos p.w *ℤ pos q.w)
  unfolding between
  apart =
      let k = pos p.w *ℤ pos (t + u) in
      let m = pos q.w *ℤ pos (v + w) in
      by-≡
      (((q.x *ℤ pos (spot a b v w).w) *ℤ k) +ℤ (((spot a b t u).x *ℤ pos p.w) *ℤ m))
      ((((spot a b v w).x *ℤ pos q.w) *ℤ k) +ℤ ((p.x *ℤ pos (spot a b t u).w) *ℤ m))
      (ap₂ (λ (x y : ℤ). (x *ℤ k) +ℤ (y *ℤ m)) second.x (sym first.x))
      (by_ring (of_corner a (of_corner b (p.x ∷ q.x ∷ pos p.w ∷ pos q.w ∷ pos t ∷ pos u ∷ pos v ∷ pos w ∷ []))) (search forms depth 60 fits 99999) refl)

  wide : pos 0 <ℤ (pos (t + u) *ℤ pos (v + w))
  wide = search signs

  pub left_to_right : a.x ≤ℤ b.x → NotAfter t u v w → (p.x *ℤ pos q.w) ≤ℤ (q.x *ℤ pos p.w)
  left_to_right l n =
      let d : pos 0 ≤ℤ (b.x -ℤ a.x) = gap≥0 a.x b.x l in
      let e : pos 0 ≤ℤ (pos (v * u) -ℤ pos (t * w)) = omega (arith, ints) in
      let z : pos 0 ≤ℤ (((b.x -ℤ a.x) *ℤ (pos (v * u) -ℤ pos (t * w))) *ℤ (pos p.w *ℤ pos q.w)) = search signs in
      omega (arith, ints, factor≥0 (pos (t + u) *ℤ pos (v + w)) ((q.x *ℤ pos p.w) -ℤ (p.x *ℤ pos q.w)) wide (subst (λ (y : ℤ). pos 0 ≤ℤ y) (sym apart) z))

  strictly : 0 < p.w → 0 < q.w → a.x <ℤ b.x → Before t u v w → (p.x *ℤ pos q.w) <ℤ (q.x *ℤ pos p.w)
  strictly wp wq l n =
      let d : pos 0 <ℤ (b.x -ℤ a.x) = gap>0 a.x b.x l in
      let e : pos 0 <ℤ (pos (v * u) -ℤ pos (t * w)) = omega (arith, ints) in
      let z : pos 0 <ℤ (((b.x -ℤ a.x) *ℤ (pos (v * u) -ℤ pos (t * w))) *ℤ (pos p.w *ℤ pos q.w)) = search signs in
      omega (arith, ints, factor>0 (pos (t + u) *ℤ pos (v + w)) ((q.x *ℤ pos p.w) -ℤ (p.x *ℤ pos q.w)) wide (subst (λ (y : ℤ). pos 0 <ℤ y) (sym apart) z))

  -- where the line is a single place, all abscissas are one
  pub no_order : a.x ≡ b.x → (p.x *ℤ pos q.w) ≤ℤ (q.x *ℤ pos p.w)
  no_order l =
      let d : (b.x -ℤ a.x) ≡ pos 0 = omega (arith, ints) in
      let n = ap (λ (y : ℤ). (y *ℤ (pos (v * u) -ℤ pos (t * w))) *ℤ (pos p.w *ℤ pos q.w)) d in
      let z : (pos 0 *ℤ (pos (v * u) -ℤ pos (t * w))) *ℤ (pos p.w *ℤ pos q.w) ≡ pos 0 = by_ring (pos p.w ∷ pos q.w ∷ pos t ∷ pos u ∷ pos v ∷ pos w ∷ []) (search forms depth 60 fits 99999) refl in
      omega (arith, ints, factor≥0 (pos (t + u) *ℤ pos (v + w)) ((q.x *ℤ pos p.w) -ℤ (p.x *ℤ pos q.w)) wide (omega (arith, ints, apart, n, z)))

-- what the abscissas say of the spots
pub spots_order : (a b : Corner) (p q : Place) (t u v w : ℕ) → 0 < t + u → 0 < v + w → Same p (spot a b t u) → Same q (spot a b v w) → 0 < p.w → 0 < q.w →
    a.x <ℤ b.x → (p.x *ℤ pos q.w) ≤ℤ (q.x *ℤ pos p.w) → NotAfter t u v w
spots_order a b p q t u v w s z e f wp wq l n =
    ⊎_elim (λ k. absurd (omega (arith, ints, strictly a b q p v w t u z s f e wq wp l k, n))) (λ k. k) (cases_lt (v * u) (t * w))

-- ---- one spot, written in two ways
pub together_same : (a b : Corner) (t u v w : ℕ) → Together t u v w → Same (spot a b t u) (spot a b v w)
unfolding between
together_same a b t u v w e =
    let f : pos (t * w) ≡ pos (v * u) = ap pos e in
    record {
      x = by-≡ ((b.x -ℤ a.x) *ℤ pos (t * w)) ((b.x -ℤ a.x) *ℤ pos (v * u)) (ap (λ (z : ℤ). (b.x -ℤ a.x) *ℤ z) f)
          (by_ring (of_corner a (of_corner b (pos t ∷ pos u ∷ pos v ∷ pos w ∷ []))) (search forms depth 60 fits 99999) refl);
      y = by-≡ ((b.y -ℤ a.y) *ℤ pos (t * w)) ((b.y -ℤ a.y) *ℤ pos (v * u)) (ap (λ (z : ℤ). (b.y -ℤ a.y) *ℤ z) f)
          (by_ring (of_corner a (of_corner b (pos t ∷ pos u ∷ pos v ∷ pos w ∷ []))) (search forms depth 60 fits 99999) refl);
    }

-- on a line that is a single place all spots are one
pub single_same : (a b : Corner) (t u v w : ℕ) → a ≡ b → Same (spot a b t u) (spot a b v w)
unfolding between
single_same a b t u v w e =
    subst (λ (c : Corner). Same (spot a c t u) (spot a c v w)) e
    (record {
      x = by_ring (of_corner a (pos t ∷ pos u ∷ pos v ∷ pos w ∷ [])) (search forms depth 60 fits 99999) refl;
      y = by_ring (of_corner a (pos t ∷ pos u ∷ pos v ∷ pos w ∷ [])) (search forms depth 60 fits 99999) refl;
    })

-- ---- what lies between two spots, r parts of r + s from the first: i and j are the weights of the second and the first
module _ (t u v w i j : ℕ) where
  pub mix_after : (m n : ℕ) → NotAfter m n t u → NotAfter m n v w → NotAfter m n (v * i + t * j) (w * i + u * j)
  mix_after m n h k = omega (arith, mul-le-mul_right i k, mul-le-mul_right j h)

  pub mix_until : (m n : ℕ) → NotAfter t u m n → NotAfter v w m n → NotAfter (v * i + t * j) (w * i + u * j) m n
  mix_until m n h k = omega (arith, mul-le-mul_right i k, mul-le-mul_right j h)

pub mixed_some : (t u v w r s : ℕ) → 0 < t + u → 0 < v + w → 0 < r + s → 0 < (v * ((t + u) * r) + t * ((v + w) * s)) + (w * ((t + u) * r) + u * ((v + w) * s))
mixed_some t u v w r s h k l =
    let m : 0 < ((v + w) * (t + u)) * (r + s) = mul-pos (mul-pos k h) l in
    omega (arith, m)

pub mixed_same : (a b : Corner) (t u v w r s : ℕ) → Same (between (spot a b t u) (spot a b v w) r s) (spot a b (v * ((t + u) * r) + t * ((v + w) * s)) (w * ((t + u) * r) + u * ((v + w) * s)))
unfolding between
mixed_same a b t u v w r s =
    record {
      x = by_ring (of_corner a (of_corner b (pos t ∷ pos u ∷ pos v ∷ pos w ∷ pos r ∷ pos s ∷ []))) (search forms depth 60 fits 99999) refl;
      y = by_ring (of_corner a (of_corner b (pos t ∷ pos u ∷ pos v ∷ pos w ∷ pos r ∷ pos s ∷ []))) (search forms depth 60 fits 99999) refl;
    }

-- a free stretch between two spots is free at each spot between them
balanced : (k x y vn tn mw mu : ℤ) → vn ≡ mw +ℤ y → mu ≡ tn +ℤ x → k *ℤ ((x *ℤ vn) +ℤ (y *ℤ tn)) ≡ k *ℤ ((x *ℤ mw) +ℤ (y *ℤ mu))
balanced k x y vn tn mw mu e f =
    ap (λ (z : ℤ). k *ℤ ((x *ℤ z) +ℤ (y *ℤ tn))) e
    ∙ (by_ring (k ∷ x ∷ y ∷ tn ∷ mw ∷ []) (search forms depth 60 fits 99999) refl
    ∙ sym (ap (λ (z : ℤ). k *ℤ ((x *ℤ mw) +ℤ (y *ℤ z))) f))

module _ (h : Hall) (a b : Corner) (t u v w m n : ℕ) (some : 0 < t + u) (some_too : 0 < v + w) (third : 0 < m + n) (free : Straight h (spot a b t u) (spot a b v w))
    (from : NotAfter t u m n) (to : NotAfter m n v w) where
  -- m n has gone x parts from t u, and y are left to v w
  weighed : (x y : ℕ) → m * u ≡ t * n + x → v * n ≡ m * w + y → 0 < x + y → Free h (spot a b m n)
  unfolding Straight
  weighed x y e f p =
      let r = x * (v + w) in
      let s = y * (t + u) in
      let i = (t + u) * r in
      let j = (v + w) * s in
      let rs : 0 < r + s = ⊎_elim (λ g. let k : 0 < x * (v + w) = mul-pos g some_too in omega arith) (λ g. let l : 0 < y = omega arith in let k : 0 < y * (t + u) = mul-pos l some in omega arith) (cases_lt 0 x) in
      let k = pos (t + u) *ℤ pos (v + w) in
      let z : pos ((v * i + t * j) * n) ≡ pos (m * (w * i + u * j)) =
      by-≡ (k *ℤ ((pos x *ℤ pos (v * n)) +ℤ (pos y *ℤ pos (t * n)))) (k *ℤ ((pos x *ℤ pos (m * w)) +ℤ (pos y *ℤ pos (m * u))))
      (balanced k (pos x) (pos y) (pos (v * n)) (pos (t * n)) (pos (m * w)) (pos (m * u)) (omega (arith, ints)) (omega (arith, ints)))
      (by_ring (pos t ∷ pos u ∷ pos v ∷ pos w ∷ pos m ∷ pos n ∷ pos x ∷ pos y ∷ []) (search forms depth 60 fits 99999) refl) in
      let together : Together (v * i + t * j) (w * i + u * j) m n = omega (arith, ints, z) in
      let mid = spot a b (v * i + t * j) (w * i + u * j) in
      let wm = spot_real a b (v * i + t * j) (w * i + u * j) (mixed_some t u v w r s some some_too rs) in
      same_standing.free h mid (spot a b m n) (spot_real a b m n third) (together_same a b (v * i + t * j) (w * i + u * j) m n together)
      (same_standing.free h (between (spot a b t u) (spot a b v w) r s) mid wm (mixed_same a b t u v w r s) (free r s rs))

  pub free_between : Free h (spot a b m n)
  free_between =
      ⊎_elim
      (λ l. weighed (m * u - t * n) (v * n - m * w) (omega arith) (omega arith) (omega arith))
      (λ l.
      ⊎_elim
      (λ g. weighed (m * u - t * n) (v * n - m * w) (omega arith) (omega arith) (omega arith))
      (λ g.
      let e : Together t u m n = omega arith in
      same_standing.free h (spot a b t u) (spot a b m n) (spot_real a b m n third) (together_same a b t u m n e) (straightness.start h (spot a b t u) (spot a b v w) free))
      (cases_lt (t * n) (m * u)))
      (cases_lt (m * w) (v * n))
