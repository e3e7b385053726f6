-- Two sides, from a to b and from c to d: the place where they meet, by the ends of each against the line of the other. Assumes nothing.
use Rattle.std.proofs.Common.{◌≡◌, ℕ, ◌+◌, ◌-◌, ◌*◌, ◌^◌, ◌<◌, ◌≤◌, [], ◌∷◌, ℤ, pos, negsuc, ◌+ℤ◌, ◌-ℤ◌, ◌*ℤ◌, neg_ℤ, nat_abs, ◌≤ℤ◌, ◌<ℤ◌, sym, refl, ap, ◌∙◌, subst, ap₂, mul-le-mul_left, mul-add, arith}
use lib.IntN.{*ℤ_comm}
use borrow.Author.Differences.{ints}
use Rattle.std.proofs.lemmas.Int.{by_lt_z}
use Rattle.algebra.specs.Hall.{Corner, Place, at, side, between}
use Rattle.algebra.specs.Near.{Near}
use Rattle.algebra.proofs.Ring.{zero-*ℤ, *ℤ-zero, negℤ-*ℤ}
use Rattle.algebra.proofs.Polynomial.{forms, by_ring}
use Rattle.algebra.proofs.Order.{signs, by-≡, times-≤, untimes-≡, product>0, pos≥0, pos>0}
use Rattle.algebra.proofs.Ranges.{knows}
use Rattle.exact.specs.declared.points.Ends.{Ends}
use Rattle.exact.specs.declared.points.Place as code
use Rattle.exact.specs.declared.points.Side.{Side}
use Rattle.exact.specs.Points.{corner_of, place_of}
use Rattle.exact.specs.Sides.{SideNear, PlaceNear, turning}
use Rattle.algebra.specs.Forms.{Same}
use Rattle.exact.specs.Meets.{Among, On, EndsOf, Met}
use Rattle.exact.proofs.Bounds.{by_near, side_near}

-- ---- signs
-- of two numbers that are not of one sign, the less is not above 0, and the greater not below
pub spread : (a b : ℤ) → a <ℤ b → (a *ℤ b) ≤ℤ pos 0 → (a ≤ℤ pos 0) × (pos 0 ≤ℤ b)
spread a b h k = (
  by_lt_z (pos 0) a (λ t. absurd (omega (arith, ints, product>0 a b t (omega (arith, ints))))) (λ t. t),
  by_lt_z b (pos 0) (λ t. absurd (omega (arith, ints, product>0 (neg_ℤ a) (neg_ℤ b) (omega (arith, ints)) (omega (arith, ints)), minus a b))) (λ t. t),
)
  where
    minus : (a b : ℤ) → neg_ℤ a *ℤ neg_ℤ b ≡ a *ℤ b
    minus a b = by_ring (a ∷ b ∷ []) (search forms depth 60 fits 99999) refl

pub size_up : (z : ℤ) → pos 0 ≤ℤ z → pos (nat_abs z) ≡ z
size_up (pos n) h = refl
size_up (negsuc n) h = absurd (omega (arith, ints))

pub size_down : (z : ℤ) → z ≤ℤ pos 0 → pos (nat_abs z) ≡ neg_ℤ z
size_down (pos n) h = omega (arith, ints)
size_down (negsuc n) h = refl

-- numbers of one sign, weighed, don't make 0
pub weighed : (f g : ℤ) (t u : ℕ) → pos 0 <ℤ (f *ℤ g) → 0 < t + u → (f *ℤ pos u) +ℤ (g *ℤ pos t) ≡ pos 0 → ⊥
weighed f g t u h s e =
    let k : pos 0 <ℤ (((f *ℤ g) *ℤ pos (t + u)) +ℤ (((f *ℤ f) *ℤ pos u) +ℤ ((g *ℤ g) *ℤ pos t))) = search signs in
    let i : ((f *ℤ g) *ℤ pos (t + u)) +ℤ (((f *ℤ f) *ℤ pos u) +ℤ ((g *ℤ g) *ℤ pos t)) ≡ (f +ℤ g) *ℤ ((f *ℤ pos u) +ℤ (g *ℤ pos t)) = by_ring (f ∷ g ∷ pos t ∷ pos u ∷ []) (search forms depth 60 fits 99999) refl in
    let j : (f +ℤ g) *ℤ ((f *ℤ pos u) +ℤ (g *ℤ pos t)) ≡ pos 0 = ap (λ (z : ℤ). (f +ℤ g) *ℤ z) e ∙ *ℤ-zero (f +ℤ g) in
    omega (arith, ints)

-- ---- a place between two corners, against the line of two others
pub among_side : (a b c d : Corner) (q : Place) (h : Among a b q) →
    side c d q *ℤ pos (h.t + h.u) ≡ ((side c d (at a) *ℤ pos h.u) +ℤ (side c d (at b) *ℤ pos h.t)) *ℤ pos q.w
unfolding side between
among_side a b c d q h =
    by-≡ (((d.x -ℤ c.x) *ℤ (q.y *ℤ pos (1 * 1 * (h.t + h.u)))) -ℤ ((d.y -ℤ c.y) *ℤ (q.x *ℤ pos (1 * 1 * (h.t + h.u)))))
    (((d.x -ℤ c.x) *ℤ ((((a.y *ℤ pos 1) *ℤ pos h.u) +ℤ ((b.y *ℤ pos 1) *ℤ pos h.t)) *ℤ pos q.w)) -ℤ ((d.y -ℤ c.y) *ℤ ((((a.x *ℤ pos 1) *ℤ pos h.u) +ℤ ((b.x *ℤ pos 1) *ℤ pos h.t)) *ℤ pos q.w)))
    (ap₂ (λ (y x : ℤ). ((d.x -ℤ c.x) *ℤ y) -ℤ ((d.y -ℤ c.y) *ℤ x)) h.same.y h.same.x)
    (by_ring (a.x ∷ a.y ∷ b.x ∷ b.y ∷ c.x ∷ c.y ∷ d.x ∷ d.y ∷ q.x ∷ q.y ∷ pos q.w ∷ pos h.t ∷ pos h.u ∷ []) (search forms depth 60 fits 99999) refl)

-- between two corners is on their line
pub among_line : (a b : Corner) (q : Place) → Among a b q → side a b q ≡ pos 0
unfolding side
among_line a b q h =
    untimes-≡ (side a b q) (pos 0) (pos (h.t + h.u)) (pos>0 (h.t + h.u) h.some)
    (among_side a b a b q h ∙ by_ring (a.x ∷ a.y ∷ b.x ∷ b.y ∷ pos q.w ∷ pos h.t ∷ pos h.u ∷ []) (search forms depth 60 fits 99999) refl)

-- with both ends on one side of a line, no place between them is on it
pub one_side : (a b c d : Corner) (q : Place) → pos 0 <ℤ (side c d (at a) *ℤ side c d (at b)) → 0 < q.w → Among a b q → Among c d q → ⊥
one_side a b c d q h w k l =
    let z : ℤ = (side c d (at a) *ℤ pos k.u) +ℤ (side c d (at b) *ℤ pos k.t) in
    weighed (side c d (at a)) (side c d (at b)) k.t k.u h k.some
    (untimes-≡ z (pos 0) (pos q.w) (pos>0 q.w w)
    (sym (among_side a b c d q k) ∙ ap (λ (y : ℤ). y *ℤ pos (k.t + k.u)) (among_line c d q l) ∙ zero-*ℤ (pos (k.t + k.u)) ∙ sym (zero-*ℤ (pos q.w))))

-- a place that divides the stretch from a to b as t to u
pub divides : (a b : Corner) (p : Place) (t u : ℕ) → p.x ≡ (a.x *ℤ pos u) +ℤ (b.x *ℤ pos t) → p.y ≡ (a.y *ℤ pos u) +ℤ (b.y *ℤ pos t) → p.w ≡ t + u → 0 < t + u → Among a b p
unfolding between
divides a b p t u ex ey ew h =
    record {
      t = t;
      u = u;
      some = h;
      same = record {
        x = ap (λ (z : ℤ). z *ℤ pos (1 * 1 * (t + u))) ex ∙ along a.x b.x ∙ ap (λ (n : ℕ). (((a.x *ℤ pos 1) *ℤ pos u) +ℤ ((b.x *ℤ pos 1) *ℤ pos t)) *ℤ pos n) (sym ew);
        y = ap (λ (z : ℤ). z *ℤ pos (1 * 1 * (t + u))) ey ∙ along a.y b.y ∙ ap (λ (n : ℕ). (((a.y *ℤ pos 1) *ℤ pos u) +ℤ ((b.y *ℤ pos 1) *ℤ pos t)) *ℤ pos n) (sym ew);
      };
    }
  where
    along : (i j : ℤ) → ((i *ℤ pos u) +ℤ (j *ℤ pos t)) *ℤ pos (1 * 1 * (t + u)) ≡ (((i *ℤ pos 1) *ℤ pos u) +ℤ ((j *ℤ pos 1) *ℤ pos t)) *ℤ pos (t + u)
    along i j = by_ring (i ∷ j ∷ pos t ∷ pos u ∷ []) (search forms depth 60 fits 99999) refl

-- ---- the ends of two stretches against each other's lines
-- the cross product of the two directions is the difference of the one's ends, and of the other's
pub gap : (a b c d : Corner) → side c d (at a) -ℤ side c d (at b) ≡ ((b.x -ℤ a.x) *ℤ (d.y -ℤ c.y)) -ℤ ((b.y -ℤ a.y) *ℤ (d.x -ℤ c.x))
unfolding side
gap a b c d = by_ring (a.x ∷ a.y ∷ b.x ∷ b.y ∷ c.x ∷ c.y ∷ d.x ∷ d.y ∷ []) (search forms depth 60 fits 99999) refl

pub gaps : (a b c d : Corner) → side c d (at a) -ℤ side c d (at b) ≡ side a b (at d) -ℤ side a b (at c)
unfolding side
gaps a b c d = by_ring (a.x ∷ a.y ∷ b.x ∷ b.y ∷ c.x ∷ c.y ∷ d.x ∷ d.y ∷ []) (search forms depth 60 fits 99999) refl

-- the sizes of four such numbers, by the one sign on which they hang
pub record Signs (f g h k : ℤ) : Type 0 where
  pub sign : ℤ
  pub t : pos (nat_abs f) ≡ sign *ℤ f
  pub u : pos (nat_abs g) ≡ neg_ℤ (sign *ℤ g)
  pub v : pos (nat_abs h) ≡ neg_ℤ (sign *ℤ h)
  pub w : pos (nat_abs k) ≡ sign *ℤ k

pub signs_of : (f g h k : ℤ) → (f ≡ g → ⊥) → (f *ℤ g) ≤ℤ pos 0 → (h *ℤ k) ≤ℤ pos 0 → f -ℤ g ≡ k -ℤ h → Signs f g h k
signs_of f g h k apart e i j =
    by_lt_z g f
    (λ l.
    let m = spread g f l (omega (arith, ints, *ℤ_comm f g)) in
    let n = spread h k (omega (arith, ints)) i in
    record { sign = pos 1; t = omega (arith, ints, size_up f m.1); u = omega (arith, ints, size_down g m.0); v = omega (arith, ints, size_down h n.0); w = omega (arith, ints, size_up k n.1) })
    (λ l.
    let s : f <ℤ g = by_lt_z f g (λ x. x) (λ x. absurd (apart (omega (arith, ints)))) in
    let m = spread f g s e in
    let n = spread k h (omega (arith, ints)) (omega (arith, ints, *ℤ_comm h k)) in
    record { sign = negsuc 0; t = omega (arith, ints, size_down f m.0); u = omega (arith, ints, size_up g m.1); v = omega (arith, ints, size_up h n.1); w = omega (arith, ints, size_down k n.0) })

-- the place that divides the first stretch by its ends' distances from the second's line
module _ (a b c d : Corner) (e : ℤ) (t u v w : ℕ) (et : pos t ≡ e *ℤ side c d (at a)) (eu : pos u ≡ neg_ℤ (e *ℤ side c d (at b))) (ev : pos v ≡ neg_ℤ (e *ℤ side a b (at c))) (ew : pos w ≡ e *ℤ side a b (at d)) (p : Place) (px : p.x ≡ (a.x *ℤ pos u) +ℤ (b.x *ℤ pos t)) (py : p.y ≡ (a.y *ℤ pos u) +ℤ (b.y *ℤ pos t)) (pw : p.w ≡ t + u) where
  parts : pos (t + u) ≡ pos (v + w)
  unfolding side
  parts = ap₂ ◌+ℤ◌ et eu ∙ by_ring (a.x ∷ a.y ∷ b.x ∷ b.y ∷ c.x ∷ c.y ∷ d.x ∷ d.y ∷ e ∷ []) (search forms depth 60 fits 99999) refl ∙ sym (ap₂ ◌+ℤ◌ ev ew)

  -- a coordinate of the corners, by which the place lies on both; the equation is the coordinate's own
  across : (i j k l : ℤ) → (i *ℤ neg_ℤ (e *ℤ side c d (at b))) +ℤ (j *ℤ (e *ℤ side c d (at a))) ≡ (k *ℤ (e *ℤ side a b (at d))) +ℤ (l *ℤ neg_ℤ (e *ℤ side a b (at c))) → (i *ℤ pos u) +ℤ (j *ℤ pos t) ≡ (k *ℤ pos w) +ℤ (l *ℤ pos v)
  across i j k l h = ap₂ (λ (m n : ℤ). (i *ℤ m) +ℤ (j *ℤ n)) eu et ∙ h ∙ sym (ap₂ (λ (m n : ℤ). (k *ℤ m) +ℤ (l *ℤ n)) ew ev)

  -- it divides the second stretch too
  pub divides_second : 0 < t + u → Among c d p
  unfolding side
  divides_second h =
      divides c d p v w
      (px ∙ across a.x b.x c.x d.x (by_ring (a.x ∷ a.y ∷ b.x ∷ b.y ∷ c.x ∷ c.y ∷ d.x ∷ d.y ∷ e ∷ []) (search forms depth 60 fits 99999) refl))
      (py ∙ across a.y b.y c.y d.y (by_ring (a.x ∷ a.y ∷ b.x ∷ b.y ∷ c.x ∷ c.y ∷ d.x ∷ d.y ∷ e ∷ []) (search forms depth 60 fits 99999) refl))
      (omega (arith, ints, pw, parts))
      (omega (arith, ints, parts))

  -- and where both lines go through a place q, that is the one. Again by a coordinate: i, j, k and l of the corners, m of q and n of p
  cramer : (q : Place) → side a b q ≡ pos 0 → side c d q ≡ pos 0 → (i j k l m n : ℤ) → n ≡ (i *ℤ pos u) +ℤ (j *ℤ pos t) →
      (m *ℤ ((e *ℤ side c d (at a)) +ℤ neg_ℤ (e *ℤ side c d (at b)))) +ℤ (e *ℤ (((j -ℤ i) *ℤ side c d q) -ℤ ((l -ℤ k) *ℤ side a b q)))
      ≡ (((i *ℤ neg_ℤ (e *ℤ side c d (at b))) +ℤ (j *ℤ (e *ℤ side c d (at a)))) *ℤ pos q.w) +ℤ (e *ℤ (((j -ℤ i) *ℤ pos 0) -ℤ ((l -ℤ k) *ℤ pos 0))) →
      m *ℤ pos p.w ≡ n *ℤ pos q.w
  cramer q f g i j k l m n h r =
      ap (λ (y : ℕ). m *ℤ pos y) pw
      ∙ ap₂ (λ (y z : ℤ). m *ℤ (y +ℤ z)) et eu
      ∙ by-≡ (e *ℤ (((j -ℤ i) *ℤ pos 0) -ℤ ((l -ℤ k) *ℤ pos 0))) (e *ℤ (((j -ℤ i) *ℤ side c d q) -ℤ ((l -ℤ k) *ℤ side a b q))) (sym (ap₂ (λ (y z : ℤ). e *ℤ (((j -ℤ i) *ℤ y) -ℤ ((l -ℤ k) *ℤ z))) g f)) r
      ∙ sym (ap₂ (λ (y z : ℤ). ((i *ℤ y) +ℤ (j *ℤ z)) *ℤ pos q.w) eu et)
      ∙ ap (λ (y : ℤ). y *ℤ pos q.w) (sym h)

  pub divides_only : (q : Place) → side a b q ≡ pos 0 → side c d q ≡ pos 0 → Same q p
  unfolding side
  divides_only q f g =
      record {
        x = cramer q f g a.x b.x c.x d.x q.x p.x px (by_ring (a.x ∷ a.y ∷ b.x ∷ b.y ∷ c.x ∷ c.y ∷ d.x ∷ d.y ∷ e ∷ q.x ∷ q.y ∷ pos q.w ∷ []) (search forms depth 60 fits 99999) refl);
        y = cramer q f g a.y b.y c.y d.y q.y p.y py (by_ring (a.x ∷ a.y ∷ b.x ∷ b.y ∷ c.x ∷ c.y ∷ d.x ∷ d.y ∷ e ∷ q.x ∷ q.y ∷ pos q.w ∷ []) (search forms depth 60 fits 99999) refl);
      }

-- ---- a bound that the parts keep together
pub parts_near : {m : ℕ} (n : ℕ) {i j : ℤ} (t u : ℕ) → Near m i → Near m j → t + u ≤ n → Near (m * n) ((i *ℤ pos u) +ℤ (j *ℤ pos t))
parts_near {m} n {i} {j} t u h k l =
    let s : m * (t + u) ≤ m * n = mul-le-mul_left m l in
    let p = times-≤ i (pos m) (pos u) h.high (pos≥0 u) in
    let q = times-≤ j (pos m) (pos t) k.high (pos≥0 t) in
    let p' = times-≤ (neg_ℤ (pos m)) i (pos u) h.low (pos≥0 u) in
    let q' = times-≤ (neg_ℤ (pos m)) j (pos t) k.low (pos≥0 t) in
    record { low = omega (arith, ints, mul-add m t u, negℤ-*ℤ (pos m) (pos u), negℤ-*ℤ (pos m) (pos t)); high = omega (arith, ints, mul-add m t u) }

-- the parts together are as large as the two numbers lie apart
pub parts_size : {m : ℕ} (f g : ℤ) → (f ≡ g → ⊥) → (f *ℤ g) ≤ℤ pos 0 → Near m (f -ℤ g) → (0 < nat_abs f + nat_abs g) × (nat_abs f + nat_abs g ≤ m)
parts_size {m} f g h k n =
    by_lt_z g f
    (λ l.
    let s = spread g f l (omega (arith, ints, *ℤ_comm f g)) in
    let i = size_up f s.1 in
    let j = size_down g s.0 in
    (omega (arith, ints), omega (arith, ints)))
    (λ l.
    let l' : f <ℤ g = by_lt_z f g (λ x. x) (λ x. absurd (h (omega (arith, ints)))) in
    let s = spread f g l' k in
    let i = size_down f s.0 in
    let j = size_up g s.1 in
    (omega (arith, ints), omega (arith, ints)))

-- ---- the same of the sides of the code, by what their ends are
pub turned_gap : (s t : Side) (f g : ℤ) → f ≡ side (corner_of t.from) (corner_of t.to) (at (corner_of s.from)) → g ≡ side (corner_of t.from) (corner_of t.to) (at (corner_of s.to)) →
    Near 33521672 (f -ℤ g)
turned_gap s t f g i j =
    let k : SideNear 2047 s = side_near s in
    let l : SideNear 2047 t = side_near t in
    let n : Near 33521672 (turning s t) = by_near (search knows depth 60 fits 99999) tt in
    subst (Near 33521672) (sym (ap₂ ◌-ℤ◌ i j ∙ gap (corner_of s.from) (corner_of s.to) (corner_of t.from) (corner_of t.to))) n

module _ (s t : Side) (e : Ends) (ends : EndsOf s t e) where
  pub ends_gap : e.from -ℤ e.to ≡ turning s t
  ends_gap = ap₂ ◌-ℤ◌ ends.from ends.to ∙ gap (corner_of s.from) (corner_of s.to) (corner_of t.from) (corner_of t.to)

  pub ends_parallel : e.from ≡ e.to → turning s t ≡ pos 0
  ends_parallel h = omega (arith, ints, ends_gap)

  pub ends_apart : pos 0 <ℤ (e.from *ℤ e.to) → (q : Place) → 0 < q.w → On s q → On t q → ⊥
  ends_apart h q = one_side (corner_of s.from) (corner_of s.to) (corner_of t.from) (corner_of t.to) q (subst (λ (z : ℤ). pos 0 <ℤ z) (ap₂ ◌*ℤ◌ ends.from ends.to) h)

  pub ends_parts : (e.from ≡ e.to → ⊥) → (e.from *ℤ e.to) ≤ℤ pos 0 → (0 < nat_abs e.from + nat_abs e.to) × (nat_abs e.from + nat_abs e.to ≤ 33521672)
  ends_parts h k = parts_size e.from e.to h k e.gap

  pub ends_meet : (o : Ends) → EndsOf t s o → (e.from ≡ e.to → ⊥) → (e.from *ℤ e.to) ≤ℤ pos 0 → (o.from *ℤ o.to) ≤ℤ pos 0 → (p : code.Place) →
      p.x ≡ (s.from.x *ℤ pos (nat_abs e.to)) +ℤ (s.to.x *ℤ pos (nat_abs e.from)) → p.y ≡ (s.from.y *ℤ pos (nat_abs e.to)) +ℤ (s.to.y *ℤ pos (nat_abs e.from)) → p.w ≡ nat_abs e.from + nat_abs e.to →
      0 < nat_abs e.from + nat_abs e.to → PlaceNear (2 ^ 36 - 1) (2 ^ 25 - 1) p → Met s t p
  ends_meet o others apart i j p px py pw some near =
      let a = corner_of s.from in
      let b = corner_of s.to in
      let c = corner_of t.from in
      let d = corner_of t.to in
      let z = signs_of e.from e.to o.from o.to apart i j (ap₂ ◌-ℤ◌ ends.from ends.to ∙ gaps a b c d ∙ sym (ap₂ ◌-ℤ◌ others.to others.from)) in
      let m : ℤ = z.sign in
      let t' : pos (nat_abs e.from) ≡ m *ℤ side c d (at a) = z.t ∙ ap (λ (y : ℤ). m *ℤ y) ends.from in
      let u' : pos (nat_abs e.to) ≡ neg_ℤ (m *ℤ side c d (at b)) = z.u ∙ ap (λ (y : ℤ). neg_ℤ (m *ℤ y)) ends.to in
      let v' : pos (nat_abs o.from) ≡ neg_ℤ (m *ℤ side a b (at c)) = z.v ∙ ap (λ (y : ℤ). neg_ℤ (m *ℤ y)) others.from in
      let w' : pos (nat_abs o.to) ≡ m *ℤ side a b (at d) = z.w ∙ ap (λ (y : ℤ). m *ℤ y) others.to in
      record {
        crossing = λ z. apart (omega (arith, ints, ends_gap));
        near = near;
        first = divides a b (place_of p) (nat_abs e.from) (nat_abs e.to) px py pw some;
        second = divides_second a b c d m (nat_abs e.from) (nat_abs e.to) (nat_abs o.from) (nat_abs o.to) t' u' v' w' (place_of p) px py pw some;
        only = λ q r k l. divides_only a b c d m (nat_abs e.from) (nat_abs e.to) (nat_abs o.from) (nat_abs o.to) t' u' v' w' (place_of p) px py pw q (among_line a b q k) (among_line c d q l);
      }
