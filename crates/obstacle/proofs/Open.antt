-- The inside of a shape is open: an inside place can be moved a little towards any other, and away from it. Assumes nothing.
use Rattle.std.proofs.Common.{◌≡◌, ℕ, zero, suc, ◌+◌, ◌*◌, ◌<◌, [], ◌∷◌, length, ℤ, pos, ◌+ℤ◌, ◌-ℤ◌, ◌*ℤ◌, neg_ℤ, nat_abs, ◌≤ℤ◌, ◌<ℤ◌, sym, refl, subst, ⊎_elim, mul-pos, arith}
use borrow.Author.Differences.{ints}
use Rattle.std.proofs.lemmas.Int.{by_lt_z}
use Rattle.std.proofs.lemmas.Bool.{cases_order}
use Rattle.algebra.specs.Hall.{Place, Shape, Inside, Covers, corner, next, edge, between}
use Rattle.algebra.specs.Forms.{Form, Same, value, line}
use Rattle.algebra.proofs.Polynomial.{forms, by_ring}
use Rattle.algebra.proofs.Order.{by-≤, weaker, pos≥0, pos>0, product≥0, product>0}
use Rattle.algebra.proofs.Forms.{of_place, of_form, side_is_form, interpolation, sign_along, stretch}
use Rattle.obstacle.specs.Convex.{SupportsStrictly, Open, Away, Closed, InsideCovers}
use Rattle.obstacle.proofs.Signs.{squares>0}
use Rattle.obstacle.proofs.Fan.{supports}

pub inside_covers : InsideCovers
unfolding Inside Covers
inside_covers s p inside i h = weaker (edge s i p) (inside i h)

-- ---- the sides of a shape as forms
abbrev pub side_form : Shape → ℕ → Form
side_form s i = line (corner s i) (corner s (next (length s) i))

pub edge_value : (s : Shape) (i : ℕ) (p : Place) → edge s i p ≡ value (side_form s i) p
unfolding edge
edge_value s i p = side_is_form (corner s i) (corner s (next (length s) i)) p

-- inside is where all of them are above 0
pub inside_values : (s : Shape) (p : Place) → Inside s p → (i : ℕ) → i < length s → pos 0 <ℤ value (side_form s i) p
unfolding Inside
inside_values s p inside i h = subst (λ (v : ℤ). pos 0 <ℤ v) (edge_value s i p) (inside i h)

pub values_inside : (s : Shape) (p : Place) → ((i : ℕ) → i < length s → pos 0 <ℤ value (side_form s i) p) → Inside s p
unfolding Inside
values_inside s p values i h = subst (λ (v : ℤ). pos 0 <ℤ v) (sym (edge_value s i p)) (values i h)

-- ---- a bound of finitely many integers from below
record Bound (n : ℕ) (f : ℕ → ℤ) : Type 0 where
  pub it : ℕ
  pub holds : (i : ℕ) → i < n → neg_ℤ (pos it) ≤ℤ f i

above_abs : (z : ℤ) → neg_ℤ (pos (nat_abs z)) ≤ℤ z
above_abs z = omega (arith, ints)

bound : (n : ℕ) (f : ℕ → ℤ) → Bound n f
bound zero f = record { it = 0; holds = λ i h. absurd (omega arith) }
bound (suc n) f =
    let b = bound n f in
    record {
      it = b.it + nat_abs (f n);
      holds = λ i h.
          ⊎_elim
          (λ e. subst (λ (k : ℕ). neg_ℤ (pos (b.it + nat_abs (f n))) ≤ℤ f k) (sym e) (omega (arith, ints, above_abs (f n))))
          (λ r. ⊎_elim (λ l. omega (arith, ints, b.holds i l)) (λ l. absurd (omega arith)) r)
          (cases_order i n);
    }

-- x, above 0, put u times: at least u
times_more : (x : ℤ) (w u : ℕ) → x *ℤ pos (w * u) ≡ pos u +ℤ (pos u *ℤ ((x *ℤ pos w) -ℤ pos 1))
times_more x w u = by_ring (x ∷ pos w ∷ pos u ∷ []) (search forms depth 60 fits 99999) refl

many_times : (x : ℤ) (w u : ℕ) → pos 0 <ℤ x → 0 < w → pos u ≤ℤ (x *ℤ pos (w * u))
many_times x w u hx hw =
    let k : pos 0 <ℤ (x *ℤ pos w) = product>0 x (pos w) hx (pos>0 w hw) in
    by-≤ (pos u *ℤ ((x *ℤ pos w) -ℤ pos 1)) (product≥0 (pos u) ((x *ℤ pos w) -ℤ pos 1) (pos≥0 u) (omega (arith, ints))) (times_more x w u)

pub outweighs : (x y : ℤ) (w m u : ℕ) → pos 0 <ℤ x → 0 < w → neg_ℤ (pos m) ≤ℤ y → m < u → pos 0 <ℤ ((x *ℤ pos (w * u)) +ℤ y)
outweighs x y w m u hx hw hy l = omega (arith, ints, many_times x w u hx hw)

-- ---- towards a place, and away from it
pub open_law : Open
open_law s p q wp wq inside =
    let b = bound (length s) (λ i. value (side_form s i) q *ℤ pos (p.w * 1)) in
    let u = suc b.it in
    record {
      u = u;
      some = omega arith;
      stays = values_inside s (between p q 1 u) (λ i h. rw interpolation (outweighs (value (side_form s i) p) (value (side_form s i) q *ℤ pos (p.w * 1)) q.w b.it u (inside_values s p inside i h) wq (b.holds i h) (omega arith)));
    }

-- the place from which p is one part of n + 1 towards q
unfoldable beyond : Place → Place → ℕ → Place
beyond p q n =
    record {
      x = ((p.x *ℤ pos q.w) *ℤ pos (n + 1)) -ℤ (q.x *ℤ pos p.w);
      y = ((p.y *ℤ pos q.w) *ℤ pos (n + 1)) -ℤ (q.y *ℤ pos p.w);
      w = p.w * q.w * n;
    }

beyond_real : (p q : Place) (n : ℕ) → 0 < p.w → 0 < q.w → 0 < n → 0 < (beyond p q n).w
unfolding beyond
beyond_real p q n wp wq h = mul-pos (mul-pos wp wq) h

beyond_value : (f : Form) (p q : Place) (n : ℕ) → value f (beyond p q n) ≡ (value f p *ℤ pos (q.w * (n + 1))) +ℤ (value f q *ℤ neg_ℤ (pos p.w))
unfolding value beyond
beyond_value f p q n = by_ring (of_form f (of_place p (of_place q (pos n ∷ [])))) (search forms depth 60 fits 99999) refl

beyond_same : (p q : Place) (n : ℕ) → Same (between (beyond p q n) q 1 n) p
unfolding between beyond
beyond_same p q n =
    record {
      x = by_ring (of_place p (of_place q (pos n ∷ []))) (search forms depth 60 fits 99999) refl;
      y = by_ring (of_place p (of_place q (pos n ∷ []))) (search forms depth 60 fits 99999) refl;
    }

pub away : Away
away s p q wp wq inside =
    let b = bound (length s) (λ i. value (side_form s i) q *ℤ neg_ℤ (pos p.w)) in
    let n = suc b.it in
    record {
      spot = beyond p q n;
      real = beyond_real p q n wp wq (omega arith);
      inside = values_inside s (beyond p q n) (λ i h. rw beyond_value (outweighs (value (side_form s i) p) (value (side_form s i) q *ℤ neg_ℤ (pos p.w)) q.w b.it (n + 1) (inside_values s p inside i h) wq (b.holds i h) (omega arith)));
      t = 1;
      u = n;
      near = omega arith;
      far = omega arith;
      same = beyond_same p q n;
    }

pub closed : Closed
closed s p q wp wq none inside =
    let o = open_law s q p wq wp inside in
    none o.u 1 o.some (omega arith) (subst (Inside s) (stretch.back p q o.u 1) o.stays)

-- ---- a form that is not below 0 at the corners is above 0 inside: near an inside place there is one where it is less

-- the place beside p, where the form is less
unfoldable lower : Form → Place → Place
lower f p = record { x = p.x -ℤ (f.a *ℤ pos p.w); y = p.y -ℤ (f.b *ℤ pos p.w); w = p.w }

lower_real : (f : Form) (p : Place) → 0 < p.w → 0 < (lower f p).w
unfolding lower
lower_real f p h = h

lower_value : (f : Form) (p : Place) → value f p ≡ value f (lower f p) +ℤ (((f.a *ℤ f.a) +ℤ (f.b *ℤ f.b)) *ℤ pos p.w)
unfolding value lower
lower_value f p = by_ring (of_form f (of_place p [])) (search forms depth 60 fits 99999) refl

pub supports_strictly : SupportsStrictly
supports_strictly s f p sound real flat corners inside =
    by_lt_z (pos 0) (value f p) (λ h. h)
    (λ h.
    let q = lower f p in
    let wq = lower_real f p real in
    let o = open_law s p q real wq inside in
    let m = between p q 1 o.u in
    let v = supports s f m sound (stretch.real p q 1 o.u real wq (omega arith)) corners (inside_covers s m o.stays) in
    let d = product>0 ((f.a *ℤ f.a) +ℤ (f.b *ℤ f.b)) (pos p.w) (squares>0 f.a f.b flat) (pos>0 p.w real) in
    absurd (omega (arith, ints, (sign_along f p q 1 o.u real wq).ends<0 h (omega (arith, ints, lower_value f p)) (omega arith))))
