-- What is inside a shape, covered by it, or free in a hall: along a stretch, and at the same place written otherwise. Assumes nothing.
use Rattle.std.proofs.Common.{◌≡◌, ℕ, zero, suc, ◌+◌, ◌*◌, ◌<◌, [], ◌∷◌, length, ℤ, pos, ◌+ℤ◌, ◌*ℤ◌, ◌≤ℤ◌, refl, ap, subst, mul_comm, mul-pos, arith}
use borrow.Author.Differences.{ints}
use Rattle.algebra.specs.Hall.{Place, Shape, corner, next, edge, Inside, Covers, Hall, plus, Meets, Within, Free, between, Straight}
use Rattle.algebra.specs.Forms.{Same, SameSign, Along}
use Rattle.algebra.specs.Laws.{Convexity, SameStanding, Straightness}
use Rattle.algebra.proofs.Polynomial.{forms, by_ring}
use Rattle.algebra.proofs.Order.{pos>0, pos≥0, times-≤, untimes-≤, by-≡}
use Rattle.algebra.proofs.Forms.{side_along, side_same, same_sign, same_place, stretch}

-- ---- the sides of a shape, by number
pub edge_along : (s : Shape) (i : ℕ) (p q : Place) (t u : ℕ) → 0 < p.w → 0 < q.w → Along (edge s i p) (edge s i q) (edge s i (between p q t u)) t u
unfolding edge
edge_along s i p q t u wp wq = side_along (corner s i) (corner s (next (length s) i)) p q t u wp wq

pub edge_same : (s : Shape) (i : ℕ) (p q : Place) → 0 < p.w → 0 < q.w → Same p q → SameSign (edge s i p) (edge s i q)
unfolding edge
edge_same s i p q wp wq e = side_same (corner s i) (corner s (next (length s) i)) p q wp wq e

pub convexity : Convexity
unfolding Inside Covers
convexity =
    record {
      covers = λ s p q t u wp wq h k i n. (edge_along s i p q t u wp wq).stays≥0 (h i n) (k i n);
      starts = λ s p q t u wp wq h k m i n. (edge_along s i p q t u wp wq).starts>0 (h i n) (k i n) m;
      ends = λ s p q t u wp wq h k m i n. (edge_along s i p q t u wp wq).ends>0 (h i n) (k i n) m;
    }

-- ---- the same place
inside_same : (s : Shape) (p q : Place) → 0 < p.w → 0 < q.w → Same p q → Inside s p → Inside s q
unfolding Inside
inside_same s p q wp wq e h i n = (edge_same s i p q wp wq e).above (h i n)

covers_same : (s : Shape) (p q : Place) → 0 < p.w → 0 < q.w → Same p q → Covers s p → Covers s q
unfolding Covers
covers_same s p q wp wq e h i n = (edge_same s i p q wp wq e).not_below (h i n)

-- x / m is y / n: a sum with z / r
sum_same : (x y z : ℤ) (m n r : ℕ) → x *ℤ pos n ≡ y *ℤ pos m → ((x *ℤ pos r) +ℤ (z *ℤ pos m)) *ℤ pos (n * r) ≡ ((y *ℤ pos r) +ℤ (z *ℤ pos n)) *ℤ pos (m * r)
sum_same x y z m n r e =
    by-≡ ((x *ℤ pos n) *ℤ (pos r *ℤ pos r)) ((y *ℤ pos m) *ℤ (pos r *ℤ pos r)) (ap (λ (k : ℤ). k *ℤ (pos r *ℤ pos r)) e)
    (by_ring (x ∷ y ∷ z ∷ pos m ∷ pos n ∷ pos r ∷ []) (search forms depth 60 fits 99999) refl)

moved_same : (p q r : Place) → Same p q → Same (plus p r) (plus q r)
unfolding plus
moved_same p q r e = record { x = sum_same p.x q.x r.x p.w q.w r.w e.x; y = sum_same p.y q.y r.y p.w q.w r.w e.y }

plus_real : (p r : Place) → 0 < p.w → 0 < r.w → 0 < (plus p r).w
unfolding plus
plus_real p r wp wr = mul-pos wp wr

meets_same : (load thing : Shape) (p q : Place) → 0 < p.w → 0 < q.w → Same p q → Meets load thing p → Meets load thing q
meets_same load thing p q wp wq e m =
    record {
      spot = m.spot;
      real = m.real;
      covered = m.covered;
      met = inside_same thing (plus p m.spot) (plus q m.spot) (plus_real p m.spot wp m.real) (plus_real q m.spot wq m.real) (moved_same p q m.spot e) m.met;
    }

-- x / m is y / n, and at most k
bound_same : (x y : ℤ) (m n k : ℕ) → 0 < m → x *ℤ pos n ≡ y *ℤ pos m → x ≤ℤ pos (k * m) → y ≤ℤ pos (k * n)
bound_same x y m n k h e l =
    let c : pos (k * m) *ℤ pos n ≡ pos (k * n) *ℤ pos m = by_ring (pos k ∷ pos m ∷ pos n ∷ []) (search forms depth 60 fits 99999) refl in
    untimes-≤ y (pos (k * n)) (pos m) (pos>0 m h) (omega (arith, ints, times-≤ x (pos (k * m)) (pos n) l (pos≥0 n)))

within_same : (h : Hall) (p q : Place) → 0 < p.w → 0 < q.w → Same p q → Within h p → Within h q
within_same h p q wp wq e v =
    record {
      left = (same_sign p.x q.x p.w q.w wp wq e.x).not_below v.left;
      right = bound_same p.x q.x p.w q.w h.wide wp e.x v.right;
      low = (same_sign p.y q.y p.w q.w wp wq e.y).not_below v.low;
      high = bound_same p.y q.y p.w q.w h.high wp e.y v.high;
    }

free_same : (h : Hall) (p q : Place) → 0 < q.w → Same p q → Free h p → Free h q
free_same h p q wq e f =
    record {
      real = wq;
      walls = within_same h p q f.real wq e f.walls;
      things = λ k n m. f.things k n (meets_same h.load _ q p wq f.real (same_place.symmetric p q e) m);
    }

pub same_standing : SameStanding
same_standing =
    record {
      inside = inside_same;
      covers = covers_same;
      moved = moved_same;
      meets = meets_same;
      free = free_same;
    }

-- ---- free stretches
ends_real : (p q : Place) (t u : ℕ) → 0 < (between p q t u).w → (0 < p.w) × (0 < q.w)
unfolding between
ends_real p q t u h = (factor_of p.w q.w (t + u) h, factor_of q.w p.w (t + u) (subst (λ (k : ℕ). 0 < k * (t + u)) (mul_comm p.w q.w) h))
  where
    factor_of : (k m n : ℕ) → 0 < k * m * n → 0 < k
    factor_of zero m n h = omega arith
    factor_of (suc k) m n h = omega arith

start_free : (h : Hall) (p q : Place) → Straight h p q → Free h p
unfolding Straight
start_free h p q s =
    let f = s 0 1 (omega arith) in
    free_same h (between p q 0 1) p (ends_real p q 0 1 f.real).0 (stretch.start p q 1) f

straight_back : (h : Hall) (p q : Place) → Straight h p q → Straight h q p
unfolding Straight
straight_back h p q s t u n = subst (Free h) (stretch.back q p t u) (s u t (omega arith))

parts_sum : (t u v w r s : ℕ) → pos ((v * (t + u) * r + t * (v + w) * s) + (w * (t + u) * r + u * (v + w) * s)) ≡ pos ((t + u) * (v + w) * (r + s))
parts_sum t u v w r s = by_ring (pos t ∷ pos u ∷ pos v ∷ pos w ∷ pos r ∷ pos s ∷ []) (search forms depth 60 fits 99999) refl

straight_part : (h : Hall) (p q : Place) (t u v w : ℕ) → 0 < t + u → 0 < v + w → Straight h p q → Straight h (between p q t u) (between p q v w)
unfolding Straight
straight_part h p q t u v w m n k r s l =
    let a = v * (t + u) * r + t * (v + w) * s in
    let b = w * (t + u) * r + u * (v + w) * s in
    let o : 0 < (t + u) * (v + w) * (r + s) = mul-pos (mul-pos m n) l in
    let f = k a b (omega (arith, ints, parts_sum t u v w r s)) in
    let wpq = ends_real p q a b f.real in
    let wt = stretch.real p q t u wpq.0 wpq.1 m in
    let wv = stretch.real p q v w wpq.0 wpq.1 n in
    let middle = between (between p q t u) (between p q v w) r s in
    free_same h (between p q a b) middle (stretch.real (between p q t u) (between p q v w) r s wt wv l) (same_place.symmetric middle (between p q a b) (stretch.part p q t u v w r s)) f

pub straightness : Straightness
straightness = record { start = start_free; back = straight_back; part = straight_part }
