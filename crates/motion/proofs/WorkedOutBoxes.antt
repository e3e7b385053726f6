-- What is inside a box, what a box covers, and where the load of the worked halls meets one. Assumes nothing.
use Rattle.std.proofs.Common.{◌≡◌, ℕ, zero, suc, ◌<◌, List, [], ◌∷◌, ℤ, pos, negsuc, ◌+ℤ◌, ◌-ℤ◌, ◌*ℤ◌, ◌≤ℤ◌, ◌<ℤ◌, refl, arith}
use borrow.Author.Differences.{ints}
use Rattle.algebra.specs.Hall.{Place, side, edge, Inside, Covers, plus, Meets}
use Rattle.algebra.proofs.Polynomial.{forms, by_ring}
use Rattle.algebra.proofs.Order.{signs, weaker, pos>0, pos≥0, sum>0_left, product>0, product≥0, factor>0, factor≥0}
use Rattle.algebra.proofs.Forms.{of_place}
use Rattle.motion.specs.Worked.{box, room, spot}

-- what holds of each of the four sides of a box
pub four : (P : ℕ → Type 0) → P 0 → P 1 → P 2 → P 3 → (i : ℕ) → i < 4 → P i
four P a b c d zero h = a
four P a b c d (suc zero) h = b
four P a b c d (suc (suc zero)) h = c
four P a b c d (suc (suc (suc zero))) h = d
four P a b c d (suc (suc (suc (suc i)))) h = absurd (omega arith)

-- how far a place lies within side i of a box, the lower, right, upper and left one in turn; and how long that side is
abbrev pub depth : ℤ → ℤ → ℤ → ℤ → ℕ → Place → ℤ
depth l b r t zero p = p.y -ℤ (b *ℤ pos p.w)
depth l b r t (suc zero) p = (r *ℤ pos p.w) -ℤ p.x
depth l b r t (suc (suc zero)) p = (t *ℤ pos p.w) -ℤ p.y
depth l b r t (suc (suc (suc i))) p = p.x -ℤ (l *ℤ pos p.w)

abbrev span : ℤ → ℤ → ℤ → ℤ → ℕ → ℤ
span l b r t zero = r -ℤ l
span l b r t (suc zero) = t -ℤ b
span l b r t (suc (suc zero)) = r -ℤ l
span l b r t (suc (suc (suc i))) = t -ℤ b

abbrev of_box : ℤ → ℤ → ℤ → ℤ → List ℤ → List ℤ
of_box l b r t ρ = l ∷ b ∷ r ∷ t ∷ ρ

edge_is : (l b r t : ℤ) (p : Place) (i : ℕ) → i < 4 → edge (box l b r t) i p ≡ span l b r t i *ℤ depth l b r t i p
unfolding edge side
edge_is l b r t p =
    four _
    (by_ring (of_box l b r t (of_place p [])) (search forms depth 60 fits 99999) refl)
    (by_ring (of_box l b r t (of_place p [])) (search forms depth 60 fits 99999) refl)
    (by_ring (of_box l b r t (of_place p [])) (search forms depth 60 fits 99999) refl)
    (by_ring (of_box l b r t (of_place p [])) (search forms depth 60 fits 99999) refl)

-- side i of a box against the load's side across: with the load moved to p, what the load covers at q
across : ℕ → ℕ
across zero = 2
across (suc zero) = 3
across (suc (suc zero)) = 0
across (suc (suc (suc i))) = 1

across_within : (i : ℕ) → i < 4 → across i < 4
unfolding across
across_within = four _ (omega arith) (omega arith) (omega arith) (omega arith)

abbrev pub depth_one_larger : ℤ → ℤ → ℤ → ℤ → ℕ → Place → ℤ
depth_one_larger l b r t = depth (l -ℤ pos 1) (b -ℤ pos 1) (r +ℤ pos 1) (t +ℤ pos 1)

abbrev pub depth_load : ℕ → Place → ℤ
depth_load = depth (negsuc 0) (negsuc 0) (pos 1) (pos 1)

moved_deep : (l b r t : ℤ) (p q : Place) (i : ℕ) → i < 4 → pos q.w *ℤ depth_one_larger l b r t i p ≡ depth l b r t i (plus p q) +ℤ (depth_load (across i) q *ℤ pos p.w)
unfolding plus across
moved_deep l b r t p q =
    four _
    (by_ring (of_box l b r t (of_place p (of_place q []))) (search forms depth 60 fits 99999) refl)
    (by_ring (of_box l b r t (of_place p (of_place q []))) (search forms depth 60 fits 99999) refl)
    (by_ring (of_box l b r t (of_place p (of_place q []))) (search forms depth 60 fits 99999) refl)
    (by_ring (of_box l b r t (of_place p (of_place q []))) (search forms depth 60 fits 99999) refl)

-- ---- a box has its inside between its ends, and covers its ends too
module _ (l b r t : ℤ) (wide : l <ℤ r) (high : b <ℤ t) where
  span>0 : (i : ℕ) → i < 4 → pos 0 <ℤ span l b r t i
  span>0 = four _ (search signs) (search signs) (search signs) (search signs)

  module _ (p : Place) where
    inside_deep : Inside (box l b r t) p → (i : ℕ) → i < 4 → pos 0 <ℤ depth l b r t i p
    unfolding Inside
    inside_deep h i n = factor>0 (span l b r t i) (depth l b r t i p) (span>0 i n) (rw (edge_is l b r t p i n) at (h i n))

    deep_inside : ((i : ℕ) → i < 4 → pos 0 <ℤ depth l b r t i p) → Inside (box l b r t) p
    unfolding Inside
    deep_inside h i n = rw (edge_is l b r t p i n) (product>0 (span l b r t i) (depth l b r t i p) (span>0 i n) (h i n))

    covers_deep : Covers (box l b r t) p → (i : ℕ) → i < 4 → pos 0 ≤ℤ depth l b r t i p
    unfolding Covers
    covers_deep h i n = factor≥0 (span l b r t i) (depth l b r t i p) (span>0 i n) (rw (edge_is l b r t p i n) at (h i n))

    deep_covers : ((i : ℕ) → i < 4 → pos 0 ≤ℤ depth l b r t i p) → Covers (box l b r t) p
    unfolding Covers
    deep_covers h i n = rw (edge_is l b r t p i n) (product≥0 (span l b r t i) (depth l b r t i p) (weaker (span l b r t i) (span>0 i n)) (h i n))

-- ---- where the load meets a box, its point is inside the box that is one larger all around
module _ {l b r t : ℤ} (p : Place) where
  pub meets_near : Meets (room []).load (box l b r t) p → l <ℤ r → b <ℤ t → (i : ℕ) → i < 4 → pos 0 <ℤ depth_one_larger l b r t i p
  meets_near m wide high i n =
      let q = m.spot in
      let inner = inside_deep l b r t wide high (plus p q) m.met i n in
      let outer = covers_deep (negsuc 0) (negsuc 0) (pos 1) (pos 1) (omega (arith, ints)) (omega (arith, ints)) q m.covered (across i) (across_within i n) in
      factor>0 (pos q.w) (depth_one_larger l b r t i p) (pos>0 q.w m.real) (rw (moved_deep l b r t p q i n) (sum>0_left (depth l b r t i (plus p q)) (depth_load (across i) q *ℤ pos p.w) inner (product≥0 (depth_load (across i) q) (pos p.w) outer (pos≥0 p.w))))

  -- and it meets the box where it covers a place that is inside
  pub meets_at : (x y : ℤ) → ((i : ℕ) → i < 4 → pos 0 ≤ℤ depth_load i (spot x y)) → l <ℤ r → b <ℤ t → ((i : ℕ) → i < 4 → pos 0 <ℤ depth l b r t i (plus p (spot x y))) → Meets (room []).load (box l b r t) p
  meets_at x y outer wide high inner =
      record {
        spot = spot x y;
        real = omega arith;
        covered = deep_covers (negsuc 0) (negsuc 0) (pos 1) (pos 1) (omega (arith, ints)) (omega (arith, ints)) (spot x y) outer;
        met = deep_inside l b r t wide high (plus p (spot x y)) inner;
      }
