-- The middle of the first three corners of a sound shape is inside. Assumes nothing.
use Rattle.std.proofs.Common.{◌≡◌, ℕ, zero, suc, ◌+◌, ◌<◌, ◌⊎◌, [], length, ℤ, pos, ◌+ℤ◌, ◌≤ℤ◌, ◌<ℤ◌, refl, inl, inr, ⊎_elim, arith}
use borrow.Author.Differences.{ints}
use Rattle.algebra.specs.Hall.{Corner, Place, Shape, Sound, Inside, at, side, corner, next, edge}
use Rattle.algebra.proofs.Polynomial.{forms, by_ring}
use Rattle.algebra.proofs.Forms.{of_corner}
use Rattle.obstacle.specs.Convex.{HasInside}
use Rattle.obstacle.proofs.Cycle.{steps}
use Rattle.obstacle.proofs.Strict.{convex_side, strictly_side}

unfoldable middle : Corner → Corner → Corner → Place
middle a b c = record { x = (a.x +ℤ b.x) +ℤ c.x; y = (a.y +ℤ b.y) +ℤ c.y; w = 3 }

middle_real : (a b c : Corner) → 0 < (middle a b c).w
unfolding middle
middle_real a b c = omega arith

side_middle : (u v a b c : Corner) → side u v (middle a b c) ≡ (side u v (at a) +ℤ side u v (at b)) +ℤ side u v (at c)
unfolding side middle
side_middle u v a b c = by_ring (of_corner u (of_corner v (of_corner a (of_corner b (of_corner c []))))) (search forms depth 60 fits 99999) refl

-- one of three, none of them below 0, is above 0
one>0 : (x y z : ℤ) → pos 0 ≤ℤ x → pos 0 ≤ℤ y → pos 0 ≤ℤ z → ((pos 0 <ℤ x) ⊎ (pos 0 <ℤ y) ⊎ (pos 0 <ℤ z)) → pos 0 <ℤ ((x +ℤ y) +ℤ z)
one>0 x y z hx hy hz (inl h) = omega (arith, ints)
one>0 x y z hx hy hz (inr (inl h)) = omega (arith, ints)
one>0 x y z hx hy hz (inr (inr h)) = omega (arith, ints)

module _ (s : Shape) (sound : Sound s) where
  unfoldable value_of : ℕ → ℕ → ℤ
  value_of i j = side (corner s i) (corner s (next (length s) i)) (at (corner s j))

  -- corner j of the first three is strictly to the left of side i, if it is neither i nor the next
  left_of : (i j : ℕ) → i < length s → j < 3 → (j ≡ i → ⊥) → (j ≡ i + 1 → ⊥) → (j ≡ 0 → i + 1 < length s) → pos 0 <ℤ value_of i j
  unfolding value_of
  left_of i j h l ni nn nz =
      let m = sound.many in
      strictly_side s sound i j h (omega arith) ni (λ e. ⊎_elim (λ k. nn (omega arith)) (λ k. let z = nz (omega arith) in omega arith) (steps (length s) i h))

  -- and each side has one of them there
  some_left : (i : ℕ) → i < length s → (pos 0 <ℤ value_of i 0) ⊎ (pos 0 <ℤ value_of i 1) ⊎ (pos 0 <ℤ value_of i 2)
  some_left zero h = inr (inr (left_of 0 2 h (omega arith) (λ e. omega arith) (λ e. omega arith) (λ e. absurd (omega arith))))
  some_left (suc zero) h = let m = sound.many in inl (left_of 1 0 h (omega arith) (λ e. omega arith) (λ e. omega arith) (λ e. omega arith))
  some_left (suc (suc i)) h = inr (inl (left_of (suc (suc i)) 1 h (omega arith) (λ e. omega arith) (λ e. omega arith) (λ e. absurd (omega arith))))

  middle_left : (i : ℕ) → i < length s → pos 0 <ℤ side (corner s i) (corner s (next (length s) i)) (middle (corner s 0) (corner s 1) (corner s 2))
  unfolding value_of
  middle_left i h =
      let m = sound.many in
      rw side_middle (one>0 (value_of i 0) (value_of i 1) (value_of i 2) (convex_side s sound i 0 h (omega arith)) (convex_side s sound i 1 h (omega arith)) (convex_side s sound i 2 h (omega arith)) (some_left i h))

pub has_inside : HasInside
unfolding Inside edge
has_inside s sound = record { spot = middle (corner s 0) (corner s 1) (corner s 2); real = middle_real (corner s 0) (corner s 1) (corner s 2); inside = middle_left s sound }
