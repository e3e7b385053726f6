-- The order of spots, and where a form that changes its sign along a surface is above 0. Assumes nothing.
use Rattle.std.proofs.Common.{◌≡◌, ℕ, ◌+◌, ◌*◌, ◌<◌, true, false, [], ◌∷◌, ℤ, pos, ◌+ℤ◌, ◌-ℤ◌, ◌*ℤ◌, neg_ℤ, ◌≤ℤ◌, ◌<ℤ◌, Ordering, Less, Equal, Greater, sym, refl, ◌∙◌, ap₂, arith}
use borrow.Author.Differences.{ints}
use Rattle.std.specs.Ordering.{MatchOrdering, is_lt, is_gt}
use Rattle.std.proofs.lemmas.Bool.{both_ways}
use Rattle.algebra.proofs.Polynomial.{forms, by_ring}
use Rattle.algebra.proofs.Order.{signs, by-<, by-≤, pos≥0, pos>0, untimes-<, untimes-≤, times-≤}
use Rattle.ledge.specs.Shadows.{Before, Together, NotAfter}

-- ---- three spots: (x u - t y) (v + w) = (v u - t w) (x + y) + (x w - v y) (t + u)
module _ (t u v w x y : ℕ) where
  apart : ℤ
  apart = ((pos (v * u) -ℤ pos (t * w)) *ℤ pos (x + y)) +ℤ ((pos (x * w) -ℤ pos (v * y)) *ℤ pos (t + u))

  three : pos (x * u) *ℤ pos (v + w) ≡ (pos (t * y) *ℤ pos (v + w)) +ℤ apart
  unfolding apart
  three = by_ring (pos t ∷ pos u ∷ pos v ∷ pos w ∷ pos x ∷ pos y ∷ []) (search forms depth 60 fits 99999) refl

  pub before_then : 0 < x + y → Before t u v w → NotAfter v w x y → Before t u x y
  unfolding apart
  before_then s h k =
      let i : pos (t * w) <ℤ pos (v * u) = omega (arith, ints) in
      let j : pos (v * y) ≤ℤ pos (x * w) = omega (arith, ints) in
      let l : pos (t * y) <ℤ pos (x * u) = untimes-< (pos (t * y)) (pos (x * u)) (pos (v + w)) (pos≥0 (v + w)) (by-< apart (search signs) three) in
      omega (arith, ints)

  pub then_before : 0 < t + u → NotAfter t u v w → Before v w x y → Before t u x y
  unfolding apart
  then_before s h k =
      let i : pos (t * w) ≤ℤ pos (v * u) = omega (arith, ints) in
      let j : pos (v * y) <ℤ pos (x * w) = omega (arith, ints) in
      let l : pos (t * y) <ℤ pos (x * u) = untimes-< (pos (t * y)) (pos (x * u)) (pos (v + w)) (pos≥0 (v + w)) (by-< apart (search signs) three) in
      omega (arith, ints)

  pub not_after_then : 0 < v + w → NotAfter t u v w → NotAfter v w x y → NotAfter t u x y
  unfolding apart
  not_after_then s h k =
      let i : pos (t * w) ≤ℤ pos (v * u) = omega (arith, ints) in
      let j : pos (v * y) ≤ℤ pos (x * w) = omega (arith, ints) in
      let l : pos (t * y) ≤ℤ pos (x * u) = untimes-≤ (pos (t * y)) (pos (x * u)) (pos (v + w)) (pos>0 (v + w) s) (by-≤ apart (search signs) three) in
      omega (arith, ints)

-- ---- a form that is f at the left end and g at the right one
rising : (m n t u : ℕ) → (neg_ℤ (pos m) *ℤ pos u) +ℤ (pos n *ℤ pos t) ≡ pos (t * n) -ℤ pos (m * u)
rising m n t u = by_ring (pos m ∷ pos n ∷ pos t ∷ pos u ∷ []) (search forms depth 60 fits 99999) refl

falling : (m n t u : ℕ) → (pos m *ℤ pos u) +ℤ (neg_ℤ (pos n) *ℤ pos t) ≡ pos (m * u) -ℤ pos (t * n)
falling m n t u = by_ring (pos m ∷ pos n ∷ pos t ∷ pos u ∷ []) (search forms depth 60 fits 99999) refl

module _ (f g : ℤ) (t u : ℕ) where
  -- it rises through 0 where it has gone m parts of m + n
  pub above_after : (m n : ℕ) → pos m ≡ neg_ℤ f → pos n ≡ g → (pos 0 <ℤ ((f *ℤ pos u) +ℤ (g *ℤ pos t)) → Before m n t u) × (Before m n t u → pos 0 <ℤ ((f *ℤ pos u) +ℤ (g *ℤ pos t)))
  above_after m n em en =
      let k : (f *ℤ pos u) +ℤ (g *ℤ pos t) ≡ pos (t * n) -ℤ pos (m * u) = ap₂ (λ (y z : ℤ). (y *ℤ pos u) +ℤ (z *ℤ pos t)) (omega (arith, ints)) (sym en) ∙ rising m n t u in
      (λ h. omega (arith, ints), λ h. omega (arith, ints))

  -- or falls
  pub above_before : (m n : ℕ) → pos m ≡ f → pos n ≡ neg_ℤ g → (pos 0 <ℤ ((f *ℤ pos u) +ℤ (g *ℤ pos t)) → Before t u m n) × (Before t u m n → pos 0 <ℤ ((f *ℤ pos u) +ℤ (g *ℤ pos t)))
  above_before m n em en =
      let k : (f *ℤ pos u) +ℤ (g *ℤ pos t) ≡ pos (m * u) -ℤ pos (t * n) = ap₂ (λ (y z : ℤ). (y *ℤ pos u) +ℤ (z *ℤ pos t)) (sym em) (omega (arith, ints)) ∙ falling m n t u in
      (λ h. omega (arith, ints), λ h. omega (arith, ints))

  -- above 0 at both ends, it is so everywhere
  pub above_all : pos 0 <ℤ f → pos 0 <ℤ g → 0 < t + u → pos 0 <ℤ ((f *ℤ pos u) +ℤ (g *ℤ pos t))
  above_all h k s = omega (arith, ints, times-≤ (pos 1) f (pos u) (omega (arith, ints)) (pos≥0 u), times-≤ (pos 1) g (pos t) (omega (arith, ints)) (pos≥0 t))

-- ---- what `order` found, by the test that was made of it
pub is_after : (r : Ordering) (t u v w : ℕ) → MatchOrdering r (Before t u v w) (Together t u v w) (Before v w t u) → is_gt r ≡ true → Before v w t u
is_after Less t u v w h e = absurd (both_ways false refl e)
is_after Equal t u v w h e = absurd (both_ways false refl e)
is_after Greater t u v w h e = h

pub not_after : (r : Ordering) (t u v w : ℕ) → MatchOrdering r (Before t u v w) (Together t u v w) (Before v w t u) → is_gt r ≡ false → NotAfter t u v w
not_after Less t u v w h e = omega arith
not_after Equal t u v w h e = omega arith
not_after Greater t u v w h e = absurd (both_ways true e refl)

pub is_before : (r : Ordering) (t u v w : ℕ) → MatchOrdering r (Before t u v w) (Together t u v w) (Before v w t u) → is_lt r ≡ true → Before t u v w
is_before Less t u v w h e = h
is_before Equal t u v w h e = absurd (both_ways false refl e)
is_before Greater t u v w h e = absurd (both_ways false refl e)

pub not_before : (r : Ordering) (t u v w : ℕ) → MatchOrdering r (Before t u v w) (Together t u v w) (Before v w t u) → is_lt r ≡ false → NotAfter v w t u
not_before Less t u v w h e = absurd (both_ways true e refl)
not_before Equal t u v w h e = omega arith
not_before Greater t u v w h e = omega arith
