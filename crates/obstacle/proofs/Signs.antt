-- Signs of products and sums of integers, where algebra has none for them. Assumes nothing.
use Rattle.std.proofs.Common.{◌≡◌, [], ◌∷◌, ℤ, pos, ◌+ℤ◌, ◌*ℤ◌, neg_ℤ, ◌≤ℤ◌, ◌<ℤ◌, refl, ap, subst, ⊎_elim, arith}
use borrow.Author.Differences.{ints}
use Rattle.algebra.proofs.Polynomial.{forms, by_ring}
use Rattle.algebra.proofs.Order.{signs, sign_cases, neg>0, product>0}

pub times_none : (m x : ℤ) → x ≡ pos 0 → m *ℤ x ≡ pos 0
times_none m x e = omega (arith, ints, ap (λ (t : ℤ). m *ℤ t) e)

pub none_times : (m x : ℤ) → m ≡ pos 0 → m *ℤ x ≡ pos 0
none_times m x e = omega (arith, ints, ap (λ (t : ℤ). t *ℤ x) e)

-- by the sign of a number
pub by_sign : {P : Type 0} (z : ℤ) → (z <ℤ pos 0 → P) → (z ≡ pos 0 → P) → (pos 0 <ℤ z → P) → P
by_sign z below level above = ⊎_elim below (λ r. ⊎_elim level above r) (sign_cases z)

-- what is not below 0 is 0, or above
pub ≥0_cases : {P : Type 0} (x : ℤ) → pos 0 ≤ℤ x → (x ≡ pos 0 → P) → (pos 0 <ℤ x → P) → P
≥0_cases x h e l = by_sign x (λ n. absurd (omega (arith, ints))) e l

pub both_below : (a b : ℤ) → a <ℤ pos 0 → b <ℤ pos 0 → pos 0 <ℤ (a *ℤ b)
both_below a b h k = subst (λ (z : ℤ). pos 0 <ℤ z) (by_ring (a ∷ b ∷ []) (search forms depth 60 fits 99999) refl) (product>0 (neg_ℤ a) (neg_ℤ b) (neg>0 a h) (neg>0 b k))

-- a square is 0 where the number is, and above 0 elsewhere
pub square_cases : {P : Type 0} (z : ℤ) → (z ≡ pos 0 → P) → (pos 0 <ℤ (z *ℤ z) → P) → P
square_cases z e l = by_sign z (λ h. l (both_below z z h h)) e (λ h. l (product>0 z z h h))

pub squares>0 : (a b : ℤ) → ((a ≡ pos 0) × (b ≡ pos 0) → ⊥) → pos 0 <ℤ ((a *ℤ a) +ℤ (b *ℤ b))
squares>0 a b n = square_cases a (λ e. square_cases b (λ d. absurd (n (e, d))) (λ h. search signs)) (λ h. search signs)
