-- Signs and orders of sums and products of integers. Assumes nothing.
--     search signs                               pos 0 <ℤ z or pos 0 ≤ℤ z, of sums and products of what is known to be so; deeper: `depth 12 fits 5000`
--     by-< d (search signs) (by_ring ..)         a <ℤ b, from b ≡ a +ℤ d; so with by-≤, and by-≡ from another equation
--     untimes-< a b c (search signs) ..          a <ℤ b, from (a *ℤ c) <ℤ (b *ℤ c); so with untimes-≤ and untimes-≡
use Rattle.std.proofs.Common.{◌≡◌, ℕ, zero, suc, ◌*◌, ◌<◌, ◌⊎◌, [], ◌∷◌, ℤ, pos, negsuc, ◌+ℤ◌, ◌-ℤ◌, ◌*ℤ◌, neg_ℤ, ◌≤ℤ◌, ◌<ℤ◌, refl, ap, ◌∙◌, inl, inr, mul-pos, arith}
use lib.IntN.{*ℤ_comm}
use borrow.Author.Differences.{ints}
use Rattle.std.proofs.lemmas.Int.{by_lt_z}
use Rattle.algebra.specs.Laws.{SignRules}
use Rattle.algebra.proofs.Polynomial.{forms, by_ring}
use Rattle.algebra.proofs.Ring.{+ℤ-*ℤ, negℤ-*ℤ}

-- ---- signs
pub sign_cases : (z : ℤ) → (z <ℤ pos 0) ⊎ (z ≡ pos 0) ⊎ (pos 0 <ℤ z)
sign_cases (pos zero) = inr (inl refl)
sign_cases (pos (suc n)) = inr (inr (omega (arith, ints)))
sign_cases (negsuc n) = inl (omega (arith, ints))

pub pos≥0 : (n : ℕ) → pos 0 ≤ℤ pos n
pos≥0 n = omega (arith, ints)

pub pos>0 : (n : ℕ) → 0 < n → pos 0 <ℤ pos n
pos>0 n h = omega (arith, ints)

pub weaker : (a : ℤ) → pos 0 <ℤ a → pos 0 ≤ℤ a
weaker a h = omega (arith, ints)

pub sum≥0 : (a b : ℤ) → pos 0 ≤ℤ a → pos 0 ≤ℤ b → pos 0 ≤ℤ (a +ℤ b)
sum≥0 a b h k = omega (arith, ints)

pub sum>0_left : (a b : ℤ) → pos 0 <ℤ a → pos 0 ≤ℤ b → pos 0 <ℤ (a +ℤ b)
sum>0_left a b h k = omega (arith, ints)

pub sum>0_right : (a b : ℤ) → pos 0 ≤ℤ a → pos 0 <ℤ b → pos 0 <ℤ (a +ℤ b)
sum>0_right a b h k = omega (arith, ints)

pub product≥0 : (a b : ℤ) → pos 0 ≤ℤ a → pos 0 ≤ℤ b → pos 0 ≤ℤ (a *ℤ b)
product≥0 (pos a) (pos b) h k = pos≥0 (a * b)
product≥0 (pos a) (negsuc b) h k = absurd (omega (arith, ints))
product≥0 (negsuc a) b h k = absurd (omega (arith, ints))

pub product>0 : (a b : ℤ) → pos 0 <ℤ a → pos 0 <ℤ b → pos 0 <ℤ (a *ℤ b)
product>0 (pos a) (pos b) h k = let m : 0 < a = omega (arith, ints) in let n : 0 < b = omega (arith, ints) in pos>0 (a * b) (mul-pos m n)
product>0 (pos a) (negsuc b) h k = absurd (omega (arith, ints))
product>0 (negsuc a) b h k = absurd (omega (arith, ints))

pub square≥0 : (a : ℤ) → pos 0 ≤ℤ (a *ℤ a)
square≥0 (pos a) = pos≥0 (a * a)
square≥0 (negsuc a) = pos≥0 (suc a * suc a)

pub gap>0 : (a b : ℤ) → a <ℤ b → pos 0 <ℤ (b -ℤ a)
gap>0 a b h = omega (arith, ints)

pub gap≥0 : (a b : ℤ) → a ≤ℤ b → pos 0 ≤ℤ (b -ℤ a)
gap≥0 a b h = omega (arith, ints)

pub ruleset signs = (product>0, product≥0, sum>0_left, sum>0_right, sum≥0, square≥0, gap>0, gap≥0, pos>0, pos≥0, mul-pos, weaker)

-- what is below 0, as what is above: for `search (signs, neg>0, neg≥0)`
pub neg>0 : (a : ℤ) → a <ℤ pos 0 → pos 0 <ℤ neg_ℤ a
neg>0 a h = omega (arith, ints)

pub neg≥0 : (a : ℤ) → a ≤ℤ pos 0 → pos 0 ≤ℤ neg_ℤ a
neg≥0 a h = omega (arith, ints)

-- ---- an order from the sign of a difference, and an equation from another
pub by-< : {a b : ℤ} (d : ℤ) → pos 0 <ℤ d → b ≡ a +ℤ d → a <ℤ b
by-< {a} {b} d h e = omega (arith, ints)

pub by-≤ : {a b : ℤ} (d : ℤ) → pos 0 ≤ℤ d → b ≡ a +ℤ d → a ≤ℤ b
by-≤ {a} {b} d h e = omega (arith, ints)

pub by-≡ : {a b : ℤ} (l r : ℤ) → l ≡ r → a +ℤ r ≡ b +ℤ l → a ≡ b
by-≡ {a} {b} l r h e = omega (arith, ints)

-- ---- a factor put to an order
difference_times : (a b c : ℤ) → (b -ℤ a) *ℤ c ≡ (b *ℤ c) -ℤ (a *ℤ c)
difference_times a b c = +ℤ-*ℤ b (neg_ℤ a) c ∙ ap (λ (x : ℤ). (b *ℤ c) +ℤ x) (negℤ-*ℤ a c)

pub times-≤ : (a b c : ℤ) → a ≤ℤ b → pos 0 ≤ℤ c → (a *ℤ c) ≤ℤ (b *ℤ c)
times-≤ a b c h k = omega (arith, ints, product≥0 (b -ℤ a) c (gap≥0 a b h) k, difference_times a b c)

pub times-< : (a b c : ℤ) → a <ℤ b → pos 0 <ℤ c → (a *ℤ c) <ℤ (b *ℤ c)
times-< a b c h k = omega (arith, ints, product>0 (b -ℤ a) c (gap>0 a b h) k, difference_times a b c)

pub product≤0 : (a b : ℤ) → pos 0 ≤ℤ a → b ≤ℤ pos 0 → (a *ℤ b) ≤ℤ pos 0
product≤0 a b h k = omega (arith, ints, times-≤ b (pos 0) a k h, *ℤ_comm a b)

pub product<0 : (a b : ℤ) → pos 0 <ℤ a → b <ℤ pos 0 → (a *ℤ b) <ℤ pos 0
product<0 a b h k = omega (arith, ints, times-< b (pos 0) a k h, *ℤ_comm a b)

-- ---- and taken away from it
pub untimes-< : (a b c : ℤ) → pos 0 ≤ℤ c → (a *ℤ c) <ℤ (b *ℤ c) → a <ℤ b
untimes-< a b c h k = by_lt_z a b (λ t. t) (λ t. absurd (omega (arith, ints, times-≤ b a c t h)))

pub untimes-≤ : (a b c : ℤ) → pos 0 <ℤ c → (a *ℤ c) ≤ℤ (b *ℤ c) → a ≤ℤ b
untimes-≤ a b c h k = by_lt_z b a (λ t. absurd (omega (arith, ints, times-< b a c t h))) (λ t. t)

pub untimes-≡ : (a b c : ℤ) → pos 0 <ℤ c → a *ℤ c ≡ b *ℤ c → a ≡ b
untimes-≡ a b c h e = omega (arith, ints, untimes-≤ a b c h (omega (arith, ints)), untimes-≤ b a c h (omega (arith, ints)))

-- the sign of a factor, from that of the product and of the other factor
pub factor>0 : (a b : ℤ) → pos 0 <ℤ a → pos 0 <ℤ (a *ℤ b) → pos 0 <ℤ b
factor>0 a b h k = by_lt_z (pos 0) b (λ t. t) (λ t. absurd (omega (arith, ints, product≤0 a b (weaker a h) t)))

pub factor≥0 : (a b : ℤ) → pos 0 <ℤ a → pos 0 ≤ℤ (a *ℤ b) → pos 0 ≤ℤ b
factor≥0 a b h k = by_lt_z b (pos 0) (λ t. absurd (omega (arith, ints, product<0 a b h t))) (λ t. t)

pub factor<0 : (a b : ℤ) → pos 0 <ℤ a → (a *ℤ b) <ℤ pos 0 → b <ℤ pos 0
factor<0 a b h k = by_lt_z b (pos 0) (λ t. t) (λ t. absurd (omega (arith, ints, product≥0 a b (weaker a h) t)))

pub factor≡0 : (a b : ℤ) → pos 0 <ℤ a → a *ℤ b ≡ pos 0 → b ≡ pos 0
factor≡0 a b h e = untimes-≡ b (pos 0) a h (omega (arith, ints, *ℤ_comm a b))

-- ---- a product of bounded factors: 2 (m n - a b) = (m - a)(n + b) + (m + a)(n - b)
pub product-≤ : (a b : ℤ) (m n : ℕ) → neg_ℤ (pos m) ≤ℤ a → a ≤ℤ pos m → neg_ℤ (pos n) ≤ℤ b → b ≤ℤ pos n → (a *ℤ b) ≤ℤ pos (m * n)
product-≤ a b m n h k s t =
    let p : pos 0 ≤ℤ (((pos m -ℤ a) *ℤ (pos n +ℤ b)) +ℤ ((pos m +ℤ a) *ℤ (pos n -ℤ b))) =
    sum≥0 _ _ (product≥0 (pos m -ℤ a) (pos n +ℤ b) (omega (arith, ints)) (omega (arith, ints))) (product≥0 (pos m +ℤ a) (pos n -ℤ b) (omega (arith, ints)) (omega (arith, ints))) in
    let e : ((pos m -ℤ a) *ℤ (pos n +ℤ b)) +ℤ ((pos m +ℤ a) *ℤ (pos n -ℤ b)) ≡ pos 2 *ℤ (pos (m * n) -ℤ (a *ℤ b)) = by_ring (a ∷ b ∷ pos m ∷ pos n ∷ []) (search forms depth 60 fits 99999) refl in
    let q : pos 0 ≤ℤ (pos 2 *ℤ (pos (m * n) -ℤ (a *ℤ b))) = rw e at p in
    omega (arith, ints)

pub product-≥ : (a b : ℤ) (m n : ℕ) → neg_ℤ (pos m) ≤ℤ a → a ≤ℤ pos m → neg_ℤ (pos n) ≤ℤ b → b ≤ℤ pos n → neg_ℤ (pos (m * n)) ≤ℤ (a *ℤ b)
product-≥ a b m n h k s t =
    let c = product-≤ (neg_ℤ a) b m n (omega (arith, ints)) (omega (arith, ints)) s t in
    omega (arith, ints, negℤ-*ℤ a b)

pub sign_rules : SignRules
sign_rules =
    record {
      cases = sign_cases;
      sum≥0 = sum≥0;
      sum>0 = sum>0_left;
      product≥0 = product≥0;
      product>0 = product>0;
      product<0 = product<0;
      square≥0 = square≥0;
      times-≤ = times-≤;
      times-< = times-<;
      untimes-≤ = untimes-≤;
      untimes-< = untimes-<;
      untimes-≡ = untimes-≡;
    }
