-- Numbers that go round: after the last comes 0. Assumes nothing.
use Rattle.std.proofs.Common.{◌≡◌, ℕ, zero, suc, ◌+◌, ◌-◌, ◌<◌, ◌⊎◌, sym, subst, inl, inr, ⊎_elim, arith}
use Rattle.std.proofs.lemmas.Bool.{cases_eq}
use Rattle.std.proofs.lemmas.Bool.Decides.{nat_tests}
use Rattle.algebra.specs.Hall.{next}

pub next_inner : (n i : ℕ) → i + 1 < n → next n i ≡ i + 1
next_inner n i h = grind (arith, nat_tests)

pub next_last : (n i : ℕ) → i + 1 ≡ n → next n i ≡ 0
next_last n i h = grind (arith, nat_tests)

-- the two ways to go on
pub steps : (n i : ℕ) → i < n → ((i + 1 < n) × (next n i ≡ i + 1)) ⊎ ((i + 1 ≡ n) × (next n i ≡ 0))
steps n i h = grind (arith, nat_tests)

pub next_below : (n i : ℕ) → i < n → next n i < n
next_below n i h = grind (arith, nat_tests)

-- the number before
pub record Before (n i : ℕ) : Type 0 where
  pub it : ℕ
  pub within : it < n
  pub is : next n it ≡ i

pub before : (n i : ℕ) → i < n → Before n i
before n zero h = record { it = n - 1; within = omega arith; is = next_last n (n - 1) (omega arith) }
before n (suc i) h = let e : next n i ≡ i + 1 = next_inner n i (omega arith) in record { it = i; within = omega arith; is = omega arith }

-- ---- what changes on the way round changes at some number
pub record Turn (n : ℕ) (P Q : ℕ → Type 0) : Type 0 where
  pub it : ℕ
  pub within : it < n
  pub from : P it
  pub to : Q (next n it)

module _ (n : ℕ) (P Q : ℕ → Type 0) (decide : (k : ℕ) → P k ⊎ Q k) (j : ℕ) (hj : j < n) (not : P j → ⊥) where
  -- from k, with m steps to go to j, perhaps past the last
  go : (m k : ℕ) → k < n → P k → (k + m ≡ j) ⊎ (k + m ≡ j + n) → Turn n P Q
  go zero k hk from (inl e) = let same : k ≡ j = omega arith in absurd (not (subst P same from))
  go zero k hk from (inr e) = absurd (omega arith)
  go (suc m) k hk from e =
      ⊎_elim
      (λ on. go m (next n k) (next_below n k hk) on (⊎_elim
      (λ r. ⊎_elim (λ l. inl (omega arith)) (λ l. inr (omega arith)) e)
      (λ r. ⊎_elim (λ l. absurd (omega arith)) (λ l. inl (omega arith)) e)
      (steps n k hk)))
      (λ to. record { it = k; within = hk; from = from; to = to })
      (decide (next n k))

  pub turns : (i : ℕ) → i < n → P i → Turn n P Q
  turns i hi from = go (n + j - i) i hi from (inr (omega arith))

-- ---- some number below n, or none
pub record Found (n : ℕ) (P : ℕ → Type 0) : Type 0 where
  pub it : ℕ
  pub within : it < n
  pub is : P it

pub find : (n : ℕ) (P Q : ℕ → Type 0) → ((k : ℕ) → P k ⊎ Q k) → Found n P ⊎ ((k : ℕ) → k < n → Q k)
find zero P Q decide = inr (λ k h. absurd (omega arith))
find (suc n) P Q decide =
    ⊎_elim
    (λ p. inl (record { it = n; within = omega arith; is = p }))
    (λ q. ⊎_elim
    (λ f. inl (record { it = f.it; within = omega (arith, f.within); is = f.is }))
    (λ none. inr (λ k h. ⊎_elim (λ e. subst Q (sym e) q) (λ r. none k (omega arith)) (cases_eq k n)))
    (find n P Q decide))
    (decide n)

pub find_one : (n : ℕ) (P Q : ℕ → Type 0) → ((k : ℕ) → P k ⊎ Q k) → (((k : ℕ) → k < n → Q k) → ⊥) → Found n P
find_one n P Q decide some = ⊎_elim (λ f. f) (λ none. absurd (some none)) (find n P Q decide)
