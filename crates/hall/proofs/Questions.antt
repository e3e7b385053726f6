-- Several questions in order: the first refusal is none exactly where each is none. Assumes nothing.
use Rattle.std.proofs.Common.{◌≡◌, ℕ, ◌<◌, Bool, true, List, [], ◌∷◌, None, Option, refl, ◌∙◌}
use Rattle.std.specs.List.{AllByRecursion as All}
use Rattle.hall.specs.declared.refusals.Refusal.{Refusal}
use Rattle.hall.specs.Format.{◌then◌, first_below, unless}
use Rattle.hall.proofs.Faults.{then_parts, none_then, test_from_none, unless_true, below_none, none_below}

-- the first refusal of a list
abbrev pub asked : List (Option Refusal) → Option Refusal
asked [] = None
asked (q ∷ []) = q
asked (q ∷ r ∷ qs) = q then asked (r ∷ qs)

pub asked_none : (qs : List (Option Refusal)) → asked qs ≡ None → All (λ q. q ≡ None) qs
asked_none [] e = tt
asked_none (q ∷ []) e = (e, tt)
asked_none (q ∷ r ∷ qs) e = let p = then_parts q (asked (r ∷ qs)) e in (p.0, asked_none (r ∷ qs) p.1)

pub none_asked : (qs : List (Option Refusal)) → All (λ q. q ≡ None) qs → asked qs ≡ None
none_asked [] h = refl
none_asked (q ∷ []) h = h.0
none_asked (q ∷ r ∷ qs) h = none_then q (asked (r ∷ qs)) h.0 ∙ none_asked (r ∷ qs) h.1

-- a test of each number below n
pub below_tests : (n : ℕ) (t : ℕ → Bool) (r : ℕ → Refusal) → first_below n (λ k. unless (t k) (r k)) ≡ None → (k : ℕ) → k < n → t k ≡ true
below_tests n t r e k l = test_from_none (t k) (r k) (below_none n (λ j. unless (t j) (r j)) e k l)

pub tests_below : (n : ℕ) (t : ℕ → Bool) (r : ℕ → Refusal) → ((k : ℕ) → k < n → t k ≡ true) → first_below n (λ k. unless (t k) (r k)) ≡ None
tests_below n t r h = none_below n (λ j. unless (t j) (r j)) (λ k l. unless_true (t k) (r k) (h k l))
