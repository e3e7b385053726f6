-- What each element of an array is that a closure made by its number. Assumes nothing.
use Rattle.std.proofs.Common.{◌≡◌, refl, ℕ, zero, suc, ◌+◌, ◌<◌, ◌≤◌, List, get_or, sym, subst, ⊎_elim, arith}
use Rattle.std.proofs.lemmas.Bool.{cases_eq}
use Rattle.std.specs.Array.{IsFromFnResultFrom, IsFromFnResult}
use denote.Param.Members.{Mut, Called}

module _ {F B : Type 0} (g : Mut F (ℕ × Unit {0}) B) (f : F) (P : ℕ → B → Type 0) (says : (k : ℕ) (y : B) (q : F) → Called g f (k, tt) y q → (q ≡ f) × P k y) where
  made_from : (n i : ℕ) (p : F) (ys : List B) → p ≡ f → IsFromFnResultFrom g p ys i n → (k : ℕ) (d : B) → i ≤ k → k < i + n → P k (get_or ys k d)
  made_from zero i p ys e h k d a b = absurd (omega arith)
  made_from (suc n) i p ys e h k d a b =
      let s = says i h.1 h.0 (subst (λ q. Called g q (i, tt) h.1 h.0) e h.3) in
      ⊎_elim
      (λ q. rw q (subst (P i) (sym (h.2.1 d)) s.1))
      (λ q. made_from n (i + 1) h.0 ys s.0 h.4 k d (omega arith) (omega arith))
      (cases_eq k i)

  -- where each call leaves the closure as it was, and gives a P
  pub made_each : (n : ℕ) (ys : List B) → IsFromFnResult g f ys n → (k : ℕ) (d : B) → k < n → P k (get_or ys k d)
  made_each n ys h k d l = made_from n 0 f ys refl h.each k d (omega arith) (omega arith)
