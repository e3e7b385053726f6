-- The first refusal of several, and tests of all numbers below one. Assumes nothing.
use Rattle.std.proofs.Common.{◌≡◌, ℕ, zero, suc, ◌+◌, ◌<◌, ◌≤◌, Bool, true, false, IsErrAnd, Some, None, Option, Result, Ok, Err, subst, sym, refl, ap, ◌∙◌, ⊎_elim, arith}
use Rattle.hall.specs.Outlines.{Tells}
use Rattle.std.proofs.lemmas.Result.{err_from_is_err_and}
use Rattle.std.proofs.lemmas.Bool.{and_parts, and_from, and_left, and_right, cases_eq}
use Rattle.hall.specs.declared.refusals.Refusal.{Refusal}
use Rattle.hall.specs.Format.{◌then◌, first_below, unless, all_below}

-- ---- two refusals
pub then_parts : (a b : Option Refusal) → a then b ≡ None → (a ≡ None) × (b ≡ None)
then_parts None b e = (refl, e)
then_parts (Some x) b e = absurd (let z : ◌≡◌ {A = ℕ} 0 1 = cc in omega arith)

pub none_then : (a b : Option Refusal) → a ≡ None → a then b ≡ b
none_then a b e = ap (λ (x : Option Refusal). x then b) e

pub some_then : (a b : Option Refusal) (r : Refusal) → a ≡ Some r → a then b ≡ Some r
some_then a b r e = ap (λ (x : Option Refusal). x then b) e

-- ---- what an answer tells of the first of two
pub tells_second : {X : Type 0} (r : Result X Refusal) (a b : Option Refusal) → a ≡ None → Tells r b → Tells r (a then b)
tells_second r a b e t = rw (none_then a b e) t

-- what is found after a question that has no fault
pub later : (a b : Option Refusal) (r : Refusal) → a ≡ None → b ≡ Some r → a then b ≡ Some r
later a b r e f = none_then a b e ∙ f

-- the exit of a `?` hands on what the call told
pub exits : {X : Type 0} (r : Result X Refusal) (e : Refusal) (fault : Option Refusal) → IsErrAnd r (λ y. y ≡ e) → fault ≡ Some e → Tells r fault
exits r e fault b h = let p = err_from_is_err_and r b in rw (p.1, p.2) h

-- of two calls the first tells q: where it breaks off, so does the whole, and else the second tells
module _ {X Y : Type 0} (q : Result X Refusal) (r : Result Y Refusal) (a b : Option Refusal) (told : Tells q a) where
  pub breaks_off : (e : Refusal) → q ≡ Err e → IsErrAnd r (λ y. y ≡ e) → Tells r (a then b)
  breaks_off e was h = exits r e (a then b) h (some_then a b e (subst (λ v. Tells v a) was told))

  pub goes_on : (x : X) → q ≡ Ok x → Tells r b → Tells r (a then b)
  goes_on x was t = tells_second r a b (subst (λ v. Tells v a) was told) t

-- ---- a refusal, unless a test holds
pub test_from_none : (t : Bool) (r : Refusal) → unless t r ≡ None → t ≡ true
test_from_none true r e = refl
test_from_none false r e = absurd (let z : ◌≡◌ {A = ℕ} 0 1 = cc in omega arith)

pub unless_true : (t : Bool) (r : Refusal) → t ≡ true → unless t r ≡ None
unless_true t r e = ap (λ (x : Bool). unless x r) e

-- ---- the first below n
pub below_none : (n : ℕ) (f : ℕ → Option Refusal) → first_below n f ≡ None → (k : ℕ) → k < n → f k ≡ None
below_none zero f e k h = absurd (omega arith)
below_none (suc n) f e k h =
    let p = then_parts (first_below n f) (f n) e in
    ⊎_elim (λ q. ap f q ∙ p.1) (λ q. below_none n f p.0 k (omega arith)) (cases_eq k n)

pub none_below : (n : ℕ) (f : ℕ → Option Refusal) → ((k : ℕ) → k < n → f k ≡ None) → first_below n f ≡ None
none_below zero f h = refl
none_below (suc n) f h = none_then (first_below n f) (f n) (none_below n f (λ k l. h k (omega arith))) ∙ h n (omega arith)

-- what is found once is found
pub first_kept : (n k : ℕ) (f : ℕ → Option Refusal) (r : Refusal) → k ≤ n → first_below k f ≡ Some r → first_below n f ≡ Some r
first_kept zero k f r h e = let z : k ≡ 0 = omega arith in sym (ap (λ (m : ℕ). first_below m f) z) ∙ e
first_kept (suc n) k f r h e =
    ⊎_elim (λ q. sym (ap (λ (m : ℕ). first_below m f) q) ∙ e) (λ q. some_then (first_below n f) (f n) r (first_kept n k f r (omega arith) e)) (cases_eq k (suc n))

-- one more that holds; and the first that doesn't
pub below_step : (k : ℕ) (f : ℕ → Option Refusal) → first_below k f ≡ None → f k ≡ None → first_below (k + 1) f ≡ None
below_step k f e h = none_below (k + 1) f (λ j l. ⊎_elim (λ q. ap f q ∙ h) (λ q. below_none k f e j (omega arith)) (cases_eq j k))

pub found : (n k : ℕ) (f : ℕ → Option Refusal) (r : Refusal) → k < n → first_below k f ≡ None → f k ≡ Some r → first_below n f ≡ Some r
found n k f r h e s = first_kept n (suc k) f r (omega arith) (none_then (first_below k f) (f k) e ∙ s)

-- ---- a test of all below n
pub all_at : (n : ℕ) (f : ℕ → Bool) → all_below n f ≡ true → (k : ℕ) → k < n → f k ≡ true
all_at zero f e k h = absurd (omega arith)
all_at (suc n) f e k h =
    let p = and_parts (all_below n f) (f n) e in
    ⊎_elim (λ q. ap f q ∙ p.1) (λ q. all_at n f p.0 k (omega arith)) (cases_eq k n)

pub all_from : (n : ℕ) (f : ℕ → Bool) → ((k : ℕ) → k < n → f k ≡ true) → all_below n f ≡ true
all_from zero f h = refl
all_from (suc n) f h = and_from (all_below n f) (f n) (all_from n f (λ k l. h k (omega arith))) (h n (omega arith))

pub not_all : (n k : ℕ) (f : ℕ → Bool) → k < n → f k ≡ false → all_below n f ≡ false
not_all zero k f h e = absurd (omega arith)
not_all (suc n) k f h e =
    ⊎_elim (λ q. and_right (all_below n f) (f n) (sym (ap f q) ∙ e)) (λ q. and_left (all_below n f) (f n) (not_all n k f (omega arith) e)) (cases_eq k n)
