-- Euclid's way to the greatest common divisor. Assumes nothing.
use Rattle.std.proofs.Common.{refl, ◌≡◌, ℕ, zero, suc, ◌*◌, ◌/◌, ◌%◌, ◌<◌, ◌≤◌, sym, ap, ◌∙◌, subst, inl, inr, mod-lt, one-mul, arith}
use Prim.Native.Nat.{◌∣◌}
use native.Mathlib.Nat.{dvd-mul_left, dvd-mul_right, dvd_of_mul-dvd-mul_right, pos_of_dvd_of_pos, div-mul_cancel}
use Rattle.std.proofs.lemmas.Bool.{cases_lt}
use Rattle.std.proofs.lemmas.Nat.Gcd.{IsGcd-from_zero, IsGcd-from_mod}
use Rattle.std.specs.Int.{IsGcd}

-- every two numbers have a greatest common divisor
found : (f a b : ℕ) → b ≤ f → (g : ℕ) × IsGcd a b g
found f a zero h = (a, IsGcd-from_zero a 0 refl)
found zero a (suc b) h = absurd (omega arith)
found (suc f) a (suc b) h =
    let l : a % suc b < suc b = mod-lt a (omega arith) in
    let r = found f (suc b) (a % suc b) (omega arith) in
    (r.0, IsGcd-from_mod a (suc b) r.0 r.1)

pub greatest : (a b : ℕ) → (g : ℕ) × IsGcd a b g
greatest a b = found b a b (omega arith)

-- if no number from 2 on divides both a and d, and d divides a times e, then d divides e
pub divides_other : (a b d e : ℕ) → 0 < d → 0 < e → ((k : ℕ) → 2 ≤ k → k ∣ a → k ∣ d → ⊥) → a * e ≡ b * d → d ∣ e
divides_other a b d e some more none eq =
    let g = greatest (a * e) (d * e) in
    let t = g.0 / e in
    let whole : t * e ≡ g.0 = div-mul_cancel e (g.1.2 e (dvd-mul_left e a) (dvd-mul_left e d)) in
    let left : t ∣ a = dvd_of_mul-dvd-mul_right t more (subst (λ (n : ℕ). n ∣ a * e) (sym whole) g.1.0) in
    let right : t ∣ d = dvd_of_mul-dvd-mul_right t more (subst (λ (n : ℕ). n ∣ d * e) (sym whole) g.1.1) in
    let one : t ≡ 1 =
    elim (cases_lt t 2) [ inl l ↦ (let p : 0 < t = pos_of_dvd_of_pos right some in omega arith) | inr l ↦ (let z : ⊥ = none t l left right in omega arith) ]
    in
    let same : g.0 ≡ e = sym whole ∙ ap (λ (n : ℕ). n * e) one ∙ one-mul e in
    subst (λ (n : ℕ). d ∣ n) same (g.1.2 d (subst (λ (n : ℕ). d ∣ n) (sym eq) (dvd-mul_left d b)) (dvd-mul_right d e))
