-- The fraction of the definitions is in lowest terms, and no other one is. Assumes nothing.
use Rattle.std.proofs.Common.{◌≡◌, ℕ, zero, suc, ◌*◌, ◌/◌, ◌%◌, ◌<◌, ◌≤◌, true, ◌&&◌, eqb, [], ◌∷◌, ℤ, pos, negsuc, ◌*ℤ◌, neg_ℤ, nat_abs, sym, refl, ap, ◌∙◌, subst, inl, inr, mul-le-mul_right, div-le_self, div-one, arith, w64, SFits, to_z, of_z}
use Prim.Native.Nat.{◌∣◌}
use native.Mathlib.Nat.{dvd-mul_left, dvd_antisymm, mod-eq-zero_of_dvd, dvd_of_mod-eq-zero, le_of_dvd, pos_of_dvd_of_pos, mul-div_cancel', div-mul_cancel, mul-dvd-mul_right}
use lib.Signed.{quot_z, mag}
use mir.Syntax.{w128}
use Rattle.std.proofs.lemmas.Int.{to_z-of_z}
use Rattle.std.proofs.lemmas.Bool.{cases_order, cond_both, cond-true, eq-eqb, eqb-true, and_from, and_parts}
use Rattle.algebra.proofs.Ring.{negℤ-*ℤ, *ℤ-assoc}
use Rattle.algebra.proofs.Polynomial.{by_ring, forms}
use Rattle.algebra.proofs.Order.{untimes-≡, pos>0}
use Rattle.std.specs.Int.{IsGcd}
use Rattle.text.specs.Lowest.{Lowest, Reduced, common, shared, top, bottom}
use Rattle.text.proofs.Euclid.{greatest, divides_other}

-- the search from k down finds the greatest common divisor
pub common_is : (k a b g : ℕ) → 0 < g → g ≤ k → IsGcd a b g → common k a b ≡ g
unfolding common
common_is zero a b g some h e = omega arith
common_is (suc k) a b g some h e =
    let both : (n : ℕ) → suc k ∣ n → eqb (n % suc k) 0 ≡ true = λ n d. eq-eqb (n % suc k) 0 (mod-eq-zero_of_dvd (suc k) d) in
    let divides : (n : ℕ) → eqb (n % suc k) 0 ≡ true → suc k ∣ n = λ n t. dvd_of_mod-eq-zero (suc k) (eqb-true (n % suc k) 0 t) in
    elim (cases_order g (suc k)) [
      | inl s ↦
          let at : IsGcd a b (suc k) = subst (IsGcd a b) s e in
          cond-true _ _ _ (and_from _ _ (both a at.0) (both b at.1)) ∙ sym s
      | inr (inl l) ↦
          cond_both (eqb (a % suc k) 0 && eqb (b % suc k) 0) (suc k) (common k a b) (λ r. r ≡ g)
          (λ t. let p = and_parts (eqb (a % suc k) 0) (eqb (b % suc k) 0) t in
          let m : suc k ≤ g = le_of_dvd some (e.2 (suc k) (divides a p.0) (divides b p.1)) in
          omega arith)
          (λ f. common_is k a b g some (omega arith) e)
      | inr (inr l) ↦ omega arith
    ]

nat_abs_neg : (n : ℕ) → nat_abs (neg_ℤ (pos n)) ≡ n
nat_abs_neg zero = refl
nat_abs_neg (suc n) = refl

nat_abs_quot : (x : ℤ) (g : ℕ) → nat_abs (quot_z x (pos g)) ≡ nat_abs x / g
nat_abs_quot (pos n) g = refl
nat_abs_quot (negsuc n) g = nat_abs_neg (suc n / g)

nat_abs_times : (x : ℤ) (k : ℕ) → nat_abs (x *ℤ pos k) ≡ nat_abs x * k
nat_abs_times (pos n) k = refl
nat_abs_times (negsuc n) k = nat_abs_neg (suc n * k)

quot_times : (x : ℤ) (g : ℕ) → g ∣ nat_abs x → quot_z x (pos g) *ℤ pos g ≡ x
quot_times (pos n) g h = ap pos (div-mul_cancel g h)
quot_times (negsuc n) g h = negℤ-*ℤ (pos (suc n / g)) (pos g) ∙ ap (λ (k : ℕ). neg_ℤ (pos k)) (div-mul_cancel g h)

-- over the greatest common divisor the terms are the lowest
pub lowest_over : (x : ℤ) (w g : ℕ) → 0 < w → IsGcd (nat_abs x) w g → Lowest x w (quot_z x (pos g)) (w / g)
lowest_over x w g some e =
    let part : w / g * g ≡ w = div-mul_cancel g e.1 in
    let z : 0 < g = pos_of_dvd_of_pos e.1 some in
    record {
      above = pos_of_dvd_of_pos (subst (λ (n : ℕ). w / g ∣ n) (mul-div_cancel' g e.1) (dvd-mul_left (w / g) g)) some;
      same = ap (λ (z : ℤ). z *ℤ pos (w / g)) (sym (quot_times x g e.0)) ∙ *ℤ-assoc (quot_z x (pos g)) (pos g) (pos (w / g)) ∙ ap (λ (k : ℕ). quot_z x (pos g) *ℤ pos k) (mul-div_cancel' g e.1);
      least = λ k two p q.
          let l : k * g ∣ nat_abs x = subst (λ (n : ℕ). k * g ∣ n) (div-mul_cancel g e.0) (mul-dvd-mul_right k (subst (λ (n : ℕ). k ∣ n) (nat_abs_quot x g) p) g) in
          let r : k * g ∣ w = subst (λ (n : ℕ). k * g ∣ n) part (mul-dvd-mul_right k q g) in
          let m : k * g ≤ g = le_of_dvd z (e.2 (k * g) l r) in
          let t : 2 * g ≤ k * g = mul-le-mul_right g two in
          omega arith;
    }

-- that divisor is the one of the definitions
pub shared_is : (x : ℤ) (w g : ℕ) → 0 < w → IsGcd (nat_abs x) w g → shared x w ≡ g
shared_is x w g some e = common_is w (nat_abs x) w g (pos_of_dvd_of_pos e.1 some) (le_of_dvd some e.1) e

pub lowest_terms : (x : ℤ) (w : ℕ) → 0 < w → Lowest x w (top x w) (bottom x w)
unfolding top bottom
lowest_terms x w some =
    let g = greatest (nat_abs x) w in
    let at = shared_is x w g.0 some g.1 in
    lowest_over x w (shared x w) some (subst (IsGcd (nat_abs x) w) (sym at) g.1)

last_two : (a b c : ℤ) → (a *ℤ b) *ℤ c ≡ (a *ℤ c) *ℤ b
last_two a b c = by_ring (a ∷ b ∷ c ∷ []) (search forms depth 60 fits 99999) refl

-- two fractions in lowest terms for the same number are one
pub lowest_alone : (x : ℤ) (w : ℕ) (n : ℤ) (d : ℕ) (m : ℤ) (e : ℕ) → 0 < w → Lowest x w n d → Lowest x w m e → (n ≡ m) × (d ≡ e)
lowest_alone x w n d m e some p q =
    let cross : n *ℤ pos e ≡ m *ℤ pos d =
    untimes-≡ (n *ℤ pos e) (m *ℤ pos d) (pos w) (pos>0 w some)
    (last_two n (pos e) (pos w) ∙ ap (λ (z : ℤ). z *ℤ pos e) (sym p.same) ∙ last_two x (pos d) (pos e) ∙ ap (λ (z : ℤ). z *ℤ pos d) q.same ∙ last_two m (pos w) (pos d))
    in
    let sizes : nat_abs n * e ≡ nat_abs m * d = sym (nat_abs_times n e) ∙ ap nat_abs cross ∙ nat_abs_times m d in
    let even : d ≡ e = dvd_antisymm (divides_other (nat_abs n) (nat_abs m) d e p.above q.above p.least sizes) (divides_other (nat_abs m) (nat_abs n) e d q.above p.above q.least (sym sizes)) in
    (untimes-≡ n m (pos e) (pos>0 e q.above) (cross ∙ ap (λ (k : ℕ). m *ℤ pos k) even), even)

-- over 0 nothing is divided
pub top_zero : (x : ℤ) (w : ℕ) → w ≡ 0 → top x w ≡ x
unfolding top common
top_zero (pos n) w e = rw e (ap pos (div-one n))
top_zero (negsuc n) w e = rw e (ap (λ (k : ℕ). neg_ℤ (pos k)) (div-one (suc n)))

pub bottom_zero : (x : ℤ) (w : ℕ) → w ≡ 0 → bottom x w ≡ 0
unfolding bottom common
bottom_zero x w e = rw e

pub reduced : (x : ℤ) (w : ℕ) (n : ℤ) (d : ℕ) → n ≡ top x w → d ≡ bottom x w → Reduced x w n d
reduced x w n d p q =
    let here : 0 < w → Lowest x w n d = λ some. rw (p, q) (lowest_terms x w some) in
    record { numerator = p; denominator = q; lowest = here; alone = λ m e some l. lowest_alone x w m e n d some l (here some); over_zero = λ z. (p ∙ top_zero x w z, q ∙ bottom_zero x w z) }

-- ---- the code's division

mag_neg : (r a : ℕ) → r ≤ suc a → mag (neg_ℤ (pos r)) ≤ a
mag_neg zero a h = omega arith
mag_neg (suc r) a h = omega arith

mag_quot : (x : ℤ) (g : ℕ) → mag (quot_z x (pos g)) ≤ mag x
mag_quot (pos n) g = div-le_self n g
mag_quot (negsuc n) g = mag_neg (suc n / g) n (div-le_self (suc n) g)

-- a quotient fits where the dividend does, and where that fits in 64 bits, in 128 too
quot_fits : (x : ℤ) (g : ℕ) → SFits w64 x → SFits w64 (quot_z x (pos g)) × SFits w128 (quot_z x (pos g))
quot_fits x g f =
    let l = mag_quot x g in
    (record { sfits = omega arith }, record { sfits = omega arith })

-- the operands of a division in 128 bits, from numbers that fit there
pub operands : (x a b : ℤ) (g : ℕ) → SFits w64 x → SFits w128 a → SFits w128 b → a ≡ to_z w64 (of_z w64 x) → b ≡ pos g → quot_z (to_z w128 (of_z w128 a)) (to_z w128 (of_z w128 b)) ≡ quot_z x (pos g)
operands x a b g fx fa fb ea eb = cc (to_z-of_z w64 x fx, to_z-of_z w128 a fa, to_z-of_z w128 b fb)

pub quot_wide : (x : ℤ) (g : ℕ) → SFits w64 x → SFits w128 (quot_z x (pos g))
quot_wide x g f = (quot_fits x g f).1

pub quot_cast : (x q : ℤ) (g : ℕ) → SFits w64 x → q ≡ quot_z x (pos g) → to_z w64 (of_z w64 (to_z w128 (of_z w128 q))) ≡ quot_z x (pos g)
quot_cast x q g f e =
    let h = quot_fits x g f in
    cc (e, to_z-of_z w128 (quot_z x (pos g)) h.1, to_z-of_z w64 (quot_z x (pos g)) h.0)
