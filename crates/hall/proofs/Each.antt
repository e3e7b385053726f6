-- What the calls of a closure at all numbers below one tell together. Assumes nothing.
use Rattle.std.proofs.Common.{map, Ok, Err, Vec, vec_items, IfOk, ◌≡◌, ℕ, ◌+◌, ◌<◌, ◌≤◌, ◌-◌, ◌<◌, Bool, true, false, List, [], length, get_or, ◌∷◌, IsErr, IsErrAnd, Continue, Break, Some, None, Option, Result, MatchOption, sym, refl, ap, ◌∙◌, subst, arith}
use denote.Param.Members.{Mut, Called}
use Rattle.std.proofs.iter.Yields.{nat_range_steps}
use Rattle.std.specs.declared.ops.Range.{Range}
use Rattle.std.specs.Iterator.{Yields, TryForEachTurn, TryCallsOnEach, ChecksAll, FoldsItems, CallableAtEachTurn}
use Rattle.std.proofs.lemmas.Iterator.{IsCollectResult, YieldsList, YieldsList-from_range, cases_from_all, items_from_drains}
use Rattle.std.proofs.lemmas.List.FromFn.{length-range_with_len, get_or-range_with_len}
use Rattle.std.specs.Bool.{MatchBool}
use Rattle.std.specs.List.{FoldsTo, range_with_len, AllWithin, HoldsAt}
use Rattle.std.specs.Result.{result_from_control_flow}
use Rattle.hall.specs.declared.refusals.Refusal.{Refusal}
use Rattle.hall.specs.Format.{first_below, all_below}
use Rattle.hall.specs.Outlines.{Tells}
use Rattle.hall.proofs.Faults.{below_none, none_below, below_step, found, exits, all_from, not_all}

abbrev Answer : Type 0
Answer = Result (Unit {0}) Refusal

module _ {F : Type 0} (g : Mut F (ℕ × Unit {0}) Answer) (f : F) (fault : ℕ → Option Refusal)
    (tells : (k : ℕ) (v : Answer) (q : F) → Called g f (k, tt) v q → (q ≡ f) × Tells v (fault k)) where
  walk : (xs : List ℕ) (s t : Range ℕ) (p q : F) → Yields nat_range_steps s xs t → FoldsTo (TryForEachTurn g (λ v c. v ≡ result_from_control_flow c)) p xs q
      → p ≡ f → first_below s.start fault ≡ None → (q ≡ f) × (t.end ≡ s.end) × (first_below t.start fault ≡ None)
  walk [] s t p q y c e h = (sym c ∙ e, sym (ap (λ k. k.end) y), subst (λ k. first_below k.start fault ≡ None) y h)
  walk (x ∷ xs) s t p q y c e h =
      let a = tells x c.1.0 c.0 (subst (λ k. Called g k (x, tt) c.1.0 c.0) e c.1.1) in
      let b : fault x ≡ None = subst (λ w. Tells w (fault x)) c.1.2 a.1 in
      let n : first_below y.0.start fault ≡ None = rw y.1.1.2 (below_step s.start fault h (ap fault (sym y.1.1.1) ∙ b)) in
      let w = walk xs y.0 t c.0 q y.2 c.2 a.0 n in
      (w.0, w.1 ∙ y.1.0, w.2)

  pub first_of_each : (s u : Range ℕ) (r : Answer) → s.start ≡ 0
      → TryCallsOnEach nat_range_steps g (λ v c. v ≡ result_from_control_flow c) (λ e r. IsErr r × IsErrAnd r (λ y. y ≡ e.0)) s f r u → Tells r (first_below s.end fault)
  first_of_each s u r zero d =
      by d.1 d.3.2 d.5
    where
      w : (d.2 ≡ f) × (d.3.0.end ≡ s.end) × (first_below d.3.0.start fault ≡ None)
      w = walk d.0 s d.3.0 f d.2 d.3.1 d.4 refl (ap (λ k. first_below k fault) zero)

      by : (o : Option ℕ) → nat_range_steps d.3.0 o u
          → MatchOption o (r ≡ result_from_control_flow (Continue tt))
          (λ x. (v : Answer) × (h : F) × (e : _) × Called g d.2 (x, tt) v h × (v ≡ result_from_control_flow (Break e)) × (IsErr r × IsErrAnd r (λ y. y ≡ e.0)))
          → Tells r (first_below s.end fault)
      by None y m = rw m (none_below s.end fault (λ k l. below_none d.3.0.start fault w.2 k (omega (arith, y.1.0, w.1))))
      by (Some x) y m =
          let a = tells x m.0 m.1 (subst (λ k. Called g k (x, tt) m.0 m.1) w.0 m.3) in
          let b : fault x ≡ Some m.2.0 = subst (λ v. Tells v (fault x)) m.4 a.1 in
          exits r m.2.0 (first_below s.end fault) m.5.1
          (found s.end d.3.0.start fault m.2.0 (omega (arith, y.1.0, w.1)) w.2 (ap fault (sym y.1.1) ∙ b))

module _ {F : Type 0} (g : Mut F (ℕ × Unit {0}) Bool) (f : F) (t : ℕ → Bool) (agrees : (k : ℕ) (b : Bool) (q : F) → Called g f (k, tt) b q → (q ≡ f) × (b ≡ t k)) where
  pub all_of_each : (s u : Range ℕ) (r : Bool) → s.start ≡ 0 → ChecksAll nat_range_steps g s f r u → r ≡ all_below s.end t
  all_of_each s u r zero d =
      by r (cases_from_all u f r (λ k. t k ≡ true) (λ k. t k ≡ false) d (YieldsList-from_range s.start s.end _ refl refl)
      (λ k q h. let a = agrees k true q h in (a.0, sym a.1)) (λ k q h. sym (agrees k false q h).1))
    where
      all : List ℕ
      all = range_with_len s.start (s.end - s.start)

      long : length all ≡ s.end
      long = omega (arith, length-range_with_len s.start (s.end - s.start))

      item : (k : ℕ) → k < s.end → get_or all k 0 ≡ k
      item k h = omega (arith, get_or-range_with_len s.start (s.end - s.start) k 0 (omega arith))

      by : (b : Bool) → MatchBool b (AllWithin (λ k. t k ≡ true) all 0 (length all)) ((k : ℕ) × (k < length all) × HoldsAt (λ j. t j ≡ false) all k) → b ≡ all_below s.end t
      by true h = sym (all_from s.end t (λ k l. subst (λ j. t j ≡ true) (item k l) (h k 0 (omega arith) (omega (arith, long)))))
      by false h = let l : h.0 < s.end = omega (arith, h.1, long) in sym (not_all s.end h.0 t l (subst (λ j. t j ≡ false) (item h.0 l) (h.2 0)))

-- what holds before the first of the numbers below one, and after each call of a closure that is handed on what the last one gave
module _ {F B : Type 0} (g : Mut F (B × (ℕ × Unit {0})) B) (f : F) (J : ℕ → B → Type 0)
    (step : (k : ℕ) (a b : B) (q : F) → J k a → Called g f (a, (k, tt)) b q → (q ≡ f) × J (k + 1) b) where
  handed : (xs : List ℕ) (s t : Range ℕ) (p q : F × B) → Yields nat_range_steps s xs t → FoldsTo (λ p x q. Called g p.0 (p.1, (x, tt)) q.1 q.0) p xs q → p.0 ≡ f → J s.start p.1
      → (q.0 ≡ f) × J t.start q.1 × (t.end ≡ s.end) × (s.start ≤ s.end → t.start ≤ s.end)
  handed [] s t p q y c e h =
      (sym (ap (λ k. k.0) c) ∙ e, subst (λ (w : Range ℕ × (F × B)). J w.0.start w.1.1) (λ i. (y i, c i)) h, sym (ap (λ k. k.end) y), λ l. omega (arith, ap (λ (k : Range ℕ). k.start) y))
  handed (x ∷ xs) s t p q y c e h =
      let a = step x p.1 c.0.1 c.0.0 (rw y.1.1.1 h) (subst (λ k. Called g k (p.1, (x, tt)) c.0.1 c.0.0) e c.1) in
      let n : y.0.start ≡ x + 1 = y.1.1.2 ∙ ap (λ (k : ℕ). k + 1) (sym y.1.1.1) in
      let w = handed xs y.0 t c.0 q y.2 c.2 a.0 (rw n a.1) in
      (w.0, w.1, w.2 ∙ y.1.0, λ l. let m : y.0.start ≤ y.0.end = omega (arith, y.1.0, y.1.1.0, y.1.1.2) in omega (arith, w.3 m, y.1.0))

  pub handed_at_each : (s : Range ℕ) (a : B) → J s.start a → (Q : F → B → ℕ → Type 0) → ((k : ℕ) (b : B) → k < s.end → J k b → Q f b k)
      → CallableAtEachTurn {P = F × B} nat_range_steps (λ p x q. Called g p.0 (p.1, (x, tt)) q.1 q.0) (λ p x. Q p.0 p.1 x) s (f, a)
  handed_at_each s a h Q may =
      record {
        at = λ xs t q x u y c e.
            let w = handed xs s t (f, a) q y c refl h in
            rw (w.0) (may x q.1 (omega (arith, w.2, e.1.0, e.1.1)) (rw e.1.1 w.1));
      }

  pub handed_over : (s : Range ℕ) (a r : B) → s.start ≤ s.end → J s.start a → FoldsItems nat_range_steps g s f a r → J s.end r
  handed_over s a r l h d =
      let w = handed d.0 s d.2.1.0 (f, a) (d.1, r) d.2.1.1 d.3 refl h in
      let e : d.2.1.0.start ≡ s.end = omega (arith, w.2, w.3 l, d.2.1.2.0, d.2.1.2.1) in
      subst (λ k. J k r) e w.1

-- what a chain that ends in `collect` puts into a `Vec`, as v sees it
module _ {S A B Z E : Type 0} {steps : S → Option A → S → Type 0} {s : S} {v : A → B} {all : List B} where
  pub collected : (r : Result (Vec A Z) E) → IsCollectResult steps s r → YieldsList steps v s all → IfOk r (λ w. map v (vec_items w) ≡ all)
  collected (Ok w) d e = ap (map v) d.2.0 ∙ items_from_drains d.0 d.1 e
  collected (Err x) d e = tt
