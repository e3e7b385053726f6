-- What `any` answers where each call decides a fact of its item, what `position` answers over any chain, and what holds of images. Assumes nothing.
use Rattle.std.proofs.Common.{◌≡◌, ℕ, zero, suc, ◌+◌, ◌<◌, ◌≤◌, Bool, true, false, List, [], ◌∷◌, Decides, Option, None, Some, map, length, get_or, refl, sym, subst, arith}
use Rattle.std.specs.Bool.{MatchBool}
use Rattle.std.specs.Fn.{Called}
use Rattle.std.specs.Iterator.{YieldsThen}
use Rattle.std.specs.Iterator.Runs.{Run, CallKeepsClosure, AllItemsGive, IsFirstToGive}
use Rattle.std.specs.List.{FoldsTo, Any, AllWithin, HoldsAt}
use Rattle.std.specs.Option.{MatchOption, IfSome, IsSomeAnd, option_map}
use Rattle.std.proofs.lemmas.Bool.{false≢true}
use Rattle.std.proofs.lemmas.Bool.Decides.{not_from_Decides}
use Rattle.std.proofs.lemmas.Iterator.{YieldsList, cases_from_any}
use Rattle.std.proofs.lemmas.Option.{none-some, same_Some}
use denote.Param.Members.{Mut}
use denote.Ref.{Bor}

any_at : {B : Type 0} (P : B → Type 0) (xs : List B) (k : ℕ) → k < length xs → HoldsAt P xs k → Any P xs
any_at P [] k l h = absurd (omega arith)
any_at P (x ∷ xs) zero l h = (0, x, l, refl, h x)
any_at P (x ∷ xs) (suc k) l h = let a = any_at P xs k (omega arith) h in (suc a.0, a.1, omega (arith, a.2), a.3, a.4)

decided : {B : Type 0} (P : B → Type 0) (xs : List B) (r : Bool) → MatchBool r ((k : ℕ) × (k < length xs) × HoldsAt P xs k) (AllWithin (λ x. P x → ⊥) xs 0 (length xs)) → Decides r (Any P xs)
decided P xs true h = (λ e. any_at P xs h.0 h.1 h.2, λ a. refl)
decided P xs false h = (λ e. absurd (false≢true e), λ a. absurd (h a.0 a.1 (omega arith) a.2 (subst P (sym a.3) a.4)))

module _ {S A B F : Type 0} {steps : S → Option A → S → Type 0} {v : A → B} {g : Mut F (A × Unit {0}) Bool} {s : S} {all : List B} (P : B → Type 0) (u : S) (f : F) where
  pub any_decides : (r : Bool)
      → (xs : List A) × (o : Option A) × (j : F) × YieldsThen steps s xs o u × FoldsTo (λ p x q. Called g p (x, tt) false q) f xs j × MatchOption o (r ≡ false) (λ x. (r ≡ true) × ((h : F) × Called g j (x, tt) true h))
      → YieldsList steps v s all
      → ((x : A) (b : Bool) (q : F) → Called g f (x, tt) b q → (q ≡ f) × Decides b (P (v x))) → Decides r (Any P all)
  any_decides r ran road says =
      decided P all r (cases_from_any u f r P (λ x. P x → ⊥) ran road
      (λ x q k. (says x true q k).1.0 refl) (λ x q k. let d = says x false q k in (d.0, not_from_Decides false d.1 refl)))

-- what holds of the value behind an item
behind : {X : Type 0} (P : X → Type 0) (Q : Bor X → Type 0) → ((x : Bor X) → Q x → P x.now) → (o : Option (Bor X)) (x : X) → option_map (λ y. y.now) o ≡ Some x → IfSome o Q → P x
behind P Q m None x e h = absurd (none-some x e)
behind P Q m (Some y) x e h = subst P (same_Some y.now x e) (m y h)

some : {X : Type 0} (Q : X → Type 0) (o : Option X) → IsSomeAnd o Q → IfSome o Q
some Q None h = absurd h
some Q (Some x) h = h

-- `position` over any chain whose run u gave the elements of xs: what it answered, and o, which is the same, is the place of the first element at which the closure answers true
module _ {S F X : Type 0} {steps : S → Option (Bor X) → S → Type 0} {g : Mut F (Bor X × Unit {0}) Bool} {f : F} (xs : List X) (Yes No : X → Type 0) (u : Run steps)
    (fits : u.len ≤ length xs) (all : u.whole ≡ true → u.len ≡ length xs) (are : (k : ℕ) (d : X) → k < u.len → option_map (λ y. y.now) (u.at k) ≡ Some (get_or xs k d))
    (kept : CallKeepsClosure g f) (yes : (x : Bor X) → Called g f (x, tt) true f → Yes x.now) (no : (x : Bor X) → Called g f (x, tt) false f → No x.now) where
  said_no : (k : ℕ) (d : X) → k < u.len → IfSome (u.at k) (λ x. Called g f (x, tt) false f) → No (get_or xs k d)
  said_no k d l h = behind No (λ x. Called g f (x, tt) false f) no (u.at k) _ (are k d l) h

  first : (r : Option ℕ) → MatchOption r ((u.whole ≡ true) × AllItemsGive u g f false) (λ i. (u.len ≡ i + 1) × IsFirstToGive u g f true false i)
      → MatchOption r (AllWithin No xs 0 (length xs)) (λ i. (i < length xs) × HoldsAt Yes xs i × AllWithin No xs 0 i)
  first None h = λ k d a b. said_no k d (omega (arith, all h.0)) (h.1 kept k)
  first (Some i) h =
      let l = h.0 in
      let at = h.1 kept in (
        omega (arith, l, fits),
        (λ d. behind Yes (λ x. Called g f (x, tt) true f) yes (u.at i) _ (are i d (omega (arith, l))) (some _ (u.at i) at.0)),
        λ k d a b. said_no k d (omega (arith, l)) (some _ (u.at k) (at.1 k b)),
      )

  pub first_from_run : (r o : Option ℕ) → MatchOption r ((u.whole ≡ true) × AllItemsGive u g f false) (λ i. (u.len ≡ i + 1) × IsFirstToGive u g f true false i) → r ≡ o
      → MatchOption o (AllWithin No xs 0 (length xs)) (λ i. (i < length xs) × HoldsAt Yes xs i × AllWithin No xs 0 i)
  first_from_run r o h e = rw e at (first r h)

-- what holds of an element's image holds of the image's element
pub at_map : {X Y : Type 0} (f : X → Y) (P : Y → Type 0) (d : Y) (xs : List X) (k : ℕ) → k < length xs → HoldsAt (λ x. P (f x)) xs k → P (get_or (map f xs) k d)
at_map f P d [] k l h = absurd (omega arith)
at_map f P d (x ∷ xs) zero l h = h x
at_map f P d (x ∷ xs) (suc k) l h = at_map f P d xs k (omega arith) h
