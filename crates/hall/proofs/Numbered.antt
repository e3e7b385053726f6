-- A map whose keys are below a number takes that number at its end. Assumes nothing.
use Rattle.std.proofs.Common.{◌≡◌, ℕ, suc, ◌<◌, List, [], ◌∷◌, ◌++◌, Greater, Result, Ok, Err, is_err, false, sym, refl, ap, ◌∙◌, arith}
use Rattle.std.specs.BTreeMap.{insert_entry}
use Rattle.std.specs.Cmp.{nat_cmp_is}
use Rattle.std.specs.List.{All}
use Rattle.std.specs.Map.{keys_of, values_of}
use Rattle.std.specs.Result.{OnOk}
use Rattle.std.specs.Ordering.{match_ordering, nat_cmp}
use Rattle.std.proofs.lemmas.Bool.{true≢false}
use Rattle.std.proofs.lemmas.List.{map-append}

-- each key is below the number
abbrev pub Below : {X : Type 0} → ℕ → List (ℕ × X) → Type 0
Below k es = All (λ q. q < k) (keys_of es)

abbrev head_of : {X : Type 0} {k : ℕ} (e : ℕ × X) (es : List (ℕ × X)) → Below k (e ∷ es) → e.0 < k
head_of e es b = b 0 0 (omega arith)

abbrev tail_of : {X : Type 0} {k : ℕ} (e : ℕ × X) (es : List (ℕ × X)) → Below k (e ∷ es) → Below k es
tail_of e es b i d h = b (suc i) d (omega arith)

pub appended : {X : Type 0} (es : List (ℕ × X)) (k : ℕ) (v : X) → Below k es → insert_entry nat_cmp es k v ≡ es ++ (k, v) ∷ []
appended [] k v b = refl
appended (e ∷ es) k v b =
    ap (λ o. match_ordering o ((k, v) ∷ e ∷ es) ((e.0, v) ∷ es) (e ∷ insert_entry nat_cmp es k v)) (sym (nat_cmp_is k e.0 Greater (head_of e es b)))
    ∙ ap (λ xs. e ∷ xs) (appended es k v (tail_of e es b))

pub values_appended : {X : Type 0} (es : List (ℕ × X)) (k : ℕ) (v : X) → Below k es → values_of (insert_entry nat_cmp es k v) ≡ values_of es ++ v ∷ []
values_appended es k v b = ap values_of (appended es k v b) ∙ map-append (λ e. e.1) es ((k, v) ∷ [])

-- what holds of a result that is no refusal
pub on_ok : {X Y : Type 0} {P : Type 0} (r : Result X Y) → OnOk r P → is_err r ≡ false → P
on_ok (Ok x) h e = h
on_ok (Err y) h e = absurd (true≢false e)
