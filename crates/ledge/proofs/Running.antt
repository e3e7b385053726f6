-- Runs of spots that lie in no shadow. Assumes nothing.
use Rattle.std.proofs.Common.{◌≡◌, ℕ, ◌*◌, ◌<◌, ◌⊎◌, List, length, get_or, Some, None, Option, Bool, true, false, Decides, sym, refl, ap, ◌∙◌, subst, [], ◌∷◌, ◌++◌, zero, suc, inl, inr, ⊎_elim, mul-zero, arith}
use denote.Param.Members.{Mut, Called}
use Rattle.std.specs.Iterator.{Drains}
use Rattle.std.specs.List.{filter_map, cons_option, Contains, AllWithin, HoldsAt, FoldsTo}
use Rattle.std.proofs.lemmas.Fn.{fold_over}
use Rattle.std.proofs.lemmas.Iterator.{YieldsList}
use Rattle.std.specs.Bool.{MatchBool}
use Rattle.std.proofs.lemmas.List.Elements.{Contains-append_left, Contains-append_right, Contains-push, Contains-push_cases}
use Rattle.std.proofs.lemmas.Bool.{both_ways, cases_lt}
use Rattle.ledge.specs.declared.spots.Spot.{Spot}
use Rattle.ledge.specs.declared.shadows.Shadow.{Shadow}
use Rattle.ledge.specs.Shadows.{Before, NotAfter, After, Until, Dark}
use Rattle.ledge.specs.Runs.{Shaded, Lit, Begins, Sooner, Stop}
use Rattle.ledge.proofs.Spotting.{before_then, then_before, not_after_then}

-- a spot in the shadow with number j
pub shaded_here : (ss : List (Option Shadow)) (j : ℕ) (x : Shadow) (t u : ℕ) → get_or ss j None ≡ Some x → Dark x t u → Shaded (get_or ss j None) t u
shaded_here ss j x t u e d = subst (λ (o : Option Shadow). Shaded o t u) (sym e) d

pub shaded_if : (o : Option Shadow) (t u : ℕ) → (o ≡ None → ⊥) → ((y : Shadow) → o ≡ Some y → Dark y t u) → Shaded o t u
shaded_if None t u n d = n refl
shaded_if (Some y) t u n d = d y refl

pub unshaded : (o : Option Shadow) (t u : ℕ) → ((y : Shadow) → o ≡ Some y → Dark y t u → ⊥) → Shaded o t u → ⊥
unshaded None t u n d = d
unshaded (Some y) t u n d = n y refl d

-- ---- whether a spot is in none of the shadows, from a search over them
pub lit_from : (r : Bool) (ss : List (Option Shadow)) (t u : ℕ) →
    MatchBool r (AllWithin (λ o. Shaded o t u → ⊥) ss 0 (length ss)) ((k : ℕ) × (k < length ss) × HoldsAt (λ o. Shaded o t u) ss k) → Decides r (Lit ss t u)
unfolding Lit
lit_from true ss t u h = (λ _ j l. h j None (omega arith) l, λ _. refl)
lit_from false ss t u (k, l, h) = (λ e. absurd (both_ways false refl e), λ f. absurd (f k l (h None)))

-- ---- the spots where shadows begin
abbrev pub start : Option Shadow → Option Spot
start None = None
start (Some x) = x.from

pub start_is : (o : Option Shadow) (r : Option Spot) → (o ≡ None → r ≡ None) → ((y : Shadow) → o ≡ Some y → r ≡ y.from) → r ≡ start o
start_is None r n d = n refl
start_is (Some y) r n d = d y refl

abbrev pub starts : List (Option Shadow) → List Spot
starts ss = filter_map start ss

one_more : (o : Option Spot) (xs : List Spot) (b : Spot) → Contains xs b → Contains (cons_option o xs) b
one_more None xs b h = h
one_more (Some x) xs b h = Contains-append_right (x ∷ []) xs b h

started : (ss : List (Option Shadow)) (j : ℕ) (b : Spot) → j < length ss → start (get_or ss j None) ≡ Some b → Contains (starts ss) b
started [] j b l e = absurd (omega arith)
started (o ∷ ss) zero b l e = rw e (0, omega arith, refl)
started (o ∷ ss) (suc j) b l e = one_more (start o) (starts ss) b (started ss j b (omega arith) e)

begins_later : (o : Option Shadow) (ss : List (Option Shadow)) (b : Spot) → Begins ss b → Begins (o ∷ ss) b
begins_later o ss b h = record { j = suc h.j; within = omega (arith, h.within); shadow = h.shadow; is = h.is; here = h.here }

begins_here : (y : Shadow) (ss : List (Option Shadow)) (b : Spot) (o : Option Spot) → y.from ≡ o → (Contains (starts ss) b → Begins ss b) → Contains (cons_option o (starts ss)) b → Begins (Some y ∷ ss) b
begins_here y ss b None e more h = begins_later (Some y) ss b (more h)
begins_here y ss b (Some x) e more (zero, l, i) = record { j = 0; within = omega arith; shadow = y; is = refl; here = e ∙ ap Some i }
begins_here y ss b (Some x) e more (suc k, l, i) = begins_later (Some y) ss b (more (k, omega arith, i))

begins_at : (ss : List (Option Shadow)) (b : Spot) → Contains (starts ss) b → Begins ss b
begins_at [] b h = absurd (omega (arith, h.1))
begins_at (None ∷ ss) b h = begins_later None ss b (begins_at ss b h)
begins_at (Some y ∷ ss) b h = begins_here y ss b y.from refl (begins_at ss b) h

-- ---- the stop, as far as the first starts tell it
module _ (s : Spot) where
  pub record Sofar (bs : List Spot) (r : Spot) : Type 0 where
    pub onward : NotAfter s.t s.u r.t r.u
    pub end : (r.u ≡ 0) ⊎ Contains bs r
    pub first : (b : Spot) → Contains bs b → NotAfter s.t s.u b.t b.u → NotAfter r.t r.u b.t b.u

  pub sofar_none : (r : Spot) → r.u ≡ 0 → Sofar [] r
  sofar_none r e =
      let z : s.t * r.u ≡ 0 = ap (λ (n : ℕ). s.t * n) e ∙ mul-zero s.t in
      record { onward = omega arith; end = inl e; first = λ b h n. absurd (omega (arith, h.1)) }

  module _ (bs : List Spot) (r x : Spot) (sofar : Sofar bs r) where
    sofar_passed : (NotAfter s.t s.u x.t x.u → NotAfter r.t r.u x.t x.u) → Sofar (bs ++ x ∷ []) r
    sofar_passed p =
        record {
          onward = sofar.onward;
          end = ⊎_elim (λ e. inl e) (λ h. inr (Contains-append_left bs (x ∷ []) r h)) sofar.end;
          first = λ b h n. ⊎_elim (λ k. sofar.first b k n) (λ e. rw (← e) (p (rw e n))) (Contains-push_cases bs x b h);
        }

    sofar_stopped : NotAfter s.t s.u x.t x.u → Before x.t x.u r.t r.u → Sofar (bs ++ x ∷ []) x
    sofar_stopped p q =
        record {
          onward = p;
          end = inr (Contains-push bs x);
          first = λ b h n.
              ⊎_elim
              (λ k. not_after_then x.t x.u r.t r.u b.t b.u r.some (omega arith) (sofar.first b k n))
              (λ e. rw (← e) (omega arith))
              (Contains-push_cases bs x b h);
        }

    pub sofar_step : (b : Spot) → Sooner s r x b → Sofar (bs ++ x ∷ []) b
    sofar_step b h = ⊎_elim (λ k. rw k.0 (sofar_stopped k.1 k.2)) (λ k. rw k.0 (sofar_passed k.1)) h

  pub stop_from : (ss : List (Option Shadow)) (r : Spot) → Sofar (starts ss) r → Stop ss s r
  stop_from ss r h =
      record {
        onward = h.onward;
        end = ⊎_elim (λ e. inl e) (λ c. inr (begins_at ss r c)) h.end;
        first = λ b k n. h.first b (started ss k.j b k.within (ap start k.is ∙ k.here)) n;
      }

  -- the same of a fold over the starts
  pub stop_by_fold : {S F : Type 0} {steps : S → Option Spot → S → Type 0} {it : S} {g : Mut F (Spot × (Spot × Unit {0})) Spot} {f : F} {a r : Spot} (ss : List (Option Shadow)) →
      ((xs : List Spot) × (f' : F) × Drains steps it xs × FoldsTo {P = F × Spot} (λ p x q. Called g p.0 (p.1, (x, tt)) q.1 q.0) (f, a) xs (f', r)) →
      YieldsList steps (λ y. y) it (starts ss) → a.u ≡ 0 → ((b x c : Spot) (f' : F) → Called g f (b, (x, tt)) c f' → Sooner s b x c × (f' ≡ f)) → Stop ss s r
  stop_by_fold {steps = steps} {it = it} {g = g} {f = f} {a = a} {r = r} ss ran road e gives =
      stop_from ss r
      (fold_over steps (λ y. y) g Sofar f (λ ys b x c f' h k. let m = gives b x c f' k in (sofar_step ys b x h c m.0, m.1)) it (starts ss) a r road.runs (sofar_none a e) ran)

-- ---- from a lit spot up to its stop no spot is in a shadow
module _ (ss : List (Option Shadow)) (s r : Spot) (stop : Stop ss s r) (lit : Lit ss s.t s.u) (t u : ℕ)
    (from : NotAfter s.t s.u t u) (to : NotAfter t u r.t r.u) where
  -- what ends after a later spot does so after s
  until_earlier : (o : Option Spot) → Until o t u → Until o s.t s.u
  until_earlier None h = tt
  until_earlier (Some e) h = then_before s.t s.u t u e.t e.u s.some from h

  module _ (j : ℕ) (l : j < length ss) (x : Shadow) (is : get_or ss j None ≡ Some x) (d : Dark x t u) where
    not_lit : After x.from s.t s.u → ⊥
    unfolding Lit
    not_lit a = lit j l (shaded_here ss j x s.t s.u is (record { after = a; until = until_earlier x.to d.until }))

    by_start : (o : Option Spot) → x.from ≡ o → ⊥
    by_start None e = not_lit (subst (λ (y : Option Spot). After y s.t s.u) (sym e) tt)
    by_start (Some b) e =
        let a : Before b.t b.u t u = subst (λ (y : Option Spot). After y t u) e d.after in
        ⊎_elim
        (λ k. not_lit (subst (λ (y : Option Spot). After y s.t s.u) (sym e) k))
        (λ k. let m = stop.first b (record { j = j; within = l; shadow = x; is = is; here = e }) k in omega (arith, before_then b.t b.u t u r.t r.u r.some a to))
        (cases_lt (b.t * s.u) (s.t * b.u))

  by_shadow : (j : ℕ) → j < length ss → (o : Option Shadow) → get_or ss j None ≡ o → Shaded o t u → ⊥
  by_shadow j l None e d = d
  by_shadow j l (Some x) e d = by_start j l x e d x.from refl

  pub stays_lit : Lit ss t u
  unfolding Lit
  stays_lit j l d = by_shadow j l (get_or ss j None) refl d
