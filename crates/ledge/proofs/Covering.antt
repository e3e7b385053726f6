-- The runs of a surface: every lit spot is on one, and none can be made longer. Assumes nothing.
use Rattle.std.proofs.Common.{◌≡◌, ℕ, zero, suc, ◌+◌, ◌*◌, ◌<◌, ◌≤◌, ◌⊎◌, List, [], ◌∷◌, length, get_or, pos, ◌+ℤ◌, Some, None, Option, sym, refl, ap, ◌∙◌, subst, inl, inr, ⊎_elim, mul-zero, zero-mul, arith}
use borrow.Author.Differences.{ints}
use Rattle.std.proofs.lemmas.Bool.{cases_eq, cases_lt}
use Rattle.algebra.proofs.Polynomial.{forms, by_ring}
use Rattle.ledge.specs.declared.spots.Spot.{Spot}
use Rattle.ledge.specs.declared.shadows.Shadow.{Shadow}
use Rattle.ledge.specs.declared.runs.Run.{Run}
use Rattle.ledge.specs.Shadows.{Before, NotAfter, After, Until, Dark, Apart, Opens}
use Rattle.ledge.specs.Runs.{Shaded, Lit, Begins, RunFrom}
use Rattle.ledge.specs.Coverage.{AllOpen, EndsAt, Covered, Broken, Coverage}
use Rattle.ledge.proofs.Spotting.{before_then, then_before, not_after_then}
use Rattle.ledge.proofs.Running.{shaded_here}

-- ---- between two spots there is another
module _ (t u v w : ℕ) (h : Before t u v w) where
  before_middle : Before t u (t + v) (u + w)
  before_middle =
      let e : pos (t * (u + w)) +ℤ pos (v * u) ≡ pos ((t + v) * u) +ℤ pos (t * w) = by_ring (pos t ∷ pos u ∷ pos v ∷ pos w ∷ []) (search forms depth 60 fits 99999) refl in
      omega (arith, ints)

  middle_before : Before (t + v) (u + w) v w
  middle_before =
      let e : pos ((t + v) * w) +ℤ pos (v * u) ≡ pos (v * (u + w)) +ℤ pos (t * w) = by_ring (pos t ∷ pos u ∷ pos v ∷ pos w ∷ []) (search forms depth 60 fits 99999) refl in
      omega (arith, ints)

-- nothing is before the left end, nor after the right one
nothing_before : (t u : ℕ) (c : Spot) → c.t ≡ 0 → Before t u c.t c.u → ⊥
nothing_before t u c e h = let z : c.t * u ≡ 0 = ap (λ (n : ℕ). n * u) e ∙ zero-mul u in omega arith

nothing_after : (t u : ℕ) (c : Spot) → c.u ≡ 0 → Before c.t c.u t u → ⊥
nothing_after t u c e h = let z : t * c.u ≡ 0 = ap (λ (n : ℕ). t * n) e ∙ mul-zero t in omega arith

-- ---- a shadow by its ends
module _ (x : Shadow) (a b : Option Spot) (from : x.from ≡ a) (to : x.to ≡ b) where
  dark_by : (t u : ℕ) → After a t u → Until b t u → Dark x t u
  dark_by t u h k =
      record {
        after = subst (λ (o : Option Spot). After o t u) (sym from) h;
        until = subst (λ (o : Option Spot). Until o t u) (sym to) k;
      }

  apart_by : Opens x → Apart a b
  apart_by h = subst (λ (o : Option Spot). Apart a o) to (subst (λ (o : Option Spot). Apart o x.to) from h)

-- what begins before a spot does so before a later one
after_later : (o : Option Spot) (t u v w : ℕ) → 0 < v + w → NotAfter t u v w → After o t u → After o v w
after_later None t u v w s n h = tt
after_later (Some f) t u v w s n h = before_then f.t f.u t u v w s h n

-- shadow j of a list
module _ (ss : List (Option Shadow)) (room : AllOpen ss) (j : ℕ) (l : j < length ss) (x : Shadow) (is : get_or ss j None ≡ Some x) where
  not_lit : (t u : ℕ) → Dark x t u → Lit ss t u → ⊥
  unfolding Lit
  not_lit t u d h = h j l (shaded_here ss j x t u is d)

  opens : Opens x
  unfolding AllOpen
  opens = room j l x is

  -- ---- what parts two spots: the middle of two spots between them, if the shadow has all that is between these
  broken : (t u a b p q v w : ℕ) → 0 < a + b → 0 < p + q → NotAfter t u a b → Before a b p q → NotAfter p q v w
      → ((m n : ℕ) → 0 < m + n → Before a b m n → Before m n p q → Dark x m n) → Broken ss t u v w
  broken t u a b p q v w s z from h to dark =
      let i = before_middle a b p q h in
      let k = middle_before a b p q h in
      let some : 0 < (a + p) + (b + q) = omega arith in
      record {
        a = a + p;
        b = b + q;
        some = some;
        from = not_after_then t u a b (a + p) (b + q) s from (omega arith);
        to = not_after_then (a + p) (b + q) p q v w z (omega arith) to;
        dark = not_lit (a + p) (b + q) (dark (a + p) (b + q) some i k);
      }

  -- before the shadow's end
  broken_before : (c : Spot) → x.to ≡ Some c → (t u : ℕ) → 0 < t + u → Before t u c.t c.u → (o : Option Spot) → x.from ≡ o → Broken ss t u c.t c.u
  broken_before c to t u s h None from =
      broken t u t u c.t c.u c.t c.u s c.some (omega arith) h (omega arith) (λ m n z i k. dark_by x None (Some c) from to m n tt k)
  broken_before c to t u s h (Some f) from =
      ⊎_elim
      (λ e. broken t u t u c.t c.u c.t c.u s c.some (omega arith) h (omega arith)
      (λ m n z i k. dark_by x (Some f) (Some c) from to m n (before_then f.t f.u t u m n z e (omega arith)) k))
      (λ e. broken t u f.t f.u c.t c.u c.t c.u f.some c.some e (apart_by x (Some f) (Some c) from to opens) (omega arith)
      (λ m n z i k. dark_by x (Some f) (Some c) from to m n i k))
      (cases_lt (f.t * u) (t * f.u))

  -- after its beginning
  broken_after : (c : Spot) → x.from ≡ Some c → (t u : ℕ) → 0 < t + u → Before c.t c.u t u → (o : Option Spot) → x.to ≡ o → Broken ss c.t c.u t u
  broken_after c from t u s h None to =
      broken c.t c.u c.t c.u t u t u c.some s (omega arith) h (omega arith) (λ m n z i k. dark_by x (Some c) None from to m n i tt)
  broken_after c from t u s h (Some e) to =
      ⊎_elim
      (λ g. broken c.t c.u c.t c.u t u t u c.some s (omega arith) h (omega arith)
      (λ m n z i k. dark_by x (Some c) (Some e) from to m n i (before_then m n t u e.t e.u e.some k (omega arith))))
      (λ g. broken c.t c.u c.t c.u e.t e.u t u c.some e.some (omega arith) (apart_by x (Some c) (Some e) from to opens) g
      (λ m n z i k. dark_by x (Some c) (Some e) from to m n i k))
      (cases_lt (t * e.u) (e.t * u))

-- ---- where the run begins that holds a spot: at the last end of a shadow that is not after it, here of the first n shadows, or at the left end
pub record Latest (ss : List (Option Shadow)) (t u n : ℕ) : Type 0 where
  pub from : Spot
  pub begins : ((from.t ≡ 0) × (from.u ≡ 1)) ⊎ EndsAt ss from
  pub after : NotAfter from.t from.u t u
  pub last : (b : Spot) (h : EndsAt ss b) → h.j < n → NotAfter b.t b.u t u → NotAfter b.t b.u from.t from.u

module _ (ss : List (Option Shadow)) (t u : ℕ) where
  left_end : Latest ss t u 0
  left_end = record { from = record { t = 0; u = 1; some = omega arith; few = omega arith }; begins = inl (refl, refl); after = omega arith; last = λ b h l n. absurd (omega arith) }

  module _ (i : ℕ) (l : i < length ss) (sofar : Latest ss t u i) where
    -- the same, if shadow i has no later end
    pass : ((b : Spot) (h : EndsAt ss b) → h.j ≡ i → NotAfter b.t b.u t u → NotAfter b.t b.u sofar.from.t sofar.from.u) → Latest ss t u (suc i)
    pass here =
        record {
          from = sofar.from;
          begins = sofar.begins;
          after = sofar.after;
          last = λ b h m n. ⊎_elim (λ e. here b h e n) (λ e. sofar.last b h (omega arith) n) (cases_eq h.j i);
        }

    pass_none : get_or ss i None ≡ None → Latest ss t u (suc i)
    pass_none is = pass (λ b h e n. let m = h.is in let z : ◌≡◌ {A = ℕ} 0 1 = cc in absurd (omega arith))

    pass_some : (x : Shadow) → get_or ss i None ≡ Some x → (o : Option Spot) → x.to ≡ o → Latest ss t u (suc i)
    pass_some x is None to = pass (λ b h e n. let m = h.is in let k = h.here in let z : ◌≡◌ {A = ℕ} 0 1 = cc in absurd (omega arith))
    pass_some x is (Some c) to =
        let f = sofar.from in
        let same : (b : Spot) (h : EndsAt ss b) → h.j ≡ i → c ≡ b = λ b h e. let m = h.is in let k = h.here in cc in
        ⊎_elim
        (λ g. pass (λ b h e n. let m : Before t u b.t b.u = subst (λ (y : Spot). Before t u y.t y.u) (same b h e) g in absurd (omega arith)))
        (λ g.
        ⊎_elim
        (λ k.
        record {
          from = c;
          begins = inr (record { j = i; within = l; shadow = x; is = is; here = to });
          after = g;
          last = λ b h m n.
              ⊎_elim
              (λ e. subst (λ (y : Spot). NotAfter y.t y.u c.t c.u) (same b h e) (omega arith))
              (λ e. not_after_then b.t b.u f.t f.u c.t c.u f.some (sofar.last b h (omega arith) n) (omega arith))
              (cases_eq h.j i);
        })
        (λ k. pass (λ b h e n. subst (λ (y : Spot). NotAfter y.t y.u f.t f.u) (same b h e) k))
        (cases_lt (f.t * c.u) (c.t * f.u)))
        (cases_lt (t * c.u) (c.t * u))

    more : (o : Option Shadow) → get_or ss i None ≡ o → Latest ss t u (suc i)
    more None is = pass_none is
    more (Some x) is = pass_some x is x.to refl

  latest : (n : ℕ) → n ≤ length ss → Latest ss t u n
  latest zero l = left_end
  latest (suc n) l = more n (omega arith) (latest n (omega arith)) (get_or ss n None) refl

-- ---- the run from there holds the spot, if it is lit
module _ (ss : List (Option Shadow)) (room : AllOpen ss) (t u : ℕ) (some : 0 < t + u) (lit : Lit ss t u) (best : Latest ss t u (length ss)) where
  -- no shadow that begins before the spot ends after the run's beginning
  none_over : (j : ℕ) → j < length ss → (x : Shadow) → get_or ss j None ≡ Some x → After x.from t u → (o : Option Spot) → x.to ≡ o
      → Until o best.from.t best.from.u → ⊥
  none_over j l x is a None to k = not_lit ss room j l x is t u (dark_by x x.from None refl to t u a tt) lit
  none_over j l x is a (Some b) to k =
      ⊎_elim
      (λ g. not_lit ss room j l x is t u (dark_by x x.from (Some b) refl to t u a g) lit)
      (λ g. omega (arith, best.last b (record { j = j; within = l; shadow = x; is = is; here = to }) l g))
      (cases_lt (t * b.u) (b.t * u))

  from_lit : (j : ℕ) → j < length ss → (o : Option Shadow) → get_or ss j None ≡ o → Shaded o best.from.t best.from.u → ⊥
  from_lit j l None is d = d
  from_lit j l (Some x) is d = none_over j l x is (after_later x.from best.from.t best.from.u t u some best.after d.after) x.to refl d.until

  -- the run's end is not before the spot: a shadow that begins there would hold it
  module _ (r : Run) (run : RunFrom ss best.from r) (h : Before r.to.t r.to.u t u) where
    until_from : (x : Shadow) → Opens x → x.from ≡ Some r.to → (o : Option Spot) → x.to ≡ o → Until o best.from.t best.from.u
    until_from x p from None to = tt
    until_from x p from (Some b) to =
        then_before best.from.t best.from.u r.to.t r.to.u b.t b.u best.from.some run.onward (apart_by x (Some r.to) (Some b) from to p)

    no_stop : Begins ss r.to → ⊥
    no_stop b =
        let x = b.shadow in
        none_over b.j b.within x b.is (subst (λ (o : Option Spot). After o t u) (sym b.here) h) x.to refl
        (until_from x (opens ss room b.j b.within x b.is) b.here x.to refl)

  covered : Covered ss t u
  unfolding Lit
  covered =
      record {
        from = best.from;
        begins = best.begins;
        lit = λ j l d. from_lit j l (get_or ss j None) refl d;
        after = best.after;
        before = λ r run.
            ⊎_elim
            (λ h. absurd (⊎_elim (λ e. nothing_after t u r.to e h) (λ b. no_stop r run h b) run.end))
            (λ h. h)
            (cases_lt (r.to.t * u) (t * r.to.u));
      }

pub coverage : Coverage
coverage =
    record {
      covers = λ ss room t u some lit. covered ss room t u some lit (latest ss t u (length ss) (omega arith));
      parted_before = λ ss room c begins t u some h.
          ⊎_elim
          (λ e. absurd (nothing_before t u c e h))
          (λ b. broken_before ss room b.j b.within b.shadow b.is c b.here t u some h b.shadow.from refl)
          begins;
      parted_after = λ ss room c r run t u some h.
          ⊎_elim
          (λ e. absurd (nothing_after t u r.to e h))
          (λ b. broken_after ss room b.j b.within b.shadow b.is r.to b.here t u some h b.shadow.to refl)
          run.end;
    }
