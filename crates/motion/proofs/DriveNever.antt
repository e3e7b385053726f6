-- A way that can be driven has right places, and meets nothing on its stretches: so the checker doesn't refuse it. Assumes nothing.
use Rattle.std.proofs.Common.{◌≡◌, ℕ, zero, suc, ◌+◌, ◌-◌, ◌<◌, List, [], ◌∷◌, ◌++◌, length, sym, refl, subst, ⊎_elim, arith}
use Rattle.std.proofs.lemmas.Bool.Decides.{nat_tests}
use Rattle.hall.specs.declared.refusals.Refusal.TheVariants.{Length, Number, Count, Bend, Slice, Waypoint, Collision, Memory}
use Rattle.algebra.specs.Hall.{Place, Hall, Free, Straight, Way}
use Rattle.algebra.specs.Forms.{Same}
use Rattle.algebra.proofs.Forms.{same_place}
use Rattle.motion.specs.Driving.{place, Drives, Right, stretches, ahead, NeverRefused}
use Rattle.motion.proofs.DriveStretches.{straight_same, from_free, to_free}
use Rattle.motion.proofs.DriveClear.{Steps, stretches_many, ahead_next}

abbrev Real : List Place → Type 0
Real ps = (k : ℕ) → k < length ps → 0 < (place ps k).w

-- ---- a list that has a last place
ended : (xs : List Place) (q : Place) → 0 < length (xs ++ q ∷ [])
ended [] q = omega arith
ended (x ∷ xs) q = omega arith

place_last : (xs : List Place) (q : Place) (k : ℕ) → k + 1 ≡ length (xs ++ q ∷ []) → place (xs ++ q ∷ []) k ≡ q
place_last [] q zero h = refl
place_last [] q (suc k) h = absurd (omega arith)
place_last (x ∷ xs) q zero h = absurd (omega (arith, ended xs q))
place_last (x ∷ xs) q (suc k) h = place_last xs q k (omega arith)

-- a way from s over xs to t, its ends written as p and q
way_steps : (h : Hall) (s t p q : Place) (xs : List Place) → Real (p ∷ (xs ++ q ∷ [])) → Same s p → Same t q → Way h s xs t → Steps h (p ∷ (xs ++ q ∷ []))
unfolding Way
way_steps h s t p q [] real e f a zero n = straight_same h s t p q (real 0 (omega arith)) (real 1 (omega arith)) e f a
way_steps h s t p q [] real e f a (suc k) n = absurd (omega arith)
way_steps h s t p q (x ∷ xs) real e f a zero n =
    straight_same h s x p x (real 0 (omega arith)) (real 1 (omega arith)) e (same_place.reflexive x) a.0
way_steps h s t p q (x ∷ xs) real e f a (suc k) n =
    way_steps h x t x q xs (λ i m. real (suc i) (omega arith)) (same_place.reflexive x) f a.1 k (omega arith)

-- ---- what a way that can be driven has, by the numbers of its places
record Driven (h : Hall) (s t : Place) (ps : List Place) : Type 0 where
  some : 0 < length ps
  start : Same (place ps 0) s
  end : (k : ℕ) → k + 1 ≡ length ps → Same (place ps k) t
  along : (k : ℕ) → k < stretches (length ps) → Straight h (place ps k) (place ps (ahead (length ps) k))

driven_many : (h : Hall) (s t p q : Place) (xs : List Place) → Real (p ∷ (xs ++ q ∷ [])) → Same p s → Same q t → Way h s xs t → Driven h s t (p ∷ (xs ++ q ∷ []))
driven_many h s t p q xs real e f a =
    let ps : List Place = p ∷ (xs ++ q ∷ []) in
    let m : stretches (length ps) ≡ length ps - 1 = stretches_many (length ps) (omega (arith, ended xs q)) in
    record {
      some = omega arith;
      start = e;
      end = λ k n. subst (λ (x : Place). Same x t) (sym (place_last (p ∷ xs) q k n)) f;
      along = λ k n.
          let l : k + 1 < length ps = omega (arith, m) in
          subst (λ (j : ℕ). Straight h (place ps k) (place ps j)) (sym (ahead_next ps k l))
          (way_steps h s t p q xs real (same_place.symmetric p s e) (same_place.symmetric q t f) a k l);
    }

driven_one : (h : Hall) (s t p : Place) → 0 < p.w → Same p s → Same p t → Way h s [] t → Driven h s t (p ∷ [])
unfolding Way
driven_one h s t p w e f a = record { some = omega arith; start = e; end = end; along = along }
  where
    end : (k : ℕ) → k + 1 ≡ 1 → Same (place (p ∷ []) k) t
    end zero n = f
    end (suc k) n = absurd (omega arith)

    along : (k : ℕ) → k < 1 → Straight h (place (p ∷ []) k) (place (p ∷ []) (ahead 1 k))
    along zero n = straight_same h s t p p w w (same_place.symmetric p s e) (same_place.symmetric p t f) a
    along (suc k) n = absurd (omega arith)

driven : (h : Hall) (s t : Place) (ps : List Place) → Real ps → Drives h s t ps → Driven h s t ps
driven h s t ps real d =
    ⊎_elim
    (λ e. subst (Driven h s t) (sym e) (driven_many h s t d.first d.last d.inner (subst Real e real) d.start d.end d.way))
    (λ e. subst (Driven h s t) (sym e.0)
    (driven_one h s t d.first (subst Real e.0 real 0 (omega arith)) d.start
    (subst (λ (x : Place). Same x t) e.2 d.end) (subst (λ (l : List Place). Way h s l t) e.1 d.way)))
    d.places

stretches>0 : (n : ℕ) → 0 < n → 0 < stretches n
stretches>0 n h = grind (arith, nat_tests)

-- ---- every place is free, so right
module _ (h : Hall) (s t : Place) (ps : List Place) (d : Driven h s t ps) where
  place_free : (k : ℕ) → k < length ps → Free h (place ps k)
  place_free zero n = from_free h (place ps 0) (place ps (ahead (length ps) 0)) (d.along 0 (stretches>0 (length ps) n))
  place_free (suc k) n =
      let m : k < stretches (length ps) = omega (arith, stretches_many (length ps) (omega arith)) in
      to_free h (place ps k) (place ps (suc k)) (subst (λ (j : ℕ). Straight h (place ps k) (place ps j)) (ahead_next ps k (omega arith)) (d.along k m))

  place_right : (k : ℕ) → k < length ps → Right h s t ps k
  place_right k n =
      record {
        within = (place_free k n).walls;
        first = λ e. subst (λ (j : ℕ). Same (place ps j) s) (sym e) d.start;
        last = d.end k;
      }

pub never_refused : NeverRefused
unfolding Straight
never_refused h s t ps (Waypoint k) ws wt real w a =
    let d = driven h s t ps real a in
    absurd (⊎_elim (λ e. omega (arith, d.some)) (λ n. n.1 (place_right h s t ps d k n.0)) w.here)
never_refused h s t ps (Collision k j) ws wt real c a =
    let d = driven h s t ps real a in
    let m = c.here in
    absurd ((d.along k c.stretch m.t m.u m.some).things j c.thing m.meets)
never_refused h s t ps Memory ws wt real x a = refl
never_refused h s t ps (Length i) ws wt real x a = absurd x
never_refused h s t ps (Number i) ws wt real x a = absurd x
never_refused h s t ps (Count i) ws wt real x a = absurd x
never_refused h s t ps (Bend i) ws wt real x a = absurd x
never_refused h s t ps (Slice l) ws wt real x a = absurd x
