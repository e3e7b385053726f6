-- Places that are right and stretches on which nothing is met make a way that can be driven. Assumes nothing.
use Rattle.std.proofs.Common.{◌≡◌, ℕ, suc, ◌+◌, ◌-◌, ◌<◌, List, [], ◌∷◌, ◌++◌, length, refl, ap, subst, inl, inr, arith}
use Rattle.std.proofs.lemmas.Bool.Decides.{nat_tests}
use Rattle.algebra.specs.Hall.{Place, Hall, Straight, Way}
use Rattle.algebra.specs.Forms.{Same}
use Rattle.algebra.proofs.Forms.{same_place}
use Rattle.motion.specs.Driving.{place, Right, stretches, ahead, Collides, DrivesIfClear}
use Rattle.motion.proofs.DriveStretches.{straight_from, straight_same, to_free}

-- ---- the numbers of stretches
pub stretches_many : (n : ℕ) → 1 < n → stretches n ≡ n - 1
stretches_many n h = grind (arith, nat_tests)

pub ahead_next : (ps : List Place) (k : ℕ) → k + 1 < length ps → ahead (length ps) k ≡ suc k
ahead_next ps k h = grind (arith, nat_tests)

-- ---- places in a row: those before the last, and the last
abbrev before_last : Place → List Place → List Place
before_last q [] = []
before_last q (r ∷ rs) = q ∷ before_last r rs

abbrev last_of : Place → List Place → Place
last_of q [] = q
last_of q (r ∷ rs) = last_of r rs

parted : (q : Place) (qs : List Place) → q ∷ qs ≡ before_last q qs ++ last_of q qs ∷ []
parted q [] = refl
parted q (r ∷ rs) = ap (λ (l : List Place). q ∷ l) (parted r rs)

last_place : (q : Place) (qs : List Place) → place (q ∷ qs) (length qs) ≡ last_of q qs
last_place q [] = refl
last_place q (r ∷ rs) = last_place r rs

-- one place is a way from itself to itself
one_way : (h : Hall) (s t p : Place) → 0 < s.w → 0 < t.w → Same p s → Same p t → Straight h p p → Way h s [] t
unfolding Way
one_way h s t p ws wt e f a = straight_same h p p s t ws wt e f a

-- straight from each place to the next
abbrev pub Steps : Hall → List Place → Type 0
Steps h ps = (k : ℕ) → k + 1 < length ps → Straight h (place ps k) (place ps (suc k))

steps_way : (h : Hall) (s t p q : Place) (qs : List Place) → 0 < s.w → 0 < t.w → Same p s → Same (last_of q qs) t → Steps h (p ∷ q ∷ qs) → Way h s (before_last q qs) t
unfolding Way
steps_way h s t p q [] ws wt e f a = straight_same h p q s t ws wt e f (a 0 (omega arith))
steps_way h s t p q (r ∷ rs) ws wt e f a =
    let b : Straight h p q = a 0 (omega arith) in
    let wq : 0 < q.w = (to_free h p q b).real in (
      straight_same h p q s q ws wq e (same_place.reflexive q) b,
      steps_way h q t q r rs wq wt (same_place.reflexive q) f (λ k n. a (suc k) (omega arith)),
    )

-- ---- the stretches of a way that is clear
module _ (h : Hall) (s t : Place) (ps : List Place) (real : (k : ℕ) → k < length ps → 0 < (place ps k).w)
    (right : (i : ℕ) → i < length ps → Right h s t ps i)
    (clear : (a : ℕ) → a < stretches (length ps) → (b : ℕ) → b < length h.things → Collides h ps a b → ⊥) where
  clear_straight : (k : ℕ) → k < stretches (length ps) → k < length ps → ahead (length ps) k < length ps → Straight h (place ps k) (place ps (ahead (length ps) k))
  clear_straight k n l m =
      straight_from h (place ps k) (place ps (ahead (length ps) k)) (real k l) (real (ahead (length ps) k) m) (right k l).within (right (ahead (length ps) k) m).within
      (λ t u o b v x. clear k n b v (record { t = t; u = u; some = o; meets = x }))

  clear_steps : Steps h ps
  clear_steps k n =
      let e : ahead (length ps) k ≡ suc k = ahead_next ps k n in
      let f : stretches (length ps) ≡ length ps - 1 = stretches_many (length ps) (omega arith) in
      subst (λ (j : ℕ). Straight h (place ps k) (place ps j)) e (clear_straight k (omega (arith, f)) (omega arith) (omega (arith, e)))

pub drives_if_clear : DrivesIfClear
drives_if_clear h s t [] ws wt real some right clear = absurd (omega arith)
drives_if_clear h s t (p ∷ []) ws wt real some right clear =
    let r = right 0 (omega arith) in
    record {
      first = p;
      inner = [];
      last = p;
      places = inr (refl, refl, refl);
      start = r.first refl;
      end = r.last refl;
      way = one_way h s t p ws wt (r.first refl) (r.last refl) (clear_straight h s t (p ∷ []) real right clear 0 (omega arith) (omega arith) (omega arith));
    }
drives_if_clear h s t (p ∷ q ∷ qs) ws wt real some right clear =
    let e : Same p s = (right 0 (omega arith)).first refl in
    let f : Same (last_of q qs) t = subst (λ (x : Place). Same x t) (last_place q qs) ((right (suc (length qs)) (omega arith)).last (omega arith)) in
    record {
      first = p;
      inner = before_last q qs;
      last = last_of q qs;
      places = inl (ap (λ (l : List Place). p ∷ l) (parted q qs));
      start = e;
      end = f;
      way = steps_way h s t p q qs ws wt e f (clear_steps h s t (p ∷ q ∷ qs) real right clear);
    }
