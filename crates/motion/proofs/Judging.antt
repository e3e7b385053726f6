-- From what the parts of the checker say to what the checker says. Assumes nothing.
use Rattle.std.proofs.Common.{T, ◌≡◌, ℕ, ◌<◌, ◌≤◌, Option, None, Some, List, [], map, length, get_or, pos, sym, subst, ⊎_elim, arith}
use Rattle.std.proofs.lemmas.Bool.Decides.{nat_tests}
use Rattle.std.proofs.lemmas.List.{get_or-map, length-map}
use Rattle.algebra.specs.Hall.{Place, Shape, Hall, Within}
use Rattle.exact.specs.Points.{place_of}
use Rattle.exact.specs.declared.points.Place as code
use Rattle.hall.specs.declared.shapes.Shape as code_shape
use Rattle.hall.specs.Shapes.{shape_of}
use Rattle.std.specs.List.{AllWithin, HoldsAt}
use Rattle.std.specs.Option.{MatchOption}
use Rattle.motion.specs.Checking.{AllInHall, FirstOutside, PassesAll, EntersFirst}
use Rattle.motion.proofs.Asking.{at_map}
use Rattle.motion.specs.Driving.{place, stretches, ahead}
use Rattle.motion.specs.Stretch.{Enters, Passes}
use Rattle.std.specs.List.{list_all}
use Rattle.std.proofs.lemmas.List.{get_or_default}
use Rattle.std.proofs.lemmas.Bool.{and_parts, leb-true}
use Rattle.hall.specs.Outlines.{bounded}
use Rattle.hall.specs.Tasks.{Bounded}
use Rattle.hall.proofs.Kept.{true_from_holds}
use Rattle.hall.proofs.Taken.{near_from_test}
use Rattle.obstacle.proofs.Freely.{all_pass_at}
use Rattle.motion.proofs.Settle.{stretch_settled}

-- a place of the code, among several; past the end there is the place at 0, as the check itself reads it
abbrev pub nowhere : code.Place
nowhere = record { x = pos 0; y = pos 0; w = 0 }

pub place_read : (ps : List code.Place) (k : ℕ) → k < length ps → place (map place_of ps) k ≡ place_of (get_or ps k nowhere)
place_read ps k h = get_or-map place_of ps k nowhere _ h

-- the places of a way that was read
pub bounded_holds : (m : ℕ) (p : code.Place) → T (bounded m p) → Bounded m (place_of p)
unfolding bounded
bounded_holds m p t =
    let a = and_parts _ _ (true_from_holds _ t) in
    let b = and_parts _ _ a.0 in
    let c = and_parts _ _ a.1 in
    record { x = near_from_test m p.x b.0; y = near_from_test m p.y b.1; real = leb-true 1 p.w c.0; w = leb-true p.w m c.1 }

pub route_bounded : (m : ℕ) (ps : List code.Place) → T (list_all (bounded m) ps) → (k : ℕ) → k < length ps → Bounded m (place (map place_of ps) k)
route_bounded m ps t k h =
    let x = get_or ps k nowhere in
    subst (Bounded m) (sym (place_read ps k h)) (bounded_holds m x (all_pass_at (bounded m) ps k x h (get_or_default ps k nowhere x h) t))

-- a stretch that doesn't pass has a place inside
pub enters : (g : Shape) (p q : Place) → 0 < p.w → 0 < q.w → (Passes g p q → ⊥) → Enters g p q
enters g p q a b n =
    let s = stretch_settled g p q a b in
    ⊎_elim (λ e. e) (λ o. absurd (n (⊎_elim s.outside s.parted o))) s.cases

-- the first place of the code that isn't in the hall
module _ (h : Hall) (ps : List code.Place) where
  in_hall : (k : ℕ) → k ≤ length ps → AllWithin (λ p. Within h (place_of p)) ps 0 k → (j : ℕ) → j < k → Within h (place (map place_of ps) j)
  in_hall k n a j l = at_map place_of (Within h) _ ps j (omega arith) (λ d. a j d (omega arith) l)

  pub first_outside : (r : Option ℕ) →
      MatchOption r (AllWithin (λ p. Within h (place_of p)) ps 0 (length ps))
      (λ k. (k < length ps) × HoldsAt (λ p. Within h (place_of p) → ⊥) ps k × AllWithin (λ p. Within h (place_of p)) ps 0 k) →
      MatchOption r (AllInHall h (map place_of ps)) (λ k. FirstOutside h (map place_of ps) k)
  first_outside None a = λ j l. in_hall (length ps) (omega arith) a j (omega (arith, length-map ps place_of))
  first_outside (Some k) a =
      record {
        within = omega (arith, length-map ps place_of, a.0);
        here = at_map place_of (λ p. Within h p → ⊥) _ ps k a.0 a.1;
        before = in_hall k (omega (arith, a.0)) a.2;
      }

-- the first obstacle that a stretch doesn't pass is the first that it enters
module _ (os : List (code_shape.Shape 16)) (p q : Place) (wp : 0 < p.w) (wq : 0 < q.w) where
  passes : (k : ℕ) → k ≤ length os → AllWithin (λ o. Passes (shape_of o) p q) os 0 k → (j : ℕ) → j < k → Passes (get_or (map shape_of os) j []) p q
  passes k n a j l = at_map shape_of (λ s. Passes s p q) [] os j (omega arith) (λ d. a j d (omega arith) l)

  pub first_entered : (r : Option ℕ) →
      MatchOption r (AllWithin (λ o. Passes (shape_of o) p q) os 0 (length os))
      (λ k. (k < length os) × HoldsAt (λ o. Passes (shape_of o) p q → ⊥) os k × AllWithin (λ o. Passes (shape_of o) p q) os 0 k) →
      MatchOption r (PassesAll (map shape_of os) p q) (λ k. EntersFirst (map shape_of os) p q k)
  unfolding PassesAll
  first_entered None a = λ j l. passes (length os) (omega arith) a j (omega (arith, length-map os shape_of))
  first_entered (Some k) a =
      record {
        thing = omega (arith, length-map os shape_of, a.0);
        here = at_map shape_of (λ s. Enters s p q) [] os k a.0 (λ d. enters (shape_of (get_or os k d)) p q wp wq (a.1 d));
        on_it = passes k (omega (arith, a.0)) a.2;
      }

-- a stretch begins and ends at a place
pub stretches_few : (n : ℕ) → stretches n ≤ n
stretches_few n = grind (arith, nat_tests)

pub stretches_within : (n k : ℕ) → k < stretches n → k < n
stretches_within n k h = omega (arith, stretches_few n)

pub ahead_within : (n k : ℕ) → k < n → ahead n k < n
ahead_within n k h = grind (arith, nat_tests)
