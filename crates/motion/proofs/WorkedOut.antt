-- The halls worked out by hand. Assumes nothing.
use Rattle.std.proofs.Common.{◌≡◌, ℕ, zero, suc, ◌<◌, List, [], ◌∷◌, get_or, pos, negsuc, ◌*ℤ◌, ◌≤ℤ◌, ◌<ℤ◌, arith}
use borrow.Author.Differences.{ints}
use Rattle.std.proofs.lemmas.Int.{by_lt_z}
use Rattle.algebra.specs.Hall.{Place, Hall, plus, Meets, Free, between, Straight, Way}
use Rattle.algebra.specs.Forms.{Form, value}
use Rattle.algebra.proofs.Order.{weaker}
use Rattle.algebra.proofs.Forms.{crossing}
use Rattle.algebra.proofs.Places.{straightness}
use Rattle.motion.proofs.DirectLook.{way_start}
use Rattle.motion.specs.Worked.{room, spot, none, Example, Holds, table, WorkedHalls}
use Rattle.motion.proofs.WorkedOutBoxes.{four, meets_near, meets_at}

abbrev example : ℕ → Example
example k = get_or table k (record { things = []; from = spot (pos 0) (pos 0); to = spot (pos 0) (pos 0); said = none })

abbrev hall : ℕ → Hall
hall k = room (example k).things

-- ---- nothing stands
nothing_stands : Holds (example 0)
unfolding Way Straight between
nothing_stands t u n =
    record {
      real = omega arith;
      walls = record { left = omega (arith, ints); right = omega (arith, ints); low = omega (arith, ints); high = omega (arith, ints) };
      things = λ k l m. omega arith;
    }

-- ---- a door as high as the load: at height 5 it touches what stands below, and what stands above
door_passed : (p : Place) → p.y ≡ pos 5 *ℤ pos p.w → (k : ℕ) → k < 2 → Meets (hall 1).load (get_or (hall 1).things k []) p → ⊥
door_passed p e zero n m = let d = meets_near p m (omega (arith, ints)) (omega (arith, ints)) 2 (omega arith) in omega (arith, ints)
door_passed p e (suc zero) n m = let d = meets_near p m (omega (arith, ints)) (omega (arith, ints)) 0 (omega arith) in omega (arith, ints)
door_passed p e (suc (suc k)) n m = omega arith

door : Holds (example 1)
unfolding Way Straight between
door t u n =
    record {
      real = omega arith;
      walls = record { left = omega (arith, ints); right = omega (arith, ints); low = omega (arith, ints); high = omega (arith, ints) };
      things = door_passed (between (example 1).from (example 1).to t u) (omega (arith, ints));
    }

-- ---- a door too low by one: whatever comes to the right of its middle, x = 10, has crossed that
abbrev middle : Form
middle = record { a = pos 1; b = pos 0; c = negsuc 9 }

-- and there it meets what stands below, or what stands above
module _ (p : Place) (e : value middle p ≡ pos 0) (f : Free (hall 2) p) where
  met_below : p.y <ℤ (pos 5 *ℤ pos p.w) → Meets (hall 2).load (get_or (hall 2).things 0 []) p
  unfolding value plus
  met_below n =
      let v = f.walls in
      meets_at p (pos 0) (negsuc 0) (four _ (omega (arith, ints)) (omega (arith, ints)) (omega (arith, ints)) (omega (arith, ints))) (omega (arith, ints)) (omega (arith, ints)) (four _ (omega (arith, ints)) (omega (arith, ints)) (omega (arith, ints)) (omega (arith, ints)))

  met_above : (pos 5 *ℤ pos p.w) ≤ℤ p.y → Meets (hall 2).load (get_or (hall 2).things 1 []) p
  unfolding value plus
  met_above n =
      let v = f.walls in
      meets_at p (pos 0) (pos 1) (four _ (omega (arith, ints)) (omega (arith, ints)) (omega (arith, ints)) (omega (arith, ints))) (omega (arith, ints)) (omega (arith, ints)) (four _ (omega (arith, ints)) (omega (arith, ints)) (omega (arith, ints)) (omega (arith, ints)))

  middle_met : ⊥
  middle_met = by_lt_z p.y (pos 5 *ℤ pos p.w) (λ n. f.things 0 (omega arith) (met_below n)) (λ n. f.things 1 (omega arith) (met_above n))

middle_crossed : (p q : Place) → value middle p ≤ℤ pos 0 → pos 0 <ℤ value middle q → Straight (hall 2) p q → ⊥
unfolding Straight
middle_crossed p q h k s =
    let a = straightness.start (hall 2) p q s in
    let b = straightness.start (hall 2) q p (straightness.back (hall 2) p q s) in
    let c = crossing.up middle p q a.real b.real h (weaker (value middle q) k) (λ e. omega (arith, ints)) in
    middle_met (between p q c.t c.u) c.zero (s c.t c.u c.some)

never_right : (s t : Place) → value middle s ≤ℤ pos 0 → pos 0 <ℤ value middle t → (ps : List Place) → Way (hall 2) s ps t → ⊥
unfolding Way
never_right s t h k [] a = middle_crossed s t h k a
never_right s t h k (p ∷ ps) a = by_lt_z (pos 0) (value middle p) (λ n. middle_crossed s p h n a.0) (λ n. never_right p t n k ps a.1)

low_door : Holds (example 2)
unfolding value
low_door = never_right (example 2).from (example 2).to (omega (arith, ints)) (omega (arith, ints))

-- ---- a start that isn't free
start_met : Meets (hall 3).load (get_or (hall 3).things 0 []) (example 3).from
unfolding plus
start_met =
    meets_at (example 3).from (pos 0) (pos 0) (four _ (omega (arith, ints)) (omega (arith, ints)) (omega (arith, ints)) (omega (arith, ints))) (omega (arith, ints)) (omega (arith, ints))
    (four _ (omega (arith, ints)) (omega (arith, ints)) (omega (arith, ints)) (omega (arith, ints)))

met_at_start : Holds (example 3)
met_at_start ps a = (way_start (hall 3) (example 3).from (example 3).to ps a).things 0 (omega arith) start_met

pub worked_halls : WorkedHalls
worked_halls = (nothing_stands, (door, (low_door, (met_at_start, tt))))
