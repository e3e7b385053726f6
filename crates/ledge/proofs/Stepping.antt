-- A step: a steady free stretch from m to p, and a floor of m. Assumes nothing.
use Rattle.std.proofs.Common.{ℕ, ◌+◌, ◌<◌, List, length, pos, ◌≤ℤ◌, arith}
use borrow.Author.Differences.{ints}
use Rattle.algebra.specs.Hall.{Place, Shape, Hall, Sound, Inside, Free, Straight, between}
use Rattle.algebra.specs.Forms.{Form, value}
use Rattle.algebra.proofs.Forms.{same_place, stretch}
use Rattle.algebra.proofs.Places.{straightness}
use Rattle.obstacle.specs.Freedom.{Obstacles, Apart}
use Rattle.obstacle.specs.Section.{Spans}
use Rattle.obstacle.proofs.Freely.{free_exactly}
use Rattle.motion.specs.Stretch.{Passes}
use Rattle.motion.proofs.DriveStretches.{straight_same}
use Rattle.ledge.specs.Heights.{Feet, Gaps, Uprights, Rises, foot, gap}
use Rattle.ledge.specs.Sides.{HasSides, BetweenSides, KeepsSide, OneHeight}
use Rattle.ledge.specs.Surfaces.{Surface, above, obstacle, Stands, Floor, Steady, AllSteady, HasFloor, Falls}
use Rattle.ledge.proofs.Standing.{rises, stands}
use Rattle.ledge.proofs.Spanning.{AllCorners, steady_to, steady_from, spans_before}

-- what is used of heights, sides and floors
pub record Known : Type 0 where
  pub feet : Feet
  pub gaps : Gaps
  pub uprights : Uprights
  pub has_sides : HasSides
  pub between_sides : BetweenSides
  pub keeps_side : KeepsSide
  pub one_height : OneHeight
  pub has_floor : HasFloor
  pub falls : Falls

-- ---- free stretches by obstacles
module _ (h : Hall) (gs : List Shape) (o : Obstacles h gs) (k : ℕ) (n : k < length gs) where
  pub sound : Sound (obstacle gs k)
  sound = o.sound k (omega (arith, o.count))

  pub apart : (p : Place) → Free h p → Inside (obstacle gs k) p → ⊥
  unfolding Apart
  apart p f = ((free_exactly h gs p o f.real).0 f).apart k n

  pub passes : (p q : Place) → Straight h p q → Passes (obstacle gs k) p q
  unfolding Straight
  passes p q s e = apart (between p q e.t e.u) (s e.t e.u e.some) e.inside

pub straight_to : (h : Hall) (p q : Place) (t u : ℕ) → 0 < t + u → Straight h p q → Straight h p (between p q t u)
straight_to h p q t u n s =
    let wp = (straightness.start h p q s).real in
    let wq = (straightness.start h q p (straightness.back h p q s)).real in
    straight_same h (between p q 0 1) (between p q t u) p (between p q t u) wp (stretch.real p q t u wp wq n) (stretch.start p q 1)
    (same_place.reflexive (between p q t u)) (straightness.part h p q 0 1 t u (omega arith) n s)

-- ---- steps
pub record Step : Type 0 where
  pub h : Hall
  pub gs : List Shape
  pub obstacles : Obstacles h gs
  pub m : Place
  pub p : Place
  pub free : Straight h m p
  pub steady : AllSteady gs m p
  pub floor : Floor h gs m

-- the surface under m, as a form, and the place of its line over or under a place
abbrev pub form : Step → Form
form x = above x.gs x.floor.surface

abbrev pub under : Step → Place → Place
under x q = foot (form x) q

pub form_stands : (x : Step) → Stands x.gs x.floor.surface
form_stands x = stands x.h x.gs x.floor.surface x.m x.floor.holds.reaches

pub form_rises : (x : Step) → Rises (form x)
form_rises x = rises x.gs x.floor.surface (form_stands x)

pub start_free : (x : Step) → Free x.h x.m
start_free x = straightness.start x.h x.m x.p x.free

pub end_free : (x : Step) → Free x.h x.p
end_free x = straightness.start x.h x.p x.m (straightness.back x.h x.m x.p x.free)

-- a place of the step: it is reached freely, no corner is passed, and what is under the surface at m is under it there
pub record Reached (x : Step) (q : Place) : Type 0 where
  pub real : 0 < q.w
  pub free : Straight x.h x.m q
  pub corners : (k : ℕ) → k < length x.gs → AllCorners (obstacle x.gs k) x.m q
  pub stays_under : (s : Surface) → Stands x.gs s → pos 0 ≤ℤ value (above x.gs s) (under x x.m) → pos 0 ≤ℤ value (above x.gs s) (under x q)

module _ (known : Known) (x : Step) where
  -- of forms that stay under the surface
  under_by : (q : Place) (s : Surface) → Steady (gap (form x) (above x.gs s)) x.m q → pos 0 ≤ℤ value (above x.gs s) (under x x.m) → pos 0 ≤ℤ value (above x.gs s) (under x q)
  under_by q s steady h =
      let g = above x.gs s in
      omega (arith, ints, known.gaps.values (form x) g q (form_rises x), steady.up (omega (arith, ints, known.gaps.values (form x) g x.m (form_rises x))))

  pub reached_end : Reached x x.p
  reached_end =
      record {
        real = (end_free x).real;
        free = x.free;
        corners = λ k n j l. x.steady.corners k n j l;
        stays_under = λ s st h. under_by x.p s (x.steady.gaps x.floor.surface s (form_stands x) st) h;
      }

  module _ (t u : ℕ) (some : 0 < t + u) where
    abbrev spot : Place
    spot = between x.m x.p t u

    pub reached_at : Reached x spot
    reached_at =
        let wm = (start_free x).real in
        let wp = (end_free x).real in
        record {
          real = stretch.real x.m x.p t u wm wp some;
          free = straight_to x.h x.m x.p t u some x.free;
          corners = λ k n j l. steady_to _ x.m x.p t u wm wp (x.steady.corners k n j l);
          stays_under = λ s st h. under_by spot s (steady_to _ x.m x.p t u wm wp (x.steady.gaps x.floor.surface s (form_stands x) st)) h;
        }

    -- short of the end what was spanned is still spanned
    pub spans_on : 0 < u → (k : ℕ) → k < length x.gs → Spans (obstacle x.gs k) x.m → Spans (obstacle x.gs k) spot
    spans_on short k n s =
        spans_before known.uprights (obstacle x.gs k) spot x.m
        (λ j l. steady_from _ x.m x.p t u (start_free x).real (end_free x).real (x.steady.corners k n j l) short) s

  -- a place of the step is free
  pub reached_free : (q : Place) → Reached x q → Free x.h q
  reached_free q r = straightness.start x.h q x.m (straightness.back x.h x.m q r.free)

  -- and what it spans was spanned
  pub spanned_first : (q : Place) → Reached x q → (k : ℕ) → k < length x.gs → Spans (obstacle x.gs k) q → Spans (obstacle x.gs k) x.m
  spanned_first q r k n s = spans_before known.uprights (obstacle x.gs k) x.m q (r.corners k n) s
