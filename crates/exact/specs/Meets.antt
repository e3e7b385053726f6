-- Where two sides meet. Assumes nothing: these are definitions.
use Rattle.std.specs.Prelude.{◌≡◌, ℕ, ◌+◌, ◌-◌, ◌^◌, ◌<◌, ◌⊎◌, pos, Option, MatchOption}
use Rattle.algebra.specs.Hall as hall
use Rattle.algebra.specs.Hall.{at, between, side}
use Rattle.algebra.specs.Forms.{Same}
use Rattle.algebra.specs.Near.{Near}
use Rattle.exact.specs.declared.points.Ends.{Ends}
use Rattle.exact.specs.declared.points.Place.{Place}
use Rattle.exact.specs.declared.points.Side.{Side}
use Rattle.exact.specs.Points.{corner_of, place_of}
use Rattle.exact.specs.Sides.{PlaceNear, turning}

-- a place between the corners a and b, or at one of them
pub record Among (a b : hall.Corner) (p : hall.Place) : Type 0 where
  pub t : ℕ
  pub u : ℕ
  pub some : 0 < t + u
  pub same : Same p (between (at a) (at b) t u)

-- a place on a side, its ends included
abbrev pub On : Side → hall.Place → Type 0
On s p = Among (corner_of s.from) (corner_of s.to) p

-- the values of the line of t at the ends of s
pub record EndsOf (s t : Side) (e : Ends) : Type 0 where
  pub from : e.from ≡ side (corner_of t.from) (corner_of t.to) (at (corner_of s.from))
  pub to : e.to ≡ side (corner_of t.from) (corner_of t.to) (at (corner_of s.to))
  pub near_from : Near (2 ^ 25) e.from
  pub near_to : Near (2 ^ 25) e.to

-- p is the one place that two sides have in common
pub record Met (s t : Side) (p : Place) : Type 0 where
  pub crossing : turning s t ≡ pos 0 → ⊥
  pub near : PlaceNear (2 ^ 36 - 1) (2 ^ 25 - 1) p
  pub first : On s (place_of p)
  pub second : On t (place_of p)
  pub only : (q : hall.Place) → 0 < q.w → On s q → On t q → Same q (place_of p)

-- two sides are parallel, or no place is on both
abbrev pub Unmet : Side → Side → Type 0
Unmet s t = (turning s t ≡ pos 0) ⊎ ((q : hall.Place) → 0 < q.w → On s q → On t q → ⊥)

abbrev pub MeetIs : Side → Side → Option Place → Type 0
MeetIs s t r = MatchOption r (Unmet s t) (Met s t)
