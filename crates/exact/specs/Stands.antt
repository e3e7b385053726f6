-- How large numbers become on the way, for corners from -2047 to 2047. Assumes nothing: these are definitions.
use Rattle.std.specs.Prelude.{◌-◌, ◌^◌, ℤ, pos, ◌-ℤ◌, ◌*ℤ◌}
use Rattle.algebra.specs.Hall.{side, at}
use Rattle.algebra.specs.Near.{Near}
use Rattle.exact.specs.declared.points.Corner.{Corner}
use Rattle.exact.specs.declared.points.Place.{Place}
use Rattle.exact.specs.declared.points.Side.{Side}
use Rattle.exact.specs.Points.{corner_of, place_of}
use Rattle.exact.specs.Sides.{CornerNear, SideNear, PlaceNear, turning}

-- the line of t at a corner
abbrev pub value_at : Side → Corner → ℤ
value_at t c = side (corner_of t.from) (corner_of t.to) (at (corner_of c))

-- nothing passes 2 ^ 63: a side's value at a place, two sides' values at each other's ends, the place where they meet, as a numerator over the
-- cross product of their directions, and two such places compared crosswise
pub record Stands : Type 0 where
  pub value : (s : Side) (p : Place) → SideNear 2047 s → PlaceNear (2 ^ 45) (2 ^ 34) p → Near (2 ^ 59) (side (corner_of s.from) (corner_of s.to) (place_of p))
  pub turn : (t : Side) (c : Corner) → SideNear 2047 t → CornerNear 2047 c → Near (2 ^ 25 - 1) (value_at t c)
  pub denominator : (s t : Side) → SideNear 2047 s → SideNear 2047 t → Near (2 ^ 25 - 1) (turning s t)
  pub numerator_x : (s t : Side) → SideNear 2047 s → SideNear 2047 t → Near (2 ^ 38 - 1) ((s.to.x *ℤ value_at t s.from) -ℤ (s.from.x *ℤ value_at t s.to))
  pub numerator_y : (s t : Side) → SideNear 2047 s → SideNear 2047 t → Near (2 ^ 38 - 1) ((s.to.y *ℤ value_at t s.from) -ℤ (s.from.y *ℤ value_at t s.to))
  pub crosswise : (p q : Place) → PlaceNear (2 ^ 38 - 1) (2 ^ 25 - 1) p → PlaceNear (2 ^ 38 - 1) (2 ^ 25 - 1) q → Near (2 ^ 63 - 1) (p.x *ℤ pos q.w)
