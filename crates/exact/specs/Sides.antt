-- How large sides and places are, and how one side turns from another. Assumes nothing: these are definitions.
use Rattle.std.specs.Prelude.{ℕ, ◌≤◌, ℤ, ◌-ℤ◌, ◌*ℤ◌}
use Rattle.algebra.specs.Near.{Near}
use Rattle.exact.specs.declared.points.Place.{Place}
use Rattle.exact.specs.declared.points.Side.{Side}
pub use Rattle.exact.specs.Corners.{CornerNear}

pub record SideNear (m : ℕ) (s : Side) : Type 0 where
  pub from : CornerNear m s.from
  pub to : CornerNear m s.to

-- a place with both numerators from -m to m, over at most n
pub record PlaceNear (m n : ℕ) (p : Place) : Type 0 where
  pub x : Near m p.x
  pub y : Near m p.y
  pub real : 1 ≤ p.w
  pub most : p.w ≤ n

-- the cross product of two sides' directions: above 0 if the second turns left of the first, 0 if they are parallel
abbrev pub turning : Side → Side → ℤ
turning s t = ((s.to.x -ℤ s.from.x) *ℤ (t.to.y -ℤ t.from.y)) -ℤ ((s.to.y -ℤ s.from.y) *ℤ (t.to.x -ℤ t.from.x))
