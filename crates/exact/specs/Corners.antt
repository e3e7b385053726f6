-- How large corners are. Assumes nothing: these are definitions.
use Rattle.std.specs.Prelude.{ℕ}
use Rattle.algebra.specs.Near.{Near}
use Rattle.exact.specs.declared.points.Corner.{Corner}

-- both coordinates from -m to m
pub record CornerNear (m : ℕ) (c : Corner) : Type 0 where
  pub x : Near m c.x
  pub y : Near m c.y
