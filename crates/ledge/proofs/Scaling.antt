-- Abscissae as the code compares them, in 64 bits: a corner's times the w of a place, and the place's own. Assumes nothing.
use Rattle.std.proofs.Common.{◌≡◌, ◌^◌, pos, ◌*ℤ◌, refl, to_z, of_z, w64}
use Rattle.algebra.proofs.Ranges.{knows, by_value}
use Rattle.exact.specs.declared.points.Corner.{Corner}
use Rattle.exact.specs.declared.points.Place.{Place}
use Rattle.exact.specs.Sides.{CornerNear, PlaceNear}

module _ (p : Place) (n : PlaceNear (2 ^ 20) (2 ^ 20) p) where
  pub scaled : (c : Corner) → CornerNear 2047 c → to_z w64 (of_z w64 (to_z w64 (of_z w64 c.x) *ℤ to_z w64 p.w)) ≡ c.x *ℤ pos p.w
  scaled c m = by_value (search (knows, m.x, n.most) depth 60 fits 99999) refl

  pub own : to_z w64 (of_z w64 p.x) ≡ p.x
  own = by_value (search (knows, n.x) depth 60 fits 99999) refl
