-- The sides of a shape, in their order. Assumes nothing: these are definitions.
use Rattle.std.specs.Prelude.{ℕ, zero, suc, ◌+◌, ◌-◌, List, [], ◌∷◌, length}
use Rattle.algebra.specs.Hall as hall
use Rattle.algebra.specs.Hall.{corner, next}
use Rattle.exact.specs.declared.points.Side.{Side}
use Rattle.exact.specs.Points.{corner_of}
use Rattle.hall.specs.declared.sides.Sides.{Sides}
use Rattle.hall.specs.Outlines.{outline_of}

-- from one corner to another
abbrev pub CornerPair : Type 0
CornerPair = hall.Corner × hall.Corner

abbrev pub pair_of : Side → CornerPair
pair_of s = (corner_of s.from, corner_of s.to)

-- m sides, the first of which begins at corner i
abbrev pub sides_from : hall.Shape → ℕ → ℕ → List CornerPair
sides_from s zero i = []
sides_from s (suc m) i = (corner s i, corner s (next (length s) i)) ∷ sides_from s m (i + 1)

abbrev pub sides_of : hall.Shape → List CornerPair
sides_of s = sides_from s (length s) 0

-- those that are still to come
abbrev pub sides_left : Sides → List CornerPair
sides_left w = let s = outline_of w.corners.now in sides_from s (length s - w.at) w.at
