-- The shapes of the code as those of the definitions. Assumes nothing: these are definitions.
use Rattle.std.specs.Prelude.{ℕ, Bool, List}
use Rattle.std.specs.List.{list_all}
use Rattle.algebra.specs.Hall as hall
use Rattle.hall.specs.declared.shapes.Shape.{Shape}
use Rattle.hall.specs.Outlines.{outline, within}

abbrev pub shape_of : {n : ℕ} → Shape n → hall.Shape
shape_of s = outline s.count s.corners

-- whether each corner is from -m to m in x and y, of one shape and of several
abbrev pub drawn_within : {n : ℕ} → ℕ → Shape n → Bool
drawn_within m s = within m (shape_of s)

abbrev pub all_within : {n : ℕ} → ℕ → List (Shape n) → Bool
all_within m ss = list_all (drawn_within m) ss
