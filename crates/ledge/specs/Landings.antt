-- The floor of a place, by its surface. Assumes nothing: these are definitions.
use Rattle.std.specs.Prelude.{List, pos, ◌*ℤ◌, ◌≤ℤ◌}
use Rattle.algebra.specs.Hall.{Place, Shape, Hall}
use Rattle.algebra.specs.Forms.{Form, value, line}
use Rattle.exact.specs.declared.points.Side.{Side}
use Rattle.exact.specs.Points.{corner_of}
use Rattle.obstacle.specs.Section.{Spans}
use Rattle.ledge.specs.Heights.{foot}
use Rattle.ledge.specs.Surfaces.{Surface, Holds, Floor, above}

-- a surface holds p up, and none that does is higher there
pub record Floors (h : Hall) (gs : List Shape) (p : Place) (s : Surface) : Type 0 where
  pub holds : Holds h gs s p
  pub highest : (t : Surface) → Holds h gs t p → pos 0 ≤ℤ value (above gs t) (foot (above gs s) p)

abbrev pub floor_at : {h : Hall} {gs : List Shape} {p : Place} {s : Surface} → Floors h gs p s → Floor h gs p
floor_at {h} {gs} {p} {s} f = record { surface = s; holds = f.holds; highest = f.highest }

-- ---- what the parts of the code say

-- the abscissa of p is among those of a side that runs to the right
pub record IsOver (roof : Side) (p : Place) : Type 0 where
  pub from : (roof.from.x *ℤ pos p.w) ≤ℤ p.x
  pub to : p.x ≤ℤ (roof.to.x *ℤ pos p.w)

-- the form of a line of the code: above 0 above it, where it runs to the right
abbrev pub form_of : Side → Form
form_of s = line (corner_of s.from) (corner_of s.to)

-- the shape g spans the abscissa of p, which is among those of its side, and p is not below that
pub record IsHeld (g : Shape) (roof : Side) (p : Place) : Type 0 where
  pub over : IsOver roof p
  pub spans : Spans g p
  pub not_above : pos 0 ≤ℤ value (form_of roof) p

-- s is not higher than t over the abscissa of p
abbrev pub Under : List Shape → Place → Surface → Surface → Type 0
Under gs p s t = pos 0 ≤ℤ value (above gs s) (foot (above gs t) p)

-- r is the higher of s and t, of which t may not hold p up
pub record Higher (h : Hall) (gs : List Shape) (p : Place) (s t r : Surface) : Type 0 where
  pub holds : Holds h gs r p
  pub first : Under gs p s r
  pub second : Holds h gs t p → Under gs p t r
