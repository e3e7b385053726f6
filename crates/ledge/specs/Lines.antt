-- The surfaces of the code, their ends and numbers. Assumes nothing: these are definitions and statements, proved in proofs/.
use Rattle.std.specs.Prelude.{◌≡◌, ℕ, ◌+◌, ◌*◌, ◌<◌, List, pos, ◌≤ℤ◌}
use Rattle.algebra.specs.Hall.{Corner, Place, Shape, Hall, corner}
use Rattle.exact.specs.Meets.{Among}
use Rattle.ledge.specs.declared.surfaces.Surface as code
use Rattle.ledge.specs.declared.surfaces.Surface.TheVariants as code_case
use Rattle.ledge.specs.Sides.{end}
use Rattle.ledge.specs.Surfaces.{Surface, bottom, top, obstacle, Stands, On}

abbrev pub surface_of : code.Surface → Surface
surface_of code_case.Bottom = bottom
surface_of (code_case.Top k i) = top k i

-- the ends of a surface
abbrev pub left_end : List Shape → Surface → Corner
left_end gs bottom = record { x = pos 0; y = pos 0 }
left_end gs (top k i) = end (obstacle gs k) i

abbrev pub right_end : Hall → List Shape → Surface → Corner
right_end h gs bottom = record { x = pos h.wide; y = pos 0 }
right_end h gs (top k i) = corner (obstacle gs k) i

-- the number of a surface
abbrev pub number : Surface → ℕ
number bottom = 0
number (top k i) = 1 + (16 * k + i)

pub record Numbered (gs : List Shape) (n : ℕ) (s : Surface) : Type 0 where
  pub stands : Stands gs s
  pub is : number s ≡ n

-- no surface of obstacles with at most 16 sides has the number
abbrev pub Unnumbered : List Shape → ℕ → Type 0
Unnumbered gs n = (s : Surface) → Numbered gs n s → ⊥

-- what is on a surface lies between its ends
pub record OnLines : Type 0 where
  pub among : (h : Hall) (gs : List Shape) (s : Surface) (p : Place) → On h gs s p → Among (left_end gs s) (right_end h gs s) p
  pub on : (h : Hall) (gs : List Shape) (s : Surface) (p : Place) → Stands gs s → 0 < p.w → Among (left_end gs s) (right_end h gs s) p → On h gs s p
  -- a surface doesn't run to the left
  pub onward : (h : Hall) (gs : List Shape) (s : Surface) → Stands gs s → (left_end gs s).x ≤ℤ (right_end h gs s).x
