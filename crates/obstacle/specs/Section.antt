-- The cross-section of a sound shape by an upright line. Assumes nothing: these are definitions and a statement, proved in proofs/.
use Rattle.std.specs.Prelude.{ℕ, ◌<◌, length, pos, ◌*ℤ◌, ◌≤ℤ◌, ◌<ℤ◌}
use Rattle.algebra.specs.Hall.{Place, Shape, Sound, Inside, corner, next, edge}

-- corner i is strictly to the left, or to the right, of the upright line through p
abbrev pub LeftOf : Shape → ℕ → Place → Type 0
LeftOf s i p = ((corner s i).x *ℤ pos p.w) <ℤ p.x

abbrev pub RightOf : Shape → ℕ → Place → Type 0
RightOf s i p = p.x <ℤ ((corner s i).x *ℤ pos p.w)

-- p's abscissa lies strictly between the least and the greatest corner
pub record Spans (s : Shape) (p : Place) : Type 0 where
  pub i : ℕ
  pub j : ℕ
  pub i_within : i < length s
  pub j_within : j < length s
  pub left : LeftOf s i p
  pub right : RightOf s j p

-- a side over which p's abscissa lies: a lower one runs to the right, from at or left of it to right of it; an upper one to the left
pub record LowerAt (s : Shape) (i : ℕ) (p : Place) : Type 0 where
  pub within : i < length s
  pub from : ((corner s i).x *ℤ pos p.w) ≤ℤ p.x
  pub to : RightOf s (next (length s) i) p

pub record UpperAt (s : Shape) (i : ℕ) (p : Place) : Type 0 where
  pub within : i < length s
  pub from : p.x ≤ℤ ((corner s i).x *ℤ pos p.w)
  pub to : LeftOf s (next (length s) i) p

-- there are a lower and an upper side over it, and p is inside exactly if it is above the one and below the other (to the left of both)
pub record Section (s : Shape) (p : Place) : Type 0 where
  pub lower : ℕ
  pub upper : ℕ
  pub below : LowerAt s lower p
  pub above : UpperAt s upper p
  pub inside : pos 0 <ℤ edge s lower p → pos 0 <ℤ edge s upper p → Inside s p

abbrev pub CrossSection : Type 0
CrossSection = (s : Shape) (p : Place) → Sound s → 0 < p.w → Spans s p → Section s p

-- and only there: an inside place's abscissa is spanned
abbrev pub InsideSpans : Type 0
InsideSpans = (s : Shape) (p : Place) → Sound s → 0 < p.w → Inside s p → Spans s p
