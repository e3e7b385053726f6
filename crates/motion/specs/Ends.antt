-- The values of a shape's sides at the two ends of a stretch, and what they show. Assumes nothing: these are definitions.
use Rattle.std.specs.Prelude.{◌≡◌, ℕ, ℤ, pos, ◌*ℤ◌, ◌≤ℤ◌, ◌<ℤ◌}
use Rattle.algebra.specs.Hall.{Place, Shape, edge}
use Rattle.motion.specs.declared.ends.Ends.{Ends}

-- a value that goes from a to b, and another that goes from c to d: the first, which falls from above 0, has done so where the other rises above it
pub record Late (a b c d : ℤ) : Type 0 where
  pub first_from : pos 0 <ℤ a
  pub first_to : b ≤ℤ pos 0
  pub second_from : c ≤ℤ pos 0
  pub second_to : pos 0 <ℤ d
  pub late : (a *ℤ d) ≤ℤ (c *ℤ b)

-- ---- as the code has them

-- those of side i of a shape
pub record EndsOf (g : Shape) (p q : Place) (i : ℕ) (e : Ends) : Type 0 where
  pub from : e.from ≡ edge g i p
  pub to : e.to ≡ edge g i q

-- above 0 at neither end
pub record Low (e : Ends) : Type 0 where
  pub from : e.from ≤ℤ pos 0
  pub to : e.to ≤ℤ pos 0

abbrev pub LatePair : Ends → Ends → Type 0
LatePair e f = Late e.from e.to f.from f.to
