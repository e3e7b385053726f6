-- Numbers in parts of 48 bits. Assumes nothing: these are definitions.
use Rattle.std.specs.Prelude.{ℕ, ◌-◌, ◌^◌, ℤ, pos, ◌+ℤ◌, ◌*ℤ◌, ◌≤ℤ◌}
use Rattle.algebra.specs.Near.{Near}
use Rattle.exact.specs.declared.wide.Halves.{Halves}
use Rattle.exact.specs.declared.wide.Thirds.{Thirds}

abbrev pub halves_value : Halves → ℤ
halves_value h = (h.high *ℤ pos (2 ^ 48)) +ℤ h.low

abbrev pub thirds_value : Thirds → ℤ
thirds_value t = ((t.high *ℤ pos (2 ^ 96)) +ℤ (t.middle *ℤ pos (2 ^ 48))) +ℤ t.low

-- a number of 48 bits without a sign
pub record Digit (z : ℤ) : Type 0 where
  pub least : pos 0 ≤ℤ z
  pub most : z ≤ℤ pos (2 ^ 48 - 1)

pub record HalvesNear (h : Halves) : Type 0 where
  pub high : Near (2 ^ 48) h.high
  pub low : Digit h.low

pub record ThirdsNear (m : ℕ) (t : Thirds) : Type 0 where
  pub high : Near m t.high
  pub middle : Near m t.middle
  pub low : Near m t.low

-- only the highest part has a sign
pub record Carried (t : Thirds) : Type 0 where
  pub high : Near (2 ^ 99) t.high
  pub middle : Digit t.middle
  pub low : Digit t.low
