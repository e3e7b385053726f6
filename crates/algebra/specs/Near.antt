-- Bounds of integers. Assumes nothing: these are definitions.
use Rattle.std.specs.Prelude.{ℕ, suc, ◌^◌, max, Bool, ℤ, pos, neg_ℤ, ◌≤ℤ◌, nat_le}
use Rattle.std.specs.Int.{Width}
use mir.Val.{hbits}

-- from -m to m
pub record Near (m : ℕ) (z : ℤ) : Type 0 where
  pub low : neg_ℤ (pos m) ≤ℤ z
  pub high : z ≤ℤ pos m

-- from -l to h
pub record Range (l h : ℕ) (z : ℤ) : Type 0 where
  pub least : neg_ℤ (pos l) ≤ℤ z
  pub most : z ≤ℤ pos h

-- whether a signed number of that width has room for all from -l to h
abbrev pub room : Width → ℕ → ℕ → Bool
room w l h = nat_le (max l (suc h)) (2 ^ hbits w)
