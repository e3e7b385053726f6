-- Numbers in bytes, low byte first. Assumes nothing: these are definitions.
use Rattle.std.specs.Prelude.{ℕ, zero, suc, ◌+◌, ◌*◌, ◌/◌, ◌%◌, List, [], ◌∷◌, ℤ, slice_index}
use Rattle.std.specs.Int.{w16, w64}
use Rattle.std.proofs.Common.{to_z}

-- the byte at i; past the end there are zeros
abbrev pub byte : List ℕ → ℕ → ℕ
byte bs i = slice_index bs i

-- the number in the n bytes from i on
unfoldable pub little : ℕ → List ℕ → ℕ → ℕ
little zero bs i = 0
little (suc n) bs i = byte bs i + 256 * little n bs (i + 1)

-- the same with sign, in two and in eight bytes
abbrev pub signed_2 : List ℕ → ℕ → ℤ
signed_2 bs i = to_z w16 (little 2 bs i)

abbrev pub signed_8 : List ℕ → ℕ → ℤ
signed_8 bs i = to_z w64 (little 8 bs i)

-- and back: a number in n bytes
unfoldable pub digits : ℕ → ℕ → List ℕ
digits zero v = []
digits (suc n) v = v % 256 ∷ digits n (v / 256)
