-- Places and ledges in words. Assumes nothing: these are definitions.
use Rattle.std.specs.Prelude.{◌≡◌, ℕ, ◌+◌, ◌-◌, ◌*◌, ◌^◌, ◌<◌, ◌≤◌, cond, List, pos, ◌*ℤ◌, ◌≤ℤ◌, ◌==◌, slice_index}
use Rattle.std.specs.Int.{w64}
use Rattle.std.proofs.Common.{to_z}
use Rattle.algebra.specs.Hall as hall
use Rattle.exact.specs.declared.points.Place.{Place}
use Rattle.exact.specs.Sides.{PlaceNear}
use Rattle.ledge.specs.declared.parts.Ledge.{Ledge}
use Rattle.ledge.specs.declared.parts.Part.{Part}
use Rattle.ledge.specs.declared.parts.Part.TheVariants.{Free, Vacant}

-- x and y with sign, and w
abbrev pub words_place : List ℕ → ℕ → Place
words_place ws i = record { x = to_z w64 (slice_index ws i); y = to_z w64 (slice_index ws (i + 1)); w = slice_index ws (i + 2) }

-- part number i, of six words; it is vacant where w of its first place is 0
abbrev pub words_part : List ℕ → ℕ → Part
words_part ws i = cond (slice_index ws (6 * i + 2) == 0) Vacant (Free (record { from = words_place ws (6 * i); to = words_place ws (6 * i + 3) }))

-- a part that can be written: a ledge's first place is one
abbrev pub Marked : Part → Type 0
Marked (Free l) = 0 < l.from.w
Marked Vacant = Unit {0}

-- only n words from i on are changed
pub record Written (old new : List ℕ) (i n : ℕ) : Type 0 where
  pub before : (k : ℕ) → k < i → slice_index new k ≡ slice_index old k
  pub after : (k : ℕ) → i + n ≤ k → slice_index new k ≡ slice_index old k

pub record LedgeNear (l : Ledge) : Type 0 where
  pub from : PlaceNear (2 ^ 36 - 1) (2 ^ 25 - 1) l.from
  pub to : PlaceNear (2 ^ 36 - 1) (2 ^ 25 - 1) l.to

-- the abscissa of p is among those of the ledge
pub record Along (l : Ledge) (p : hall.Place) : Type 0 where
  pub from : (l.from.x *ℤ pos p.w) ≤ℤ (p.x *ℤ pos l.from.w)
  pub to : (p.x *ℤ pos l.to.w) ≤ℤ (l.to.x *ℤ pos p.w)
