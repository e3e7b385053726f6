-- The ledges of a surface in words. Assumes nothing: these are definitions and a statement, proved in proofs/.
use Rattle.std.specs.Prelude.{◌≡◌, ℕ, ◌+◌, ◌-◌, ◌*◌, ◌<◌, ◌⊎◌, List, length, Some, None, Option, MatchOption, ◌≢◌, slice_index_or}
use Rattle.algebra.specs.Hall as hall
use Rattle.algebra.specs.Hall.{Corner, Shape, Hall, Free, Straight, at, between}
use Rattle.exact.specs.Points.{place_of}
use Rattle.obstacle.specs.Freedom.{Obstacles}
use Rattle.ledge.specs.declared.parts.Ledge.{Ledge}
use Rattle.ledge.specs.declared.parts.Part.{Part}
use Rattle.ledge.specs.declared.parts.Part.TheVariants as part
use Rattle.ledge.specs.declared.runs.Run.{Run}
use Rattle.ledge.specs.declared.shadows.Shadow.{Shadow}
use Rattle.ledge.specs.declared.spots.Spot.{Spot}
use Rattle.ledge.specs.Lights.{Lights}
use Rattle.ledge.specs.Lines.{left_end, right_end, number}
use Rattle.ledge.specs.Parts.{words_part, LedgeNear, Along}
use Rattle.ledge.specs.Runs.{Lit, RunFrom}
use Rattle.ledge.specs.Surfaces.{Surface, Stands, On}

-- ---- what the parts of the code say

-- beginning number c: the left end, or the end of shadow c - 1 where it has one
abbrev pub BeginningAt : List (Option Shadow) → ℕ → Option Spot → Type 0
BeginningAt ss c r =
    MatchOption r
    ((0 < c) × ((s : Shadow) (e : Spot) → slice_index_or ss (c - 1) None ≡ Some s → s.to ≢ Some e))
    (λ e. ((c ≡ 0) × (e.t ≡ 0) × (e.u ≡ 1)) ⊎ ((0 < c) × ((s : Shadow) × (slice_index_or ss (c - 1) None ≡ Some s) × (s.to ≡ Some e))))

-- the ends of a run on the surface from a to b
pub record RunLedge (a b : Corner) (r : Run) (l : Ledge) : Type 0 where
  pub near : LedgeNear l
  pub from : place_of l.from ≡ between (at a) (at b) r.from.t r.from.u
  pub to : place_of l.to ≡ between (at a) (at b) r.to.t r.to.u

-- part number c of the surface from a to b: the run that begins there, or none does
pub record RunsFrom (ss : List (Option Shadow)) (a b : Corner) (c : ℕ) (l : Ledge) : Type 0 where
  pub spot : Spot
  pub begins : BeginningAt ss c (Some spot)
  pub run : Run
  pub runs : RunFrom ss spot run
  pub ledge : RunLedge a b run l

abbrev pub PartOf : List (Option Shadow) → Corner → Corner → ℕ → Part → Type 0
PartOf ss a b c part.Vacant = (e : Spot) → BeginningAt ss c (Some e) → Lit ss e.t e.u → ⊥
PartOf ss a b c (part.Free l) = RunsFrom ss a b c l

-- ---- ledges

-- l is a ledge of the surface: free from end to end, and a free stretch of the surface doesn't leave it
pub record LedgeOf (h : Hall) (gs : List Shape) (s : Surface) (l : Ledge) : Type 0 where
  pub near : LedgeNear l
  pub from : On h gs s (place_of l.from)
  pub to : On h gs s (place_of l.to)
  pub free : Straight h (place_of l.from) (place_of l.to)
  pub whole : (p q : hall.Place) → On h gs s p → On h gs s q → Along l p → Straight h p q → Along l q
  -- between any two of its places it is free
  pub joins : (p q : hall.Place) → On h gs s p → On h gs s q → Along l p → Along l q → Straight h p q

-- a part in words that holds p
pub record Holding (ws : List ℕ) (first n : ℕ) (p : hall.Place) : Type 0 where
  pub c : ℕ
  pub within : c < n
  pub ledge : Ledge
  pub is : words_part ws (first + c) ≡ part.Free ledge
  pub along : Along ledge p

-- the n parts from `first` on are the ledges of a surface: each that is not vacant is one, and every free place of the surface is on one
pub record Ledged (h : Hall) (gs : List Shape) (s : Surface) (ws : List ℕ) (first n : ℕ) : Type 0 where
  pub sound : (c : ℕ) → c < n → (l : Ledge) → words_part ws (first + c) ≡ part.Free l → LedgeOf h gs s l
  pub complete : (p : hall.Place) → On h gs s p → Free h p → Holding ws first n p

-- every surface has its ledges in its part of the map, of n ledges
unfoldable pub Mapped : Hall → List Shape → List ℕ → ℕ → Type 0
Mapped h gs ws n = (s : Surface) → Stands gs s → Ledged h gs s ws (number s * n) n

-- a surface's shadows give its ledges
pub record LedgeLaws : Type 0 where
  pub sound : (h : Hall) (gs : List Shape) (s : Surface) (ss : List (Option Shadow)) → Obstacles h gs → Stands gs s → Lights h gs (left_end gs s) (right_end h gs s) ss →
      (c : ℕ) (l : Ledge) → RunsFrom ss (left_end gs s) (right_end h gs s) c l → LedgeOf h gs s l
  -- a free place is on the run of some beginning, which is lit
  pub complete : (h : Hall) (gs : List Shape) (s : Surface) (ss : List (Option Shadow)) → Obstacles h gs → Lights h gs (left_end gs s) (right_end h gs s) ss →
      (p : hall.Place) → On h gs s p → Free h p →
      (c : ℕ) × (c < length gs + 5) × ((e : Spot) × BeginningAt ss c (Some e) × Lit ss e.t e.u × ((l : Ledge) → RunsFrom ss (left_end gs s) (right_end h gs s) c l → Along l p))
