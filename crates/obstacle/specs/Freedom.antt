-- Free places by obstacles: the load becomes a point. Assumes nothing: these are definitions and a statement, proved in proofs/.
use Rattle.std.specs.Prelude.{◌≡◌, ℕ, ◌<◌, List, [], length, slice_index_or}
use Rattle.algebra.specs.Hall.{Place, Shape, Hall, Sound, Inside, Within, Free}
use Rattle.obstacle.specs.Growth.{Grown}

-- the shapes gs are what the first n things grow to, in their order: each is sound, and it is where the load meets the thing
pub record GrownTo (load : Shape) (things gs : List Shape) (n : ℕ) : Type 0 where
  pub count : length gs ≡ n
  pub sound : (k : ℕ) → k < n → Sound (slice_index_or gs k [])
  pub grown : (k : ℕ) → k < n → Grown load (slice_index_or things k []) (slice_index_or gs k [])

-- the obstacles of a hall, in the order of its things
abbrev pub Obstacles : Hall → List Shape → Type 0
Obstacles h gs = GrownTo h.load h.things gs (length h.things)

-- inside no obstacle
unfoldable pub Apart : List Shape → Place → Type 0
Apart gs p = (k : ℕ) → k < length gs → Inside (slice_index_or gs k []) p → ⊥

-- in the hall, and inside no obstacle
pub record Clear (h : Hall) (gs : List Shape) (p : Place) : Type 0 where
  pub walls : Within h p
  pub apart : Apart gs p

-- A place is free exactly if it is in the hall and inside no obstacle.
abbrev pub FreeExactly : Type 0
FreeExactly = (h : Hall) (gs : List Shape) (p : Place) → Obstacles h gs → 0 < p.w → (Free h p → Clear h gs p) × (Clear h gs p → Free h p)
