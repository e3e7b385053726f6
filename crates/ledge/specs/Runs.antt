-- Runs of spots that lie in no shadow. Assumes nothing: these are definitions.
use Rattle.std.specs.Prelude.{◌≡◌, ℕ, ◌+◌, ◌<◌, ◌⊎◌, List, length, get_or, Some, None, Option, slice_index_or}
use Rattle.ledge.specs.declared.spots.Spot.{Spot}
use Rattle.ledge.specs.declared.shadows.Shadow.{Shadow}
use Rattle.ledge.specs.declared.runs.Run.{Run}
use Rattle.ledge.specs.Shadows.{Before, NotAfter, Dark}

-- in a shadow, if there is one
abbrev pub Shaded : Option Shadow → ℕ → ℕ → Type 0
Shaded None t u = ⊥
Shaded (Some s) t u = Dark s t u

-- in none of several
unfoldable pub Lit : List (Option Shadow) → ℕ → ℕ → Type 0
Lit ss t u = (j : ℕ) → j < length ss → Shaded (slice_index_or ss j None) t u → ⊥

-- a shadow of the list begins at a spot
pub record Begins (ss : List (Option Shadow)) (s : Spot) : Type 0 where
  pub j : ℕ
  pub within : j < length ss
  pub shadow : Shadow
  pub is : get_or ss j None ≡ Some shadow
  pub here : shadow.from ≡ Some s

-- b if it is not before s and before the stop a, or else a
abbrev pub Sooner : Spot → Spot → Spot → Spot → Type 0
Sooner s a b r = ((r ≡ b) × NotAfter s.t s.u b.t b.u × Before b.t b.u a.t a.u) ⊎ ((r ≡ a) × (NotAfter s.t s.u b.t b.u → NotAfter a.t a.u b.t b.u))

-- r is the right end of the surface, or a shadow begins there; none begins before it and not before s
pub record Stop (ss : List (Option Shadow)) (s r : Spot) : Type 0 where
  pub onward : NotAfter s.t s.u r.t r.u
  pub end : (r.u ≡ 0) ⊎ Begins ss r
  pub first : (b : Spot) → Begins ss b → NotAfter s.t s.u b.t b.u → NotAfter r.t r.u b.t b.u

-- a run from s: all its spots are lit, and it ends where the surface does or a shadow begins
pub record RunFrom (ss : List (Option Shadow)) (s : Spot) (r : Run) : Type 0 where
  pub from : r.from ≡ s
  pub onward : NotAfter s.t s.u r.to.t r.to.u
  pub lit : (t u : ℕ) → 0 < t + u → NotAfter s.t s.u t u → NotAfter t u r.to.t r.to.u → Lit ss t u
  pub end : (r.to.u ≡ 0) ⊎ Begins ss r.to
