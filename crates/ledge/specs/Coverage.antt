-- The runs of a surface: every lit spot is on one, and none can be made longer. Assumes nothing: these are definitions and a statement, proved in proofs/.
use Rattle.std.specs.Prelude.{◌≡◌, ℕ, ◌+◌, ◌<◌, ◌⊎◌, List, length, get_or, Some, None, Option, slice_index_or}
use Rattle.ledge.specs.declared.spots.Spot.{Spot}
use Rattle.ledge.specs.declared.shadows.Shadow.{Shadow}
use Rattle.ledge.specs.declared.runs.Run.{Run}
use Rattle.ledge.specs.Shadows.{Before, NotAfter, Opens}
use Rattle.ledge.specs.Runs.{Lit, RunFrom}

-- every shadow has room between its ends
unfoldable pub AllOpen : List (Option Shadow) → Type 0
AllOpen ss = (j : ℕ) → j < length ss → (s : Shadow) → slice_index_or ss j None ≡ Some s → Opens s

-- a shadow of the list ends at a spot
pub record EndsAt (ss : List (Option Shadow)) (c : Spot) : Type 0 where
  pub j : ℕ
  pub within : j < length ss
  pub shadow : Shadow
  pub is : get_or ss j None ≡ Some shadow
  pub here : shadow.to ≡ Some c

-- where a run can begin: at the left end, or where a shadow ends
abbrev pub Beginning : List (Option Shadow) → Spot → Type 0
Beginning ss c = (c.t ≡ 0) ⊎ EndsAt ss c

-- the run that holds a lit spot
pub record Covered (ss : List (Option Shadow)) (t u : ℕ) : Type 0 where
  pub from : Spot
  pub begins : ((from.t ≡ 0) × (from.u ≡ 1)) ⊎ EndsAt ss from
  pub lit : Lit ss from.t from.u
  pub after : NotAfter from.t from.u t u
  pub before : (r : Run) → RunFrom ss from r → NotAfter t u r.to.t r.to.u

-- a spot between two others that isn't lit
pub record Broken (ss : List (Option Shadow)) (t u v w : ℕ) : Type 0 where
  pub a : ℕ
  pub b : ℕ
  pub some : 0 < a + b
  pub from : NotAfter t u a b
  pub to : NotAfter a b v w
  pub dark : Lit ss a b → ⊥

pub record Coverage : Type 0 where
  pub covers : (ss : List (Option Shadow)) → AllOpen ss → (t u : ℕ) → 0 < t + u → Lit ss t u → Covered ss t u
  -- what is before a run is parted from it, and what is after
  pub parted_before : (ss : List (Option Shadow)) → AllOpen ss → (c : Spot) → Beginning ss c → (t u : ℕ) → 0 < t + u → Before t u c.t c.u → Broken ss t u c.t c.u
  pub parted_after : (ss : List (Option Shadow)) → AllOpen ss → (c : Spot) (r : Run) → RunFrom ss c r → (t u : ℕ) → 0 < t + u → Before r.to.t r.to.u t u → Broken ss r.to.t r.to.u t u
