-- What the parts of the checker say. Assumes nothing: these are definitions.
use Rattle.std.specs.Prelude.{◌≡◌, ℕ, ◌<◌, List, [], length, Result, MatchResult, slice_index_or}
use Rattle.algebra.specs.Hall.{Place, Hall, Shape, Within}
use Rattle.hall.specs.declared.refusals.Refusal.{Refusal}
use Rattle.hall.specs.declared.refusals.Refusal.TheVariants.{Waypoint, Collision}
use Rattle.hall.specs.Tasks.{Task}
use Rattle.motion.specs.Driving.{Right, FirstWrong, place, ahead, stretches}
use Rattle.motion.specs.Stretch.{Enters, Passes}

-- all places are in the hall, or which is the first that isn't
abbrev pub AllInHall : Hall → List Place → Type 0
AllInHall h ps = (i : ℕ) → i < length ps → Within h (place ps i)

pub record FirstOutside (h : Hall) (ps : List Place) (k : ℕ) : Type 0 where
  pub within : k < length ps
  pub here : Within h (place ps k) → ⊥
  pub before : (i : ℕ) → i < k → Within h (place ps i)

-- all places are right, or which is the first that isn't
pub record WrongPlace (h : Hall) (s t : Place) (ps : List Place) (e : Refusal) : Type 0 where
  pub k : ℕ
  pub is : e ≡ Waypoint k
  pub first : FirstWrong h s t ps k

pub record AllRight (h : Hall) (s t : Place) (ps : List Place) : Type 0 where
  pub some : 0 < length ps
  pub right : (i : ℕ) → i < length ps → Right h s t ps i

abbrev pub PlacesJudged : Task → List Place → Result (Unit {0}) Refusal → Type 0
PlacesJudged t ps r = MatchResult r (λ _. AllRight t.hall t.start t.goal ps) (λ e. WrongPlace t.hall t.start t.goal ps e)

-- a stretch passes all obstacles, or which is the first that it enters
unfoldable pub PassesAll : List Shape → Place → Place → Type 0
PassesAll gs p q = (b : ℕ) → b < length gs → Passes (slice_index_or gs b []) p q

pub record EntersFirst (gs : List Shape) (p q : Place) (j : ℕ) : Type 0 where
  pub thing : j < length gs
  pub here : Enters (slice_index_or gs j []) p q
  pub on_it : (b : ℕ) → b < j → Passes (slice_index_or gs b []) p q

pub record Entered (gs : List Shape) (k : ℕ) (p q : Place) (e : Refusal) : Type 0 where
  pub j : ℕ
  pub is : e ≡ Collision k j
  pub first : EntersFirst gs p q j

-- all stretches pass, or which is the first that doesn't
unfoldable pub StretchPasses : List Shape → List Place → ℕ → Type 0
StretchPasses gs ps a = PassesAll gs (place ps a) (place ps (ahead (length ps) a))

pub record Blocked (gs : List Shape) (ps : List Place) (e : Refusal) : Type 0 where
  pub k : ℕ
  pub within : k < stretches (length ps)
  pub here : Entered gs k (place ps k) (place ps (ahead (length ps) k)) e
  pub before : (a : ℕ) → a < k → StretchPasses gs ps a

abbrev pub StretchesJudged : List Shape → List Place → Result (Unit {0}) Refusal → Type 0
StretchesJudged gs ps r = MatchResult r (λ _. (a : ℕ) → a < stretches (length ps) → StretchPasses gs ps a) (λ e. Blocked gs ps e)
