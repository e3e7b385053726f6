-- What the reader promises. Assumes nothing: these are definitions.
use Rattle.std.specs.Prelude.{◌≡◌, ℕ, ◌⊎◌, List, Some, None, Ok, Err, Option, Result, ◌≢◌}
use Rattle.algebra.specs.Hall.{Shape, Sound}
use Rattle.hall.specs.declared.halls.Hall.{Hall}
use Rattle.hall.specs.declared.refusals.Refusal.{Refusal}
use Rattle.hall.specs.declared.refusals.Refusal.TheVariants.{Memory}
use Rattle.hall.specs.declared.routes.Route.{Route}
use Rattle.hall.specs.Format.{task_at, task_bytes, task_fault, way_at, way_bytes, way_fault}
use Rattle.hall.specs.Halls.{task_of}
use Rattle.hall.specs.Routes.{places_of}
use Rattle.hall.specs.Tasks.{Sized, Fit, Fitting}

-- a sound shape of numbers from -m to m
pub record Drawn (m : ℕ) (s : Shape) : Type 0 where
  pub sized : Sized m s
  pub sound : Sound s

module _ {X : Type 0} (fault : List ℕ → Option Refusal) (at : List ℕ → X) (Good : X → Type 0) (write : X → List ℕ) where
  -- bytes that are taken have no fault; they are those of the x that was read, and it is good
  pub record Taken (bs : List ℕ) (x : X) : Type 0 where
    pub faultless : fault bs ≡ None
    pub read : x ≡ at bs
    pub written : bs ≡ write x
    pub good : Good x

  -- bytes that are refused have this as their first fault, and are those of nothing that is good
  pub record Refused (bs : List ℕ) (e : Refusal) : Type 0 where
    pub first : fault bs ≡ Some e
    pub nothing : (x : X) → Good x → bs ≢ write x

  -- every list of bytes is taken or refused; only where it would be taken can memory be wanting
  abbrev pub Read : {V : Type 0} → (V → X) → List ℕ → Result V Refusal → Type 0
  Read of bs (Ok v) = Taken bs (of v)
  Read of bs (Err e) = Refused bs e ⊎ ((e ≡ Memory) × (fault bs ≡ None))

abbrev pub TaskRead : List ℕ → Result Hall Refusal → Type 0
TaskRead bs r = Read task_fault task_at Fit task_bytes task_of bs r

abbrev pub WayRead : List ℕ → Result Route Refusal → Type 0
WayRead bs r = Read way_fault way_at Fitting way_bytes places_of bs r
