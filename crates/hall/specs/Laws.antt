-- What holds of the format as a whole: writing and reading undo each other. Assumes nothing: these are statements, proved in proofs/.
use Rattle.std.specs.Prelude.{◌≡◌, ℕ, ◌<◌, true, List, None}
use Rattle.std.specs.List.{AllByRecursion}
use Rattle.algebra.specs.Hall.{Place, Shape, Sound}
use Rattle.hall.specs.Tasks.{Task, Fit, Fitting}
use Rattle.hall.specs.Format.{task_bytes, task_at, task_fault, way_bytes, way_at, way_fault, sound}

-- a list of bytes
abbrev pub Bytes : List ℕ → Type 0
Bytes bs = AllByRecursion (λ b. b < 256) bs

-- a task that fits, once written, is taken, and read as the same task
abbrev pub TaskReadsBack : Type 0
TaskReadsBack = (t : Task) → Fit t → (task_fault (task_bytes t) ≡ None) × (task_at (task_bytes t) ≡ t)

-- bytes that are taken are those of the task that is read, and it fits
abbrev pub TaskWritesBack : Type 0
TaskWritesBack = (bs : List ℕ) → Bytes bs → task_fault bs ≡ None → (task_bytes (task_at bs) ≡ bs) × Fit (task_at bs)

-- the same of ways
abbrev pub WayReadsBack : Type 0
WayReadsBack = (ps : List Place) → Fitting ps → (way_fault (way_bytes ps) ≡ None) × (way_at (way_bytes ps) ≡ ps)

abbrev pub WayWritesBack : Type 0
WayWritesBack = (bs : List ℕ) → Bytes bs → way_fault bs ≡ None → (way_bytes (way_at bs) ≡ bs) × Fitting (way_at bs)

-- the test of a shape decides whether it is sound
abbrev pub SoundDecided : Type 0
SoundDecided = (s : Shape) → (sound s ≡ true → Sound s) × (Sound s → sound s ≡ true)
