-- A hall with its obstacles, as contracts see it. Assumes nothing: these are definitions.
use Rattle.std.specs.Prelude.{List}
use Rattle.algebra.specs.Hall.{Shape}
use Rattle.hall.specs.Tasks.{Task}

-- the task that is asked, and what its things grow to
pub record Ground : Type 0 where
  pub task : Task
  pub obstacles : List Shape
