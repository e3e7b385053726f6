-- What is asked of the planner, and which tasks are taken. Assumes nothing: these are definitions.
use Rattle.std.specs.Prelude.{ℕ, ◌-◌, ◌^◌, ◌<◌, ◌≤◌, List, [], length, slice_index_or}
use Rattle.algebra.specs.Hall.{Place, Shape, Hall, Proper, corner}
use Rattle.algebra.specs.Near.{Near}

-- to bring the load of a hall from the start to the goal
pub record Task : Type 0 where
  pub hall : Hall
  pub start : Place
  pub goal : Place

-- at most eight corners, each from -m to m in x and y
pub record Sized (m : ℕ) (s : Shape) : Type 0 where
  pub few : length s ≤ 8
  pub near : (i : ℕ) → i < length s → Near m (corner s i).x × Near m (corner s i).y

-- x and y from -m to m, and w from 1 to m
pub record Bounded (m : ℕ) (p : Place) : Type 0 where
  pub x : Near m p.x
  pub y : Near m p.y
  pub real : 0 < p.w
  pub w : p.w ≤ m

-- the tasks that are taken
pub record Fit (t : Task) : Type 0 where
  pub wide : t.hall.wide ≤ 1000
  pub high : t.hall.high ≤ 1000
  pub load : Sized 200 t.hall.load
  pub few : length t.hall.things ≤ 40
  pub things : (k : ℕ) → k < length t.hall.things → Sized 1000 (slice_index_or t.hall.things k [])
  pub start : Bounded (2 ^ 20) t.start
  pub goal : Bounded (2 ^ 20) t.goal
  pub proper : Proper t.hall

-- the ways that are well formed: so many that their number has two bytes, each number below 2 ^ 60 in size
pub record Fitting (ps : List Place) : Type 0 where
  pub few : length ps < 2 ^ 16
  pub places : (k : ℕ) (d : Place) → k < length ps → Bounded (2 ^ 60 - 1) (slice_index_or ps k d)
