-- The halls of the code as tasks of the definitions. Assumes nothing: these are definitions.
use Rattle.std.specs.Prelude.{map}
use Rattle.std.specs.BTreeMap.{values}
use Rattle.exact.specs.Points.{place_of}
use Rattle.hall.specs.declared.halls.Hall.{Hall}
use Rattle.hall.specs.Shapes.{shape_of}
use Rattle.hall.specs.Tasks.{Task}

-- the things in the order of their numbers
abbrev pub task_of : Hall → Task
task_of h =
    record {
      hall = record { load = shape_of h.load; things = map shape_of (values h.things); wide = h.wide; high = h.high };
      start = place_of h.start;
      goal = place_of h.goal;
    }
