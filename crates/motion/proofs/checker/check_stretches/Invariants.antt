use Rattle.std.proofs.Common.{ℕ, ◌<◌, map, length}
use Rattle.exact.specs.Points.{place_of}
use Rattle.hall.specs.Shapes.{shape_of}
use Rattle.motion.specs.Checking.{StretchPasses}
use Rattle.motion.proofs.Stepping.{Along}
use Rattle.motion.proofs.checker.check_stretches.Given as goal

abbrev pub invariant-loop-stretch : goal.invariant-loop-stretch
invariant-loop-stretch l =
    record {
      next : (goal.iterator-loop-stretch).can_next l.stretch-iterator;
      finite : (goal.iterator-loop-stretch).is_finite l.stretch-iterator;
      along : Along l.places l.initial.stretch-iterator;
      passed : (a : ℕ) → a < length l.yielded → StretchPasses (map shape_of l.obstacles) (map place_of l.places) a;
    }
