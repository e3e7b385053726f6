use Rattle.std.proofs.Common.{◌≡◌, ◌+◌, ◌*◌, ◌≤◌, map}
use Rattle.std.specs.BTreeMap.{values, IsOrdered}
use Rattle.std.specs.Ordering.{nat_cmp}
use Rattle.hall.specs.Format.{past, shapes_at}
use Rattle.hall.specs.Shapes.{shape_of}
use Rattle.hall.proofs.Numbered.{Below}
use Rattle.hall.proofs.audit.Layout.read_things.Given as goal

-- so many things are there, by their numbers, and the next begins at `thing`
abbrev pub invariant-loop-k : goal.invariant-loop-k
invariant-loop-k l =
    (l.thing.bytes ≡ l.self.bytes) × (l.thing.at ≡ past l.k l.self.bytes.now (l.self.count_from + 1)) × (l.thing.at ≤ (l.self.count_from + 1) + 1021 * l.k)
    × Below l.k l.things.entries × IsOrdered nat_cmp l.things × (map shape_of (values l.things) ≡ shapes_at l.k l.self.bytes.now (l.self.count_from + 1))
