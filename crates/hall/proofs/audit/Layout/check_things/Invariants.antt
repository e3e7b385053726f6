use Rattle.std.proofs.Common.{◌≡◌, ◌+◌, ◌*◌, ◌≤◌, None}
use Rattle.hall.specs.Format.{past, first_below, shape_fault}
use Rattle.hall.proofs.audit.Layout.check_things.Given as goal

abbrev pub invariant-loop : goal.invariant-loop
invariant-loop l =
    (l.thing.bytes ≡ l.self.bytes) × (l.thing.at ≡ past l.counter l.self.bytes.now (l.self.count_from + 1)) × (l.thing.at ≤ (l.self.count_from + 1) + 1021 * l.counter)
    × (first_below l.counter (λ k. shape_fault 1000 l.self.bytes.now (past k l.self.bytes.now (l.self.count_from + 1))) ≡ None)
