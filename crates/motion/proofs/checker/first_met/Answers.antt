use Rattle.std.proofs.Common.{rules}
use Rattle.std.proofs.iter.runs.Made.{chains}
use Rattle.exact.specs.Points.{place_of}
use borrow.Author.Tests.{tests}
use Rattle.hall.specs.Shapes.{shape_of}
use Rattle.motion.specs.Stretch.{Passes}
use Rattle.motion.proofs.Asking.{first_from_run}
use Rattle.motion.proofs.Judging.{bounded_holds, first_entered}
use Rattle.motion.proofs.checker.first_met.Goals as goal

pub returns : goal.returns
returns c =
    let p = place_of c.args.stretch.from in
    let q = place_of c.args.stretch.to in
    let os = c.args.obstacles.now in
    first_entered os p q (bounded_holds _ _ c.args.stretch.near.0).real (bounded_holds _ _ c.args.stretch.near.1).real _
    (first_from_run os (λ o. Passes (shape_of o) p q → ⊥) (λ o. Passes (shape_of o) p q) c.position.ensures.runs.0 (search (rules, chains)) (search (rules, chains)) (search (rules, chains)) (search (rules, tests)) (λ x k. search (rules, tests)) (λ x k. search (rules, tests)) c.position.result _ c.position.ensures.runs.2 (search rules))
