use Rattle.std.proofs.Common.{rules}
use borrow.Author.Tests.{tests}
use Rattle.std.proofs.lemmas.Iterator.{IsFirst-from_position, YieldsList-from_slice}
use Rattle.hall.specs.Halls.{task_of}
use Rattle.algebra.specs.Hall.{Within}
use Rattle.exact.specs.Points.{place_of}
use Rattle.motion.proofs.Judging.{first_outside}
use Rattle.motion.proofs.checker.first_outside.Goals as goal

pub returns : goal.returns
returns c =
    let h = (task_of c.args.hall.now).hall in
    let ps = c.args.places.now in
    first_outside h ps c.position.result (IsFirst-from_position _ _ _ (λ p. Within h (place_of p) → ⊥) (λ p. Within h (place_of p)) c.position.ensures.ran (YieldsList-from_slice ps cc) (λ x r k. search (rules, tests)) (λ x r k. search (rules, tests)))
