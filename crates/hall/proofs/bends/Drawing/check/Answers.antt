use Rattle.std.proofs.Common.{length, refl, rules}
use Rattle.hall.specs.Format.{first_below, right_at, again_at}
use Rattle.hall.specs.Outlines.{outline_of, Tells}
use Rattle.hall.proofs.Each.{first_of_each}
use Rattle.hall.proofs.Faults.{breaks_off, goes_on}
use Rattle.hall.proofs.Outlines.{left_at, bend_fault_outline}
use Rattle.hall.proofs.bends.Drawing.check.Goals as goal
use Rattle.hall.proofs.bends.Drawing.check.Goals.{After-try_for_each, After-try_for_each-2, After-try_for_each-3}

left : (c : After-try_for_each) → Tells c.try_for_each.result (first_below (length c.args.self.now.corners.now) (left_at c.args.self.now.corners.now c.args.self.now.from))
left c =
    let d = c.args.self.now in
    first_of_each _ _ (left_at d.corners.now d.from) (λ k v q h. search rules) _ _ c.try_for_each.result refl c.try_for_each.ensures.ran

right : (c : After-try_for_each-2) → Tells c.try_for_each-2.result (first_below (length c.args.self.now.corners.now) (right_at (outline_of c.args.self.now.corners.now) c.args.self.now.from))
right c =
    let d = c.args.self.now in
    first_of_each _ _ (right_at (outline_of d.corners.now) d.from) (λ k v q h. search rules) _ _ c.try_for_each-2.result refl c.try_for_each-2.ensures.ran

pub returns-in_err-try_for_each : goal.returns-in_err-try_for_each
returns-in_err-try_for_each c =
    rw bend_fault_outline
    (breaks_off c.try_for_each.result _ _ _ (left (goal.at.returns-in_err-try_for_each c).After-try_for_each) _ c.in_err-try_for_each.was c.from_residual.ensures.1)

pub returns-in_err-try_for_each-2 : goal.returns-in_err-try_for_each-2
returns-in_err-try_for_each-2 c =
    rw bend_fault_outline
    (goes_on c.try_for_each.result _ _ _ (left (goal.at.returns-in_err-try_for_each-2 c).After-try_for_each) _ c.in_ok-try_for_each.was
    (breaks_off c.try_for_each-2.result _ _ _ (right (goal.at.returns-in_err-try_for_each-2 c).After-try_for_each-2) _ c.in_err-try_for_each-2.was
    c.from_residual-in_err-try_for_each-2.ensures.1))

pub returns : goal.returns
returns c =
    let d = c.args.self.now in
    rw bend_fault_outline
    (goes_on c.try_for_each.result _ _ _ (left (goal.at.returns c).After-try_for_each) _ c.in_ok-try_for_each.was
    (goes_on c.try_for_each-2.result _ _ _ (right (goal.at.returns c).After-try_for_each-2) _ c.in_ok-try_for_each-2.was
    (first_of_each _ _ (again_at (outline_of d.corners.now) d.from) (λ k v q h. search rules) _ _ c.try_for_each-3.result refl c.try_for_each-3.ensures.ran)))
