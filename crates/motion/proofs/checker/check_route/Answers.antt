use Rattle.std.proofs.Common.{sym}
use Rattle.motion.proofs.Judgement.{judged_route, judged_wrong, exactly}
use Rattle.motion.proofs.checker.check_route.Goals as goal

pub returns-in_err-check_places : goal.returns-in_err-check_places
returns-in_err-check_places c =
    let j = judged_wrong _ _ _ _ c.from_residual.result _ c.from_residual.ensures.1 (rw c.places-places.ensures at c.in_err-check_places.ensures) in
    record { judged = j; exact = exactly c.args.hall.now c.args.route.now c.from_residual.result j }

pub returns : goal.returns
returns c =
    let a = rw c.places-places.ensures at c.in_ok-check_places.ensures in
    let s = rw c.places-places.ensures at c.check_stretches.ensures in
    let o = rw (sym c.as_slice.ensures.value) at c.in_ok-obstacles.ensures in
    let j = judged_route c.args.hall.now c.args.route.now _ o c.check_stretches.result a s in
    record { judged = j; exact = exactly c.args.hall.now c.args.route.now c.check_stretches.result j }
