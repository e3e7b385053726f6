use Rattle.std.proofs.Common.{◌∙◌}
use Rattle.hall.specs.Format.{way_fault}
use Rattle.hall.proofs.Faults.{some_then, none_then, tells_second, exits}
use Rattle.hall.proofs.audit.check_way.Goals as goal

pub returns-in_err-demand : goal.returns-in_err-demand
unfolding way_fault
returns-in_err-demand c = exits _ _ _ c.from_residual.ensures.1 (some_then _ _ _ (simp c.u16-n.ensures at c.in_err-demand.ensures))

pub returns-in_err-check_places : goal.returns-in_err-check_places
unfolding way_fault
returns-in_err-check_places c =
    exits _ _ _ c.from_residual-in_err-check_places.ensures.1
    (none_then _ _ (simp c.u16-n.ensures at c.in_ok-demand.ensures) ∙ some_then _ _ _ (simp c.u16-n.ensures at c.in_err-check_places.ensures))

pub returns : goal.returns
unfolding way_fault
returns c =
    tells_second _ _ _ (simp c.u16-n.ensures at c.in_ok-demand.ensures)
    (tells_second _ _ _ (simp c.u16-n.ensures at c.in_ok-check_places.ensures) (simp c.u16-n.ensures at c.demand-2.ensures))
