use Rattle.std.proofs.Common.{rules}
use Rattle.std.proofs.lemmas.Iterator.{cases_from_all, YieldsList-from_slice}
use Rattle.ledge.specs.Runs.{Shaded}
use Rattle.ledge.proofs.Running.{lit_from, shaded_if, unshaded}
use Rattle.ledge.proofs.runs.is_lit.Goals as goal

pub returns : goal.returns
returns c =
    let t = c.args.spot.t in
    let u = c.args.spot.u in
    lit_from c.all.result c.args.shadows.now t u
    (cases_from_all _ _ _ (λ o. Shaded o t u → ⊥) (λ o. Shaded o t u) c.all.ensures.ran (YieldsList-from_slice c.args.shadows.now cc)
    (λ x q k. (search rules, unshaded x.now t u (λ y e. search rules))) (λ x q k. shaded_if x.now t u (λ e. search rules) (λ y e. search rules)))
