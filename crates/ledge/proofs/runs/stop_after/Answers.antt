use Rattle.std.proofs.Common.{rules}
use Rattle.std.proofs.lemmas.Iterator.{YieldsList-from_slice}
use Rattle.std.proofs.lemmas.Iterator.Consumers.{YieldsList-from_filter_map}
use Rattle.ledge.proofs.Running.{start, start_is, stop_by_fold}
use Rattle.ledge.proofs.runs.stop_after.Goals as goal

pub returns : goal.returns
returns c =
    let ss = c.args.shadows.now in
    stop_by_fold c.args.spot ss c.fold.ensures.ran
    (YieldsList-from_filter_map _ start (YieldsList-from_slice ss cc) c.filter_map.ensures.closure (λ x r q k. (search rules, start_is x.now r (λ e. search rules) (λ y e. search rules))))
    c.right_end.ensures (λ b x d f' k. (search rules, search rules))
