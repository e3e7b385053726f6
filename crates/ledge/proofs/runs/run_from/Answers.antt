use Rattle.std.proofs.Common.{refl}
use Rattle.ledge.proofs.Running.{stays_lit}
use Rattle.ledge.proofs.runs.run_from.Goals as goal

pub returns : goal.returns
returns c =
    let s = c.stop_after.ensures in
    record {
      from = refl;
      onward = s.onward;
      lit = λ t u p f g. stays_lit c.args.shadows.now c.args.spot c.stop_after.result s (c.is_lit.ensures.0 c.if-not-is_lit.false) t u f g;
      end = s.end;
    }
