use Rattle.exact.specs.Wide.{thirds_value}
use Rattle.exact.proofs.Splits.{carried_ranked}
use Rattle.exact.proofs.wide.Thirds.sign.Goals as goal

pub returns : goal.returns
returns c = rw c.cmp.ensures (carried_ranked c.carried-number.result (thirds_value c.args.self) c.carried-number.ensures.parts c.carried-number.ensures.value)
