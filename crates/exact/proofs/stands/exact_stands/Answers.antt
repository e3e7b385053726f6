use Rattle.exact.proofs.Sizes.{stands}
use Rattle.exact.proofs.stands.exact_stands.Goals as goal

pub returns : goal.returns
returns c = stands
