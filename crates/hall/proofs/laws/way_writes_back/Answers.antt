use Rattle.hall.proofs.Roundtrip.{way_writes_back}
use Rattle.hall.proofs.laws.way_writes_back.Goals as goal

pub returns : goal.returns
returns c = way_writes_back
