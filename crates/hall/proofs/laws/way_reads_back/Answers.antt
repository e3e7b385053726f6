use Rattle.hall.proofs.Roundtrip.{way_reads_back}
use Rattle.hall.proofs.laws.way_reads_back.Goals as goal

pub returns : goal.returns
returns c = way_reads_back
