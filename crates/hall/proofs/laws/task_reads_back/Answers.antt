use Rattle.hall.proofs.Roundtrip.{task_reads_back}
use Rattle.hall.proofs.laws.task_reads_back.Goals as goal

pub returns : goal.returns
returns c = task_reads_back
