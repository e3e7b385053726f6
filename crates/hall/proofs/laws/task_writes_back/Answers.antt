use Rattle.hall.proofs.Roundtrip.{task_writes_back}
use Rattle.hall.proofs.laws.task_writes_back.Goals as goal

pub returns : goal.returns
returns c = task_writes_back
