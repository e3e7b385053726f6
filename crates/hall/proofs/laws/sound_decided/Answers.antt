use Rattle.hall.proofs.Sounds.{sound_decided}
use Rattle.hall.proofs.laws.sound_decided.Goals as goal

pub returns : goal.returns
returns c = sound_decided
