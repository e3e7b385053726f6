use Rattle.motion.proofs.Judging.{bounded_holds}
use Rattle.motion.proofs.stretches.Stretch.ends_of.Goals as goal

pub wide_value-requires : goal.wide_value-requires
wide_value-requires c = search (bounded_holds, c.args.self.near)

pub wide_value-requires-2 : goal.wide_value-requires-2
wide_value-requires-2 c = search (bounded_holds, c.args.self.near)
