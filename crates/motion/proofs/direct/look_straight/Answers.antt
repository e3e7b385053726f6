use Rattle.motion.proofs.direct.look_straight.Goals as goal

pub returns : goal.returns
returns c = rw c.new.ensures.task at c.look_among.ensures
