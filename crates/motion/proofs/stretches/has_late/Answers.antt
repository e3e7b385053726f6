use Rattle.std.proofs.Common.{rules}
use Rattle.std.proofs.lemmas.Iterator.{YieldsList-from_slice}
use Rattle.motion.specs.Ends.{LatePair}
use Rattle.motion.proofs.Asking.{any_decides}
use Rattle.motion.proofs.stretches.has_late.Goals as goal

pub returns : goal.returns
returns c = any_decides (LatePair c.args.first) _ _ _ c.any.ensures.ran (YieldsList-from_slice c.args.sides.now cc) (λ x b q k. search rules)
