use Rattle.std.proofs.Common.{rules}
use Rattle.std.specs.List.{Any}
use Rattle.std.proofs.lemmas.Iterator.{YieldsList-from_slice}
use Rattle.motion.specs.Ends.{LatePair}
use Rattle.motion.proofs.Asking.{any_decides}
use Rattle.motion.proofs.stretches.has_parted.Goals as goal

pub returns : goal.returns
returns c = any_decides (λ e. Any (LatePair e) c.args.sides.now) _ _ _ c.any.ensures.ran (YieldsList-from_slice c.args.sides.now cc) (λ x b q k. search rules)
