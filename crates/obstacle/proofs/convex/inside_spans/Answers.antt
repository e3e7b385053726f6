use Rattle.obstacle.proofs.convex.inside_spans.Goals as goal
use Rattle.obstacle.proofs.Section.{inside_spans}

pub returns : goal.returns
returns c = inside_spans
