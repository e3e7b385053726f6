use Rattle.obstacle.proofs.convex.cross_section.Goals as goal
use Rattle.obstacle.proofs.Section.{cross_section}

pub returns : goal.returns
returns c = cross_section
