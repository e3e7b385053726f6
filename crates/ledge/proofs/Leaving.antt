-- No way leaves a closed set of ledges, since no steady stretch does. Assumes nothing.
use Rattle.std.proofs.Common.{[], ◌∷◌}
use Rattle.algebra.specs.Hall.{Way}
use Rattle.ledge.specs.Surfaces.{Cutting}
use Rattle.ledge.specs.Graph.{Floored, Steps, Keeps}

pub keeps : Cutting → Steps → Keeps
unfolding Way
keeps cutting steps h gs C o c s t [] a f = cutting h gs (Floored h gs C) (steps h gs C o c) s t a f
keeps cutting steps h gs C o c s t (p ∷ ps) a f = keeps cutting steps h gs C o c p t ps a.1 (cutting h gs (Floored h gs C) (steps h gs C o c) s p a.0 f)
