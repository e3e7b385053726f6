use Rattle.std.proofs.Common.{refl}
use Rattle.algebra.proofs.Ranges.{knows, by_value}
use Rattle.obstacle.proofs.Strict.{corner_same}
use Rattle.obstacle.proofs.growing.less.Goals as goal

pub returns-clause-value : goal.returns-clause-value
returns-clause-value c =
    let a = c.requires.first in
    let b = c.requires.second in
    corner_same (by_value (search (knows, a.x, b.x) depth 60 fits 99999) refl) (by_value (search (knows, a.y, b.y) depth 60 fits 99999) refl)
