use Rattle.std.proofs.Common.{refl, rules}
use borrow.Author.Tests.{tests}
use Rattle.exact.specs.Points.{corner_of}
use Rattle.hall.specs.Shapes.{shape_of}
use Rattle.hall.specs.Sides.{sides_left}
use Rattle.ledge.proofs.Shading.{cast_by}
use Rattle.ledge.proofs.shadows.cast.Goals as goal

pub returns : goal.returns
returns g c =
    let s = c.args.surface in
    cast_by (shape_of c.args.shape.now) (corner_of s.from) (corner_of s.to) _ s refl refl sides_left _ _ (λ s x v h k. (search (rules, tests), search rules)) _ c.try_fold.new.self c.whole.result c.try_fold.result
    c.whole.ensures.from c.whole.ensures.to (search rules) c.try_fold.ensures.ran
