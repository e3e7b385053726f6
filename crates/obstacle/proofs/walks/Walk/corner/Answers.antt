use Rattle.hall.specs.Shapes.{shape_of}
use Rattle.obstacle.proofs.GrowBounds.{near_read}
use Rattle.obstacle.proofs.walks.Walk.corner.Goals as goal

pub returns-clause-bound : goal.returns-clause-bound
returns-clause-bound g c =
    let w = c.args.self.now in
    near_read 1000 (shape_of w.shape.now) w.near w.at w.here c.corner.result c.corner.ensures.value
