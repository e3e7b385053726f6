use Rattle.std.proofs.Common.{refl}
use Rattle.exact.specs.Points.{place_of}
use Rattle.ledge.proofs.Landing.{bottom_up}
use Rattle.ledge.proofs.floors.Plumb.is_held_by.Goals as goal

pub returns-in-Bottom : goal.returns-in-Bottom
returns-in-Bottom c =
    let plumb = c.args.self.now in
    (λ _. bottom_up plumb.site.now.obstacles c.args.surface (place_of plumb.upright.p) plumb.site.now.task.hall c.in-Bottom.is plumb.within, λ _. refl)
