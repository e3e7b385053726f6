use Rattle.exact.specs.Points.{corner_of}
use Rattle.ledge.proofs.Parting.{divides}
use Rattle.ledge.proofs.ledges.ledge_of.Goals as goal

pub returns : goal.returns
returns c =
    let a = corner_of c.args.surface.from in
    let b = corner_of c.args.surface.to in
    let r = c.args.run in
    let f = c.divided.ensures in
    let g = c.divided-2.ensures in
    record {
      near = record { from = f.bound; to = g.bound };
      from = divides a b c.divided.result r.from.t r.from.u f.x f.y f.w;
      to = divides a b c.divided-2.result r.to.t r.to.u g.x g.y g.w;
    }
