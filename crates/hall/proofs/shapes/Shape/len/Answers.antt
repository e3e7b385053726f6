use Rattle.std.proofs.Common.{◌≤◌, length, arith}
use Rattle.hall.specs.Shapes.{shape_of}
use Rattle.hall.proofs.Kept.{length_kept, sound_kept}
use Rattle.hall.proofs.shapes.Shape.len.Goals as goal

pub returns-clause-bound : goal.returns-clause-bound
returns-clause-bound g c =
    let s = c.args.self.now in
    let few : s.count ≤ length s.corners = omega (arith, s.few) in
    (omega (arith, length_kept s.count s.corners few, (sound_kept (shape_of s) s.sound).many), omega (arith, s.few))
