use Rattle.std.proofs.Common.{◌<◌, ◌≤◌, length, arith}
use Rattle.hall.proofs.Kept.{length_kept, near_kept}
use Rattle.hall.proofs.shapes.Shape.corner.Goals as goal

pub returns-clause-bound : goal.returns-clause-bound
returns-clause-bound g c =
    let s = c.args.self.now in
    let few : s.count ≤ length s.corners = omega (arith, s.few) in
    let h : c.args.i < s.count = omega (arith, c.requires, length_kept s.count s.corners few) in
    near_kept s.count s.corners few 2047 s.near c.args.i h
