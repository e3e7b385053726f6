use Rattle.std.proofs.Common.{◌≡◌, ◌∙◌, map, w64, rules}
use Rattle.exact.proofs.Bounds.{kept}
use Rattle.exact.specs.Points.{corner_of}
use Rattle.hall.specs.Halls.{task_of}
use Rattle.hall.specs.Shapes.{shape_of}
use Rattle.ledge.specs.Lights.{wall_number}
use Rattle.ledge.proofs.Lighting.{past_near, wall_bars}
use Rattle.ledge.proofs.lights.shadow_of.Goals as goal

pub invariant_of-cut : goal.invariant_of-cut
invariant_of-cut c =
    let h = (task_of c.args.hall.now).hall in
    let s = c.args.surface in
    let w = c.in-Wall.wall in
    let m = c.beyond.ensures in
    let n = c.beyond-in-Wall.ensures in
    let i = kept w64 c.beyond.result m.bound tt in
    let j = kept w64 c.beyond-in-Wall.result n.bound tt in
    record { gap = rw (i, j, m.value, n.value) (past_near h w s.from s.to s.starts s.ends) }

pub returns-in-Wall-clause-bar : goal.returns-in-Wall-clause-bar
returns-in-Wall-clause-bar c l =
    let h = (task_of c.args.hall.now).hall in
    let s = c.args.surface in
    let w = c.in-Wall.wall in
    let m = c.beyond.ensures in
    let n = c.beyond-in-Wall.ensures in
    let is : c.args.j ≡ wall_number w = search rules in
    wall_bars h (map shape_of c.args.obstacles.now) (corner_of s.from) (corner_of s.to) w c.whole.result _ c.cut.result c.cut.ensures c.whole.ensures.from c.whole.ensures.to
    (kept w64 _ m.bound tt ∙ m.value) (kept w64 _ n.bound tt ∙ n.value) c.args.j is
