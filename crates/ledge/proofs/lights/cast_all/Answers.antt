use Rattle.std.proofs.Common.{◌≡◌, ℕ, ◌+◌, ◌≤◌, length, map, subst, arith}
use Rattle.std.proofs.lemmas.List.{length-map}
use Rattle.exact.specs.Points.{corner_of}
use Rattle.hall.specs.Halls.{task_of}
use Rattle.hall.specs.Shapes.{shape_of}
use Rattle.ledge.proofs.Lighting.{Cast, cast_none, cast_more, cast_lights}
use Rattle.ledge.proofs.lights.cast_all.Goals as goal

pub loop-j-init : goal.loop-j-init
loop-j-init c = cast_none (task_of c.args.hall.now).hall (map shape_of c.args.obstacles.now) (corner_of c.args.surface.from) (corner_of c.args.surface.to)

pub loop-j-preserved : goal.loop-j-preserved
loop-j-preserved c =
    cast_more (task_of c.args.hall.now).hall (map shape_of c.args.obstacles.now) (corner_of c.args.surface.from) (corner_of c.args.surface.to)
    c.loop-j.j c.loop-j.shadows c.shadow_of.result c.loop-j.invariant (omega arith) (c.shadow_of.ensures.bar (omega (arith, length-map c.args.obstacles.now shape_of)))

pub returns : goal.returns
returns c =
    let os = c.args.obstacles.now in
    let h = (task_of c.args.hall.now).hall in
    let gs = map shape_of os in
    let a = corner_of c.args.surface.from in
    let b = corner_of c.args.surface.to in
    let l : length gs ≤ 40 = omega (arith, length-map os shape_of) in
    let n : c.loop-j.j ≡ 4 + length gs = omega (arith, length-map os shape_of) in
    cast_lights h gs a b c.loop-j.shadows l (subst (λ (k : ℕ). Cast h gs a b k c.loop-j.shadows) n c.loop-j.invariant)
