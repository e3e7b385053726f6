use Rattle.std.proofs.Common.{◌-◌, ◌/◌, arith}
use Rattle.obstacle.proofs.Freely.{shape_item}
use Rattle.ledge.proofs.Numbering.{unnumbered, numbered}
use Rattle.ledge.proofs.surfaces.surface_at.Goals as goal

pub returns-in_err-shape : goal.returns-in_err-shape
returns-in_err-shape c =
    let l = c.in_err-shape.ensures.lookup.3 in
    rw c.from_residual.ensures (unnumbered c.args.obstacles.now c.args.number c.if-number-eq0.false (λ h u. absurd (omega (arith, l, h))))

pub returns : goal.returns
returns c =
    let os = c.args.obstacles.now in
    let n = c.args.number in
    let x = c.in_ok-shape.shape.now in
    let l = c.in_ok-shape.ensures.lookup in
    rw c.then_some.ensures (numbered os n c.if-number-eq0.false x l.3.0 (shape_item os ((n - 1) / 16) x l.3.0 l.1) c.is_upper.result c.is_upper.ensures)
