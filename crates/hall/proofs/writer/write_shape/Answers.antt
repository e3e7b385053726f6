use Rattle.std.proofs.Common.{◌++◌, vec_items, ap, ◌∙◌, rules}
use Rattle.std.proofs.lemmas.List.{take_all}
use Rattle.std.specs.List.{flat_map}
use Rattle.exact.specs.Points.{corner_of, zero}
use Rattle.hall.specs.Format.{corner_bytes}
use Rattle.hall.specs.Outlines.{outline_of}
use Rattle.hall.proofs.Kept.{near_each}
use Rattle.hall.proofs.Written.{joined_step, shape_written}
use Rattle.hall.proofs.writer.write_shape.Goals as goal

pub write_corner-requires : goal.write_corner-requires
write_corner-requires c = near_each 2047 c.corners-corner-items.result.now c.corners-corner-items.ensures.near c.loop-corner.corner-index c.loop-corner-test.true

pub loop-corner-preserved : goal.loop-corner-preserved
loop-corner-preserved c =
    joined_step corner_bytes corner_of c.corners-corner-items.result.now c.loop-corner.corner-index zero (vec_items c.push.new.self) _ _
    c.loop-corner-test.true c.loop-corner.invariant c.in_ok-write_corner.ensures

pub returns : goal.returns
returns c =
    let s = c.args.shape.now in
    let cs = c.corners-corner-items in
    let all = take_all c.loop-corner.corner-index cs.result.now c.loop-corner-test.false in
    shape_written s.corners s.count (vec_items c.args.out.now) {between = vec_items c.push.new.self} (search rules)
    c.in_ok-push.ensures.items
    (c.loop-corner.invariant ∙ ap (λ l. vec_items c.push.new.self ++ flat_map corner_bytes (outline_of l)) all ∙ ap (λ l. vec_items c.push.new.self ++ flat_map corner_bytes l) cs.ensures.value)
