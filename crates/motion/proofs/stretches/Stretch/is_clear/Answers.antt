use Rattle.std.proofs.Common.{◌<◌, length, refl, ◌∙◌, arith}
use Rattle.std.proofs.lemmas.List.{length-replicate, length-set}
use Rattle.std.proofs.lemmas.Bool.Decides.{not_from_Decides}
use Rattle.exact.specs.Points.{place_of}
use Rattle.hall.specs.Shapes.{shape_of}
use Rattle.motion.proofs.Valued.{passed, told, ends_found, found_none, found_more}
use Rattle.motion.proofs.stretches.Stretch.is_clear.Goals as goal

pub loop-i-init : goal.loop-i-init
loop-i-init g c = (found_none _ _ _ _, length-replicate _ _)

pub returns-then-is_outside : goal.returns-then-is_outside
returns-then-is_outside g c =
    let s = shape_of c.args.shape.now in
    let t = c.args.self in
    let low = c.is_outside.ensures.0 c.if-is_outside.true in
    let f = ends_found s (place_of t.from) (place_of t.to) c.loop-i.i _ _ c.ends_of-found.result c.side.ensures.from c.side.ensures.to c.ends_of-found.ensures.from c.ends_of-found.ensures.to in
    (λ e. (passed s t).outside (record { i = c.loop-i.i; within = omega (arith, c.loop-i-test.true, c.len-i-end.ensures.value); from = rw f.from at low.from; to = rw f.to at low.to }), λ h. refl)

pub loop-i-preserved : goal.loop-i-preserved
loop-i-preserved g c =
    let s = shape_of c.args.shape.now in
    let t = c.args.self in
    let i = c.loop-i.i in
    let f = ends_found s (place_of t.from) (place_of t.to) i _ _ c.ends_of-found.result c.side.ensures.from c.side.ensures.to c.ends_of-found.ensures.from c.ends_of-found.ensures.to in
    let l : i < length c.loop-i.ends = omega (arith, c.loop-i.invariant.1, c.len-i-end.ensures.bound, c.loop-i-test.true) in
    (found_more s _ _ c.loop-i.ends i _ l c.loop-i.invariant.0 f (not_from_Decides c.is_outside.result c.is_outside.ensures c.if-is_outside.false), length-set _ i _ ∙ c.loop-i.invariant.1)

pub returns : goal.returns
returns g c =
    let v = c.loop-i.invariant.0 in
    let n = c.len-i-end.ensures.value in
    let k = told c.args.shape.now c.args.self c.len.result c.loop-i.ends c.loop-i.invariant.1 c.len.ensures.value (λ i e l. v.each i e (omega (arith, l, n, c.loop-i-test.false))) in
    (λ e. k.late (c.has_parted.ensures.0 e), λ h. c.has_parted.ensures.1 (k.shown h (λ o. v.none o (omega (arith, o.within, n, c.loop-i-test.false)))))
