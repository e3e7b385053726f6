use Rattle.std.proofs.Common.{◌+◌, ◌-◌, ◌*◌, ◌≤◌, length, arith}
use borrow.Rule.Slice.PartMut.{mid_len}
use Rattle.std.proofs.Math.Nat.{mul-le-mul_right}
use Rattle.ledge.specs.Lines.{surface_of}
use Rattle.ledge.proofs.Mapping.{mapped_none, mapped_pass, mapped_more, mapped_all}
use Rattle.ledge.proofs.Numbering.{seen, seen_count, seen_sides}
use Rattle.ledge.proofs.ledges.write_map.Goals as goal
use Rattle.ledge.proofs.ledges.write_map.Goals.{in-Some, in_default}

pub loop-number-init : goal.loop-number-init
loop-number-init c = mapped_none c.args.site.now.task.hall c.args.site.now.obstacles _ c.args.words.now

pub slice_bounds-write_ledges-end : goal.slice_bounds-write_ledges-end
slice_bounds-write_ledges-end c =
    let n = c.loop-number.number in
    let m = length c.site.inside.obstacles.now + 5 in
    let r = rw (← seen_count _ _ _ c.site.view_is) at c.requires in
    let d : n + 1 ≤ 16 * length c.site.inside.obstacles.now + 1 = omega arith in
    let b = mul-le-mul_right m d in
    let e : (n + 1) * (6 * m) ≤ length c.loop-number.words = omega (arith, b, r, c.loop-number.auto.words) in
    e

pub loop-number-preserved : goal.loop-number-preserved
loop-number-preserved c =
    let s = c.args.site.now in
    let os = c.site.inside.obstacles.now in
    let n = c.loop-number.number in
    let m = length os + 5 in
    let u = seen _ _ _ c.site.view_is in
    let q = seen_count _ _ _ c.site.view_is in
    let r = rw (← q) at c.requires in
    let d : n + 1 ≤ 16 * length os + 1 = omega arith in
    let b = mul-le-mul_right m d in
    let e : n * (6 * m) ≤ length c.loop-number.words = omega (arith, b, r, c.loop-number.auto.words) in
    let g : (n + 1) * (6 * m) ≤ length c.loop-number.words = omega (arith, b, r, c.loop-number.auto.words) in
    elim c.match-surface_at.branch [
      | in-Some w ↦
          let f : 6 * m ≤ length w.write_ledges.new.parts = omega (arith, w.write_ledges.auto.parts, mid_len (n * (6 * m)) ((n + 1) * (6 * m)) c.loop-number.words g) in
          rw w.words-is
          (mapped_more s.task.hall s.obstacles m (seen_sides _ _ _ c.site.view_is) n ((n + 1) * (6 * m) - n * (6 * m)) c.loop-number.words w.write_ledges.new.parts (surface_of w.in-Some.surface) e f
          c.loop-number.invariant (rw u at w.in-Some.ensures) (rw (← q) at w.write_ledges.ensures))
      | in_default w ↦ rw w.words-is (mapped_pass s.task.hall s.obstacles m n c.loop-number.words c.loop-number.invariant (rw u at w.in_default.ensures))
    ]

pub returns : goal.returns
returns c =
    let s = c.args.site.now in
    let os = c.site.inside.obstacles.now in
    let q = seen_count _ _ _ c.site.view_is in
    rw (← q) (mapped_all s.task.hall s.obstacles (length os + 5) (seen_sides _ _ _ c.site.view_is) c.loop-number.number c.loop-number.words (omega (arith, q)) c.loop-number.invariant)
