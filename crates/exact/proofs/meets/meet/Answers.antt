use Rattle.std.proofs.Common.{◌≡◌, ◌+◌, ◌<◌, nat_abs, ap, ◌∙◌, inl, inr, arith, w64, of_z}
use borrow.Author.Differences.{ints}
use Rattle.exact.proofs.Bounds.{not_above, kept}
use Rattle.exact.proofs.Crossings.{ends_parallel, ends_apart, ends_parts, ends_meet}
use Rattle.exact.proofs.meets.meet.Goals as goal
use Rattle.exact.proofs.meets.meet.Goals.{then-f-via-then-f, then-f-via-else-f+then-one_side, then-f-via-else-f+else-one_side+then-one_side-2}

pub returns-then-f : goal.returns-then-f
returns-then-f c =
    let s = c.args.s in
    let t = c.args.t in
    let f = c.against-f in
    let g = c.against-g in
    elim c.then-f.branch [
      | then-f-via-then-f w ↦ inl (ends_parallel s t f.result f.ensures (omega (arith, ints, w.if-f.true)))
      | then-f-via-else-f+then-one_side w ↦ inr (ends_apart s t f.result f.ensures (w.one_side.ensures.0 w.if-one_side.true))
      | then-f-via-else-f+else-one_side+then-one_side-2 w ↦ inr (λ q r l m. ends_apart t s g.result g.ensures (w.one_side-else-one_side.ensures.0 w.if-one_side-2.true) q r m l)
    ]

pub divided-requires : goal.divided-requires
divided-requires c =
    let f = c.against-f in
    let i : c.unsigned_abs.result ≡ nat_abs f.result.from = c.unsigned_abs.ensures.value ∙ ap nat_abs (kept w64 f.result.from f.ensures.near_from tt) in
    let j : c.unsigned_abs-2.result ≡ nat_abs f.result.to = c.unsigned_abs-2.ensures.value ∙ ap nat_abs (kept w64 f.result.to f.ensures.near_to tt) in
    let n = ends_parts c.args.s c.args.t f.result f.ensures (λ h. c.if-f.false (ap (of_z w64) h)) (not_above c.one_side.result _ c.one_side.ensures c.if-one_side.false) in
    record { some = omega (arith, n.0); parts = omega (arith, n.1) }

pub returns : goal.returns
returns c =
    let f = c.against-f in
    let g = c.against-g in
    let i : c.unsigned_abs.result ≡ nat_abs f.result.from = c.unsigned_abs.ensures.value ∙ ap nat_abs (kept w64 f.result.from f.ensures.near_from tt) in
    let j : c.unsigned_abs-2.result ≡ nat_abs f.result.to = c.unsigned_abs-2.ensures.value ∙ ap nat_abs (kept w64 f.result.to f.ensures.near_to tt) in
    let some : 0 < nat_abs f.result.from + nat_abs f.result.to = omega (arith, c.divided.ensures.bound.real, c.divided.ensures.w) in
    ends_meet c.args.s c.args.t f.result f.ensures g.result g.ensures (λ h. c.if-f.false (ap (of_z w64) h))
    (not_above c.one_side.result _ c.one_side.ensures c.if-one_side.false)
    (not_above c.one_side-else-one_side.result _ c.one_side-else-one_side.ensures c.if-one_side-2.false)
    c.divided.result (cc c.divided.ensures.x) (cc c.divided.ensures.y) (cc c.divided.ensures.w) some c.divided.ensures.bound
