use Rattle.std.proofs.Common.{◌<◌, ◌*ℤ◌, refl, arith, w64, to_z, of_z}
use Rattle.algebra.proofs.Ranges.{knows, by_size, by_value}
use Rattle.std.proofs.lemmas.Cmp.{int_ranked}
use Rattle.exact.proofs.Bounds.{ranked_at, ranked_map}
use Rattle.exact.proofs.Heights.{falls_lower, falls_level}
use Rattle.exact.proofs.orders.height_order.Goals as goal

pub overflow_mul-low : goal.overflow_mul-low
overflow_mul-low c = by_size (search (knows, c.fall-f.ensures.near_run, c.fall-g.ensures.near_foot) depth 60 fits 99999) tt

pub overflow_mul-high : goal.overflow_mul-high
overflow_mul-high c = by_size (search (knows, c.fall-f.ensures.near_foot, c.fall-g.ensures.near_run) depth 60 fits 99999) tt

pub returns : goal.returns
returns c =
    let s = c.args.s in
    let t = c.args.t in
    let here = c.args.here in
    let f = c.fall-f in
    let g = c.fall-g in
    let m = f.result in
    let n = g.result in
    let w : 0 < here.w = omega (arith, c.requires.place.real) in
    ranked_map c.cmp.result
    (ranked_at c.cmp.result (to_z w64 (of_z w64 (to_z w64 (of_z w64 n.foot) *ℤ to_z w64 (of_z w64 m.run)))) (to_z w64 (of_z w64 (to_z w64 (of_z w64 m.foot) *ℤ to_z w64 (of_z w64 n.run)))) (n.foot *ℤ m.run) (m.foot *ℤ n.run) (int_ranked _ _ _ c.cmp.ensures)
    (by_value (search (knows, g.ensures.near_foot, f.ensures.near_run) depth 60 fits 99999) refl)
    (by_value (search (knows, f.ensures.near_foot, g.ensures.near_run) depth 60 fits 99999) refl))
    (falls_lower s t here m n f.ensures g.ensures w)
    (falls_level s t here m n f.ensures g.ensures w)
    (falls_lower t s here n m g.ensures f.ensures w)
