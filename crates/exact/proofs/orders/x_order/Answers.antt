use Rattle.std.proofs.Common.{pos, ◌*ℤ◌, refl, w64, to_z, of_z}
use Rattle.algebra.proofs.Ranges.{knows, by_size, by_value}
use Rattle.std.proofs.lemmas.Cmp.{int_ranked}
use Rattle.exact.proofs.Bounds.{ranked_at}
use Rattle.exact.proofs.orders.x_order.Goals as goal

pub overflow_mul-first : goal.overflow_mul-first
overflow_mul-first c = by_size (search (knows, c.requires.first.x, c.requires.second.most) depth 60 fits 99999) tt

pub overflow_mul-second : goal.overflow_mul-second
overflow_mul-second c = by_size (search (knows, c.requires.second.x, c.requires.first.most) depth 60 fits 99999) tt

pub returns : goal.returns
returns c =
    let p = c.args.p in
    let q = c.args.q in
    ranked_at c.cmp.result (to_z w64 (of_z w64 (to_z w64 (of_z w64 p.x) *ℤ to_z w64 q.w))) (to_z w64 (of_z w64 (to_z w64 (of_z w64 q.x) *ℤ to_z w64 p.w))) (p.x *ℤ pos q.w) (q.x *ℤ pos p.w) (int_ranked _ _ _ c.cmp.ensures)
    (by_value (search (knows, c.requires.first.x, c.requires.second.most) depth 60 fits 99999) refl)
    (by_value (search (knows, c.requires.second.x, c.requires.first.most) depth 60 fits 99999) refl)
