-- a number of 64 bits with a sign, times one without, fits 128 bits
use Rattle.std.proofs.Common.{◌≡◌, ◌-◌, ◌^◌, ◌≤◌, pos, ◌*ℤ◌, sym, refl, ◌∙◌, w64, SFits, to_z, of_z, rules}
use mir.Syntax.{w128}
use Rattle.algebra.proofs.Ranges.{knows, by_size, by_value}
use Rattle.exact.proofs.Bounds.{same_bits, equal_bits}
use Rattle.exact.proofs.orders.same_place.Goals as goal

pub overflow_mul-p : goal.overflow_mul-p
overflow_mul-p c =
    let px : SFits w64 c.args.p.x = search rules in
    let qw : c.args.q.w ≤ 2 ^ 64 - 1 = search rules in
    by_size (search (knows, px, qw) depth 60 fits 99999) tt

pub overflow_mul-q : goal.overflow_mul-q
overflow_mul-q c =
    let qx : SFits w64 c.args.q.x = search rules in
    let pw : c.args.p.w ≤ 2 ^ 64 - 1 = search rules in
    by_size (search (knows, qx, pw) depth 60 fits 99999) tt

pub overflow_mul-result : goal.overflow_mul-result
overflow_mul-result c =
    let py : SFits w64 c.args.p.y = search rules in
    let qw : c.args.q.w ≤ 2 ^ 64 - 1 = search rules in
    by_size (search (knows, py, qw) depth 60 fits 99999) tt

pub overflow_mul-result-then-p-w : goal.overflow_mul-result-then-p-w
overflow_mul-result-then-p-w c =
    let qy : SFits w64 c.args.q.y = search rules in
    let pw : c.args.p.w ≤ 2 ^ 64 - 1 = search rules in
    by_size (search (knows, qy, pw) depth 60 fits 99999) tt

pub returns-then-p-w : goal.returns-then-p-w
returns-then-p-w c =
    let p = c.args.p in
    let q = c.args.q in
    let px : SFits w64 p.x = search rules in
    let py : SFits w64 p.y = search rules in
    let pw : p.w ≤ 2 ^ 64 - 1 = search rules in
    let qx : SFits w64 q.x = search rules in
    let qy : SFits w64 q.y = search rules in
    let qw : q.w ≤ 2 ^ 64 - 1 = search rules in
    let xs : p.x *ℤ pos q.w ≡ q.x *ℤ pos p.w =
    sym (by_value (search (knows, px, qw) depth 60 fits 99999) refl) ∙ same_bits w128 (to_z w128 (of_z w128 (to_z w64 (of_z w64 p.x))) *ℤ to_z w128 q.w) (to_z w128 (of_z w128 (to_z w64 (of_z w64 q.x))) *ℤ to_z w128 p.w) (by_size (search (knows, px, qw) depth 60 fits 99999) tt) (by_size (search (knows, qx, pw) depth 60 fits 99999) tt) c.if-p-w.true ∙ by_value (search (knows, qx, pw) depth 60 fits 99999) refl in
    let ys =
    equal_bits w128 (to_z w128 (of_z w128 (to_z w64 (of_z w64 p.y))) *ℤ to_z w128 q.w) (to_z w128 (of_z w128 (to_z w64 (of_z w64 q.y))) *ℤ to_z w128 p.w) (p.y *ℤ pos q.w) (q.y *ℤ pos p.w) (by_size (search (knows, py, qw) depth 60 fits 99999) tt) (by_size (search (knows, qy, pw) depth 60 fits 99999) tt)
    (by_value (search (knows, py, qw) depth 60 fits 99999) refl) (by_value (search (knows, qy, pw) depth 60 fits 99999) refl) in
    (λ e. record { x = xs; y = ys.0 e }, λ s. ys.1 s.y)
