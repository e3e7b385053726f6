use Rattle.std.proofs.Common.{◌≡◌, ℕ, ℤ, ◌*◌, ◌<◌, ◌≤◌, pos, ◌-ℤ◌, ◌*ℤ◌, nat_abs, ◌<ℤ◌, refl, ap, ◌∙◌, mul-pos, arith, w64, to_z, of_z}
use borrow.Author.Differences.{ints}
use Rattle.algebra.proofs.Ranges.{knows, by_size, by_value}
use Rattle.exact.proofs.Bounds.{by_near}
use Rattle.exact.specs.Points.{corner_of, place_of}
use Rattle.ledge.proofs.Landing.{foot_is, run_size, times_most}
use Rattle.ledge.proofs.uprights.Upright.foot_on.Goals as goal

pub overflow_mul-c : goal.overflow_mul-c
overflow_mul-c c = by_size (search (knows, c.args.slope.side.starts.x, c.args.slope.side.ends.y) depth 60 fits 99999) tt

pub overflow_mul-c-2 : goal.overflow_mul-c-2
overflow_mul-c-2 c = by_size (search (knows, c.args.slope.side.starts.y, c.args.slope.side.ends.x) depth 60 fits 99999) tt

pub overflow_sub-c : goal.overflow_sub-c
overflow_sub-c c = by_size (search (knows, c.args.slope.side.starts.x, c.args.slope.side.starts.y, c.args.slope.side.ends.x, c.args.slope.side.ends.y) depth 60 fits 99999) tt

pub overflow_mul-result : goal.overflow_mul-result
overflow_mul-result c = by_size (search (knows, c.direction-step.result.along, c.args.self.near.x) depth 60 fits 99999) tt

pub overflow_mul-result-2 : goal.overflow_mul-result-2
overflow_mul-result-2 c = by_size (search (knows, c.direction-step.result.up, c.args.self.near.x) depth 60 fits 99999) tt

pub overflow_mul-result-3 : goal.overflow_mul-result-3
overflow_mul-result-3 c = by_size (search (knows, c.args.slope.side.starts.x, c.args.slope.side.starts.y, c.args.slope.side.ends.x, c.args.slope.side.ends.y, c.args.self.near.most) depth 60 fits 99999) tt

pub overflow_sub-result : goal.overflow_sub-result
overflow_sub-result c = by_size (search (knows, c.direction-step.result.up, c.args.slope.side.starts.x, c.args.slope.side.starts.y, c.args.slope.side.ends.x, c.args.slope.side.ends.y, c.args.self.near.x, c.args.self.near.most) depth 60 fits 99999) tt

pub returns-clause-value : goal.returns-clause-value
returns-clause-value c =
    let a = corner_of c.args.slope.side.from in
    let b = corner_of c.args.slope.side.to in
    let p = c.args.self.p in
    let e = c.direction-step.ensures in
    let k : to_z w64 (of_z w64 c.direction-step.result.dx) ≡ c.direction-step.result.dx = by_value (search (knows, c.direction-step.result.along) depth 60 fits 99999) refl in
    let s : c.unsigned_abs.result ≡ nat_abs c.direction-step.result.dx = c.unsigned_abs.ensures.value ∙ ap nat_abs k in
    foot_is a b (place_of p) _
    (by_value (search (knows, c.direction-step.result.along, c.args.self.near.x) depth 60 fits 99999) refl ∙ ap (λ (z : ℤ). z *ℤ p.x) e.dx)
    (by_value (search (knows, c.direction-step.result.up, c.args.slope.side.starts.x, c.args.slope.side.starts.y, c.args.slope.side.ends.x, c.args.slope.side.ends.y, c.args.self.near.x, c.args.self.near.most) depth 60 fits 99999) refl
    ∙ ap (λ (z : ℤ). (z *ℤ p.x) -ℤ (((a.x *ℤ b.y) -ℤ (a.y *ℤ b.x)) *ℤ pos p.w)) e.dy)
    (ap (λ (n : ℕ). n * p.w) (s ∙ ap nat_abs e.dx))

pub returns-clause-bound : goal.returns-clause-bound
returns-clause-bound c =
    let e = c.direction-step.ensures in
    let k : to_z w64 (of_z w64 c.direction-step.result.dx) ≡ c.direction-step.result.dx = by_value (search (knows, c.direction-step.result.along) depth 60 fits 99999) refl in
    let s : c.unsigned_abs.result ≡ nat_abs c.direction-step.result.dx = c.unsigned_abs.ensures.value ∙ ap nat_abs k in
    let r : pos 0 <ℤ c.direction-step.result.dx = omega (arith, ints, e.dx, c.args.slope.onward) in
    let n = run_size c.direction-step.result.dx r c.direction-step.result.along.high in
    let m : c.unsigned_abs.result ≤ 4094 = omega (arith, s, n.1) in
    let o : 0 < c.unsigned_abs.result = omega (arith, s, n.0) in
    record {
      x = by_near (search (knows, c.direction-step.result.along, c.args.self.near.x) depth 60 fits 99999) tt;
      y = by_near (search (knows, c.direction-step.result.up, c.args.slope.side.starts.x, c.args.slope.side.starts.y, c.args.slope.side.ends.x, c.args.slope.side.ends.y, c.args.self.near.x, c.args.self.near.most) depth 60 fits 99999) tt;
      real = mul-pos o c.args.self.near.real;
      most = times_most c.unsigned_abs.result c.args.self.p.w m c.args.self.near.most;
    }
