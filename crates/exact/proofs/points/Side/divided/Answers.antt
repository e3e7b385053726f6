use Rattle.std.proofs.Common.{◌-◌, ◌^◌, ◌≤◌, pos, ◌+ℤ◌, ◌*ℤ◌, sym, refl, subst, arith}
use Rattle.algebra.specs.Near.{Near}
use Rattle.algebra.proofs.Ranges.{knows, by_size, by_value}
use Rattle.exact.proofs.Bounds.{wider}
use Rattle.exact.proofs.Crossings.{parts_near}
use Rattle.exact.proofs.points.Side.divided.Goals as goal

pub overflow_mul-result : goal.overflow_mul-result
overflow_mul-result c = let t : c.args.t ≤ 33521672 = omega arith in let u : c.args.u ≤ 33521672 = omega arith in by_size (search (knows, c.args.self.starts.x, u) depth 60 fits 99999) tt

pub overflow_mul-result-2 : goal.overflow_mul-result-2
overflow_mul-result-2 c = let t : c.args.t ≤ 33521672 = omega arith in let u : c.args.u ≤ 33521672 = omega arith in by_size (search (knows, c.args.self.ends.x, t) depth 60 fits 99999) tt

pub overflow_add-result : goal.overflow_add-result
overflow_add-result c = let t : c.args.t ≤ 33521672 = omega arith in let u : c.args.u ≤ 33521672 = omega arith in by_size (search (knows, c.args.self.starts.x, c.args.self.ends.x, t, u) depth 60 fits 99999) tt

pub overflow_mul-result-3 : goal.overflow_mul-result-3
overflow_mul-result-3 c = let t : c.args.t ≤ 33521672 = omega arith in let u : c.args.u ≤ 33521672 = omega arith in by_size (search (knows, c.args.self.starts.y, u) depth 60 fits 99999) tt

pub overflow_mul-result-4 : goal.overflow_mul-result-4
overflow_mul-result-4 c = let t : c.args.t ≤ 33521672 = omega arith in let u : c.args.u ≤ 33521672 = omega arith in by_size (search (knows, c.args.self.ends.y, t) depth 60 fits 99999) tt

pub overflow_add-result-2 : goal.overflow_add-result-2
overflow_add-result-2 c = let t : c.args.t ≤ 33521672 = omega arith in let u : c.args.u ≤ 33521672 = omega arith in by_size (search (knows, c.args.self.starts.y, c.args.self.ends.y, t, u) depth 60 fits 99999) tt

pub returns : goal.returns
returns c =
    let t : c.args.t ≤ 33521672 = omega arith in
    let u : c.args.u ≤ 33521672 = omega arith in
    let x = by_value {v = (c.args.self.from.x *ℤ pos c.args.u) +ℤ (c.args.self.to.x *ℤ pos c.args.t)} (search (knows, c.args.self.starts.x, c.args.self.ends.x, t, u) depth 60 fits 99999) refl in
    let y = by_value {v = (c.args.self.from.y *ℤ pos c.args.u) +ℤ (c.args.self.to.y *ℤ pos c.args.t)} (search (knows, c.args.self.starts.y, c.args.self.ends.y, t, u) depth 60 fits 99999) refl in
    record {
      x = x;
      y = y;
      w = refl;
      bound = record {
        x = subst (Near (2 ^ 36 - 1)) (sym x) (wider (parts_near 33521672 c.args.t c.args.u c.args.self.starts.x c.args.self.ends.x c.requires.parts) tt);
        y = subst (Near (2 ^ 36 - 1)) (sym y) (wider (parts_near 33521672 c.args.t c.args.u c.args.self.starts.y c.args.self.ends.y c.requires.parts) tt);
        real = omega arith;
        most = omega arith;
      };
    }
