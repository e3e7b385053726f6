use Rattle.std.proofs.Common.{pos, negsuc, ◌≤ℤ◌, ◌<ℤ◌, arith}
use borrow.Author.Differences.{ints}
use Rattle.std.proofs.lemmas.Int.{by_lt_z}
use Rattle.algebra.proofs.Ranges.{knows, by_size, by_value}
use Rattle.exact.proofs.Bounds.{by_near}
use Rattle.exact.proofs.Heights.{foot_is}
use Rattle.exact.proofs.points.Side.fall.Goals as goal

pub overflow_mul-foot : goal.overflow_mul-foot
overflow_mul-foot c = by_size (search (knows, c.args.self.starts.y, c.requires.place.most) depth 60 fits 99999) tt

pub overflow_mul-foot-2 : goal.overflow_mul-foot-2
overflow_mul-foot-2 c = by_size (search (knows, c.args.self.starts.y, c.requires.place.most, c.direction-step.result.along) depth 60 fits 99999) tt

pub overflow_sub-foot : goal.overflow_sub-foot
overflow_sub-foot c = by_size (search (knows, c.args.self.starts.y, c.requires.place.most, c.direction-step.result.along) depth 60 fits 99999) tt

pub overflow_mul-foot-3 : goal.overflow_mul-foot-3
overflow_mul-foot-3 c = by_size (search (knows, c.args.self.starts.x, c.requires.place.most) depth 60 fits 99999) tt

pub overflow_sub-foot-2 : goal.overflow_sub-foot-2
overflow_sub-foot-2 c = by_size (search (knows, c.args.self.starts.x, c.requires.place.x, c.requires.place.most) depth 60 fits 99999) tt

pub overflow_mul-foot-4 : goal.overflow_mul-foot-4
overflow_mul-foot-4 c = by_size (search (knows, c.args.self.starts.x, c.requires.place.x, c.requires.place.most, c.direction-step.result.up) depth 60 fits 99999) tt

pub overflow_sub-foot-3 : goal.overflow_sub-foot-3
overflow_sub-foot-3 c = by_size (search (knows, c.args.self.starts.x, c.args.self.starts.y, c.requires.place.x, c.requires.place.most, c.direction-step.result.along, c.direction-step.result.up) depth 60 fits 99999) tt

pub overflow_sub-result : goal.overflow_sub-result
overflow_sub-result c = by_size (search (knows, c.args.self.starts.x, c.args.self.starts.y, c.requires.place.x, c.requires.place.most, c.direction-step.result.along, c.direction-step.result.up) depth 60 fits 99999) tt

pub returns-then-step-lt0 : goal.returns-then-step-lt0
returns-then-step-lt0 c =
    let step = c.direction-step in
    let e = foot_is c.args.self c.args.here step.result.dx step.result.dy step.ensures.dx step.ensures.dy in
    record {
      sign = negsuc 0;
      foot = by_value (search (knows, c.args.self.starts.x, c.args.self.starts.y, c.requires.place.x, c.requires.place.most, c.direction-step.result.along, c.direction-step.result.up) depth 60 fits 99999) (omega (arith, ints));
      run = by_value (search (knows, c.direction-step.result.along) depth 60 fits 99999) (omega (arith, ints, step.ensures.dx));
      right = omega (arith, ints, c.if-step-lt0.true);
      near_foot = by_near (search (knows, c.args.self.starts.x, c.args.self.starts.y, c.requires.place.x, c.requires.place.most, c.direction-step.result.along, c.direction-step.result.up) depth 60 fits 99999) tt;
      near_run = by_near (search (knows, c.direction-step.result.along) depth 60 fits 99999) tt;
    }

pub returns-else-step-lt0 : goal.returns-else-step-lt0
returns-else-step-lt0 c =
    let step = c.direction-step in
    let e = foot_is c.args.self c.args.here step.result.dx step.result.dy step.ensures.dx step.ensures.dy in
    let l : pos 0 ≤ℤ step.result.dx = grind (arith, ints) in
    let r : pos 0 <ℤ step.result.dx = by_lt_z (pos 0) step.result.dx (λ h. h) (λ h. absurd (c.requires.slanted (omega (arith, ints, step.ensures.dx)))) in
    record {
      sign = pos 1;
      foot = by_value (search (knows, c.args.self.starts.x, c.args.self.starts.y, c.requires.place.x, c.requires.place.most, c.direction-step.result.along, c.direction-step.result.up) depth 60 fits 99999) (omega (arith, ints));
      run = by_value (search (knows, c.direction-step.result.along) depth 60 fits 99999) (omega (arith, ints, step.ensures.dx));
      right = omega (arith, ints, r);
      near_foot = by_near (search (knows, c.args.self.starts.x, c.args.self.starts.y, c.requires.place.x, c.requires.place.most, c.direction-step.result.along, c.direction-step.result.up) depth 60 fits 99999) tt;
      near_run = by_near (search (knows, c.direction-step.result.along) depth 60 fits 99999) tt;
    }
