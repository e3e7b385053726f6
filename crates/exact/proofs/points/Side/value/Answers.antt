use Rattle.algebra.proofs.Ranges.{knows, by_size, by_value}
use Rattle.algebra.specs.Hall.{side}
use Rattle.exact.proofs.Bounds.{by_near}
use Rattle.exact.proofs.points.Side.value.Goals as goal

pub overflow_mul-result : goal.overflow_mul-result
overflow_mul-result c = by_size (search (knows, c.args.self.starts.y, c.requires.most) depth 60 fits 99999) tt

pub overflow_sub-result : goal.overflow_sub-result
overflow_sub-result c = by_size (search (knows, c.args.self.starts.y, c.requires.y, c.requires.most) depth 60 fits 99999) tt

pub overflow_mul-result-2 : goal.overflow_mul-result-2
overflow_mul-result-2 c = by_size (search (knows, c.args.self.starts.y, c.requires.y, c.requires.most, c.direction-run.result.along) depth 60 fits 99999) tt

pub overflow_mul-result-3 : goal.overflow_mul-result-3
overflow_mul-result-3 c = by_size (search (knows, c.args.self.starts.x, c.requires.most) depth 60 fits 99999) tt

pub overflow_sub-result-2 : goal.overflow_sub-result-2
overflow_sub-result-2 c = by_size (search (knows, c.args.self.starts.x, c.requires.x, c.requires.most) depth 60 fits 99999) tt

pub overflow_mul-result-4 : goal.overflow_mul-result-4
overflow_mul-result-4 c = by_size (search (knows, c.args.self.starts.x, c.requires.x, c.requires.most, c.direction-run.result.up) depth 60 fits 99999) tt

pub overflow_sub-result-3 : goal.overflow_sub-result-3
overflow_sub-result-3 c = by_size (search (knows, c.args.self.starts.x, c.args.self.starts.y, c.requires.x, c.requires.y, c.requires.most, c.direction-run.result.along, c.direction-run.result.up) depth 60 fits 99999) tt

pub returns : goal.returns
unfolding side
returns c =
    let e = c.direction-run.ensures.dx in
    let f = c.direction-run.ensures.dy in
    record { value = by_value (search (knows, c.args.self.starts.x, c.args.self.starts.y, c.requires.x, c.requires.y, c.requires.most, c.direction-run.result.along, c.direction-run.result.up) depth 60 fits 99999) (cc); bound = by_near (search (knows, c.args.self.starts.x, c.args.self.starts.y, c.requires.x, c.requires.y, c.requires.most, c.direction-run.result.along, c.direction-run.result.up) depth 60 fits 99999) tt }
