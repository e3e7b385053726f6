use Rattle.std.proofs.Common.{refl}
use Rattle.algebra.proofs.Ranges.{knows, by_size, by_value}
use Rattle.exact.proofs.Bounds.{by_near}
use Rattle.exact.proofs.sides.cross.Goals as goal

pub overflow_sub-result : goal.overflow_sub-result
overflow_sub-result c = by_size (search (knows, c.args.u.along, c.args.u.up, c.args.v.along, c.args.v.up) depth 60 fits 99999) tt

pub returns : goal.returns
returns c = record { value = by_value (search (knows, c.args.u.along, c.args.u.up, c.args.v.along, c.args.v.up) depth 60 fits 99999) refl; bound = by_near (search (knows, c.args.u.along, c.args.u.up, c.args.v.along, c.args.v.up) depth 60 fits 99999) tt }
