use Rattle.std.proofs.Common.{[], ◌∷◌, refl}
use Rattle.algebra.proofs.Polynomial.{forms, by_ring}
use Rattle.algebra.proofs.Ranges.{knows, by_size, by_value}
use Rattle.exact.proofs.Bounds.{by_near}
use Rattle.exact.proofs.wide.Halves.times.Goals as goal

pub overflow_mul-result : goal.overflow_mul-result
overflow_mul-result c = by_size (search (knows, c.requires.first.high, c.requires.second.high) depth 60 fits 99999) tt

pub overflow_mul-result-2 : goal.overflow_mul-result-2
overflow_mul-result-2 c = by_size (search (knows, c.requires.first.high, c.requires.second.low.most, c.requires.second.low.least) depth 60 fits 99999) tt

pub overflow_mul-result-3 : goal.overflow_mul-result-3
overflow_mul-result-3 c = by_size (search (knows, c.requires.first.low.most, c.requires.first.low.least, c.requires.second.high) depth 60 fits 99999) tt

pub overflow_add-result : goal.overflow_add-result
overflow_add-result c = by_size (search (knows, c.requires.first.high, c.requires.first.low.most, c.requires.first.low.least, c.requires.second.high, c.requires.second.low.most, c.requires.second.low.least) depth 60 fits 99999) tt

pub overflow_mul-result-4 : goal.overflow_mul-result-4
overflow_mul-result-4 c = by_size (search (knows, c.requires.first.low.most, c.requires.first.low.least, c.requires.second.low.most, c.requires.second.low.least) depth 60 fits 99999) tt

pub returns : goal.returns
returns c =
    record {
      value = by_value (search (knows, c.requires.first.high, c.requires.first.low.most, c.requires.first.low.least, c.requires.second.high, c.requires.second.low.most, c.requires.second.low.least) depth 60 fits 99999) (by_ring (c.args.self.high ∷ c.args.self.low ∷ c.args.by.high ∷ c.args.by.low ∷ []) (search forms depth 60 fits 99999) refl);
      bound = record { high = by_near (search (knows, c.requires.first.high, c.requires.second.high) depth 60 fits 99999) tt; middle = by_near (search (knows, c.requires.first.high, c.requires.first.low.most, c.requires.first.low.least, c.requires.second.high, c.requires.second.low.most, c.requires.second.low.least) depth 60 fits 99999) tt; low = by_near (search (knows, c.requires.first.low.most, c.requires.first.low.least, c.requires.second.low.most, c.requires.second.low.least) depth 60 fits 99999) tt };
    }
