use Rattle.std.proofs.Common.{[], ◌∷◌, refl}
use Rattle.algebra.proofs.Polynomial.{forms, by_ring}
use Rattle.algebra.proofs.Ranges.{knows, by_size, by_value}
use Rattle.exact.proofs.Bounds.{by_near}
use Rattle.exact.proofs.wide.Thirds.minus.Goals as goal

pub overflow_sub-result : goal.overflow_sub-result
overflow_sub-result c = by_size (search (knows, c.requires.first.high, c.requires.second.high) depth 60 fits 99999) tt

pub overflow_sub-result-2 : goal.overflow_sub-result-2
overflow_sub-result-2 c = by_size (search (knows, c.requires.first.middle, c.requires.second.middle) depth 60 fits 99999) tt

pub overflow_sub-result-3 : goal.overflow_sub-result-3
overflow_sub-result-3 c = by_size (search (knows, c.requires.first.low, c.requires.second.low) depth 60 fits 99999) tt

pub returns : goal.returns
returns c =
    record {
      value = by_value (search (knows, c.requires.first.high, c.requires.first.middle, c.requires.first.low, c.requires.second.high, c.requires.second.middle, c.requires.second.low) depth 60 fits 99999) (by_ring (c.args.self.high ∷ c.args.self.middle ∷ c.args.self.low ∷ c.args.by.high ∷ c.args.by.middle ∷ c.args.by.low ∷ []) (search forms depth 60 fits 99999) refl);
      bound = record { high = by_near (search (knows, c.requires.first.high, c.requires.second.high) depth 60 fits 99999) tt; middle = by_near (search (knows, c.requires.first.middle, c.requires.second.middle) depth 60 fits 99999) tt; low = by_near (search (knows, c.requires.first.low, c.requires.second.low) depth 60 fits 99999) tt };
    }
