use Rattle.std.proofs.Common.{[], ◌∷◌, refl}
use Rattle.algebra.proofs.Polynomial.{forms, by_ring}
use Rattle.algebra.proofs.Ranges.{knows, by_size, by_value}
use Rattle.algebra.specs.Hall.{side}
use Rattle.exact.proofs.Bounds.{by_near}
use Rattle.exact.proofs.sides.turn.Goals as goal

pub overflow_mul-result : goal.overflow_mul-result
overflow_mul-result c = by_size (search (knows, c.requires.a.x, c.requires.a.y, c.requires.b.x, c.requires.c.y) depth 60 fits 99999) tt

pub overflow_mul-result-2 : goal.overflow_mul-result-2
overflow_mul-result-2 c = by_size (search (knows, c.requires.a.x, c.requires.a.y, c.requires.b.y, c.requires.c.x) depth 60 fits 99999) tt

pub overflow_sub-result-5 : goal.overflow_sub-result-5
overflow_sub-result-5 c = by_size (search (knows, c.requires.a.x, c.requires.a.y, c.requires.b.x, c.requires.b.y, c.requires.c.x, c.requires.c.y) depth 60 fits 99999) tt

pub returns : goal.returns
unfolding side
returns c =
    record {
      value =
          by_value (search (knows, c.requires.a.x, c.requires.a.y, c.requires.b.x, c.requires.b.y, c.requires.c.x, c.requires.c.y) depth 60 fits 99999)
          (by_ring (c.args.a.x ∷ c.args.a.y ∷ c.args.b.x ∷ c.args.b.y ∷ c.args.c.x ∷ c.args.c.y ∷ []) (search forms depth 60 fits 99999) refl);
      bound = by_near (search (knows, c.requires.a.x, c.requires.a.y, c.requires.b.x, c.requires.b.y, c.requires.c.x, c.requires.c.y) depth 60 fits 99999) tt;
    }
