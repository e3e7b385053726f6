-- How large numbers become on the way, by computing with bounds. Assumes nothing.

use Rattle.algebra.specs.Hall.{side}
use Rattle.algebra.proofs.Ranges.{knows}
use Rattle.exact.specs.Stands.{Stands}
use Rattle.exact.proofs.Bounds.{by_near, k_pos}

pub stands : Stands
unfolding side
stands =
    record {
      value = λ s p h k. by_near (search (knows, k_pos) depth 60 fits 99999) tt;
      turn = λ t c h k. by_near (search knows depth 60 fits 99999) tt;
      denominator = λ s t h k. by_near (search knows depth 60 fits 99999) tt;
      numerator_x = λ s t h k. by_near (search knows depth 60 fits 99999) tt;
      numerator_y = λ s t h k. by_near (search knows depth 60 fits 99999) tt;
      crosswise = λ p q h k. by_near (search (knows, k_pos) depth 60 fits 99999) tt;
    }
