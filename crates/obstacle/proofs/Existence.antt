-- Where the load meets a thing is the inside of one sound shape, which always exists. Assumes the law of merging, as an argument.
use Rattle.std.proofs.Common.{◌≡◌, ℕ, ◌-◌, map, length, sym, subst, arith}
use Rattle.std.specs.List.{range_with_len}
use Rattle.std.proofs.lemmas.List.FromFn.{length-map-range_with_len, get_or-map-range_with_len}
use Rattle.algebra.specs.Hall.{Corner, Shape, Sound}
use Rattle.obstacle.specs.Growth.{minus}
use Rattle.obstacle.specs.Merging.{Merging, Merged, Lowest, Highest, thing_corner, load_corner}
use Rattle.obstacle.specs.Grows.{GrowsTo, Grows}
use Rattle.obstacle.proofs.Fan.{fan, supports}
use Rattle.obstacle.proofs.Open.{away, inside_covers, supports_strictly}
use Rattle.obstacle.proofs.Middle.{has_inside}
use Rattle.obstacle.proofs.Growth.{growth}
use Rattle.obstacle.proofs.ExistenceEnds.{lowest, highest}
use Rattle.obstacle.proofs.ExistenceRun.{walked}

module _ (merging : Merging) (load thing : Shape) (sl : Sound load) (st : Sound thing) where
  -- the corners met on the way from a and b
  met_from : (a b : ℕ) → Lowest thing a → Highest load b → GrowsTo load thing
  met_from a b low high =
      let w = walked load thing a b sl st low.within high.within in
      let met : ℕ → Corner = λ k. minus (thing_corner load thing a b (w.i k)) (load_corner load thing a b (w.j k)) in
      let g : Shape = map met (range_with_len 0 w.n) in
      let l : length g ≡ w.n = length-map-range_with_len met 0 w.n in
      let merged : Merged load thing a b (length g) w.i w.j = subst (λ (n : ℕ). Merged load thing a b n w.i w.j) (sym l) w.merged in
      let m = merging load thing g a b w.i w.j sl st low high merged (λ k h. get_or-map-range_with_len met 0 w.n k k _ (omega arith) (omega arith)) in
      let s = growth fan supports supports_strictly away has_inside inside_covers load thing g sl st m.0 in
      record { g = g; sound = s.0; grown = s.1; few = m.1 }

  grows_to : GrowsTo load thing
  grows_to =
      let a = lowest thing (length thing - 1) (omega (arith, st.many)) in
      let b = highest load (length load - 1) (omega (arith, sl.many)) in
      met_from a.it b.it a.is b.is

pub grows : Merging → Grows
grows = grows_to
