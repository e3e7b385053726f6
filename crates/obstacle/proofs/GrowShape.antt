-- The corners that the walks met make the grown shape. Assumes the law of merging, as an argument.
use Rattle.std.proofs.Common.{◌≡◌, ℕ, ◌+◌, ◌<◌, ◌≤◌, T, List, length, sym, ap, ◌∙◌, subst}
use Rattle.algebra.specs.Hall.{Shape, Sound, corner}
use Rattle.exact.specs.declared.points.Corner as code
use Rattle.hall.specs.Outlines.{outline, within}
use Rattle.hall.proofs.Kept.{length_kept, corner_kept}
use Rattle.obstacle.specs.declared.walks.Walks.{Walks}
use Rattle.obstacle.specs.Growing.{IsRound}
use Rattle.obstacle.specs.Growth.{Grown}
use Rattle.obstacle.specs.Merging.{Merging, Merged}
use Rattle.obstacle.proofs.Fan.{fan, supports}
use Rattle.obstacle.proofs.GrowBounds.{within_met}
use Rattle.obstacle.proofs.GrowWalk.{Walked, walked_all}
use Rattle.obstacle.proofs.Growth.{growth}
use Rattle.obstacle.proofs.Middle.{has_inside}
use Rattle.obstacle.proofs.Open.{supports_strictly, away, inside_covers}

pub record GrownShape (load thing g : Shape) : Type 0 where
  pub sound : Sound g
  pub grown : Grown load thing g
  pub few : length g ≤ length load + length thing
  pub near : T (within 2000 g)

pub grown_from_walk : Merging → (load thing : Shape) {m l : ℕ} (p : Walks m l) (cs : List code.Corner) (n : ℕ) → Sound load → Sound thing → n ≤ length cs → Walked load thing p cs n → IsRound p →
    (g : Shape) → g ≡ outline n cs → GrownShape load thing g
grown_from_walk law load thing p cs n sl st few w round g is =
    let l : length g ≡ n = ap length is ∙ length_kept n cs few in
    let merged : Merged load thing w.a w.b (length g) w.i w.j = subst (λ (k : ℕ). Merged load thing w.a w.b k w.i w.j) (sym l) (walked_all load thing p cs n w round) in
    let m =
    law load thing g w.a w.b w.i w.j sl st w.lowest w.highest merged
    (λ k h. let i : k < n = subst (λ (z : ℕ). k < z) l h in ap (λ (s : Shape). corner s k) is ∙ sym (corner_kept n cs few k i) ∙ w.corners k i) in
    let s = growth fan supports supports_strictly away has_inside inside_covers load thing g sl st m.0 in
    record { sound = s.0; grown = s.1; few = m.1; near = within_met 2000 n cs few w.near g is }
