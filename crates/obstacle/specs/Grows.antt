-- The grown shape exists, whatever the load and the thing. Assumes nothing: these are a definition and a statement, proved in proofs/.
use Rattle.std.specs.Prelude.{◌+◌, ◌≤◌, length}
use Rattle.algebra.specs.Hall.{Shape, Sound}
use Rattle.obstacle.specs.Growth.{Grown}

-- where the load meets a thing is the inside of one sound shape, of at most as many corners as both have together
pub record GrowsTo (load thing : Shape) : Type 0 where
  pub g : Shape
  pub sound : Sound g
  pub grown : Grown load thing g
  pub few : length g ≤ length load + length thing

abbrev pub Grows : Type 0
Grows = (load thing : Shape) → Sound load → Sound thing → GrowsTo load thing
