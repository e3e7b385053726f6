-- The corners of the code as a shape of the definitions, and what a function says of a fault. Assumes nothing: these are definitions.
use Rattle.std.specs.Prelude.{◌≡◌, ℕ, Bool, ◌&&◌, List, map, length, take, Some, None, Option, Result, MatchResult, nat_le}
use Rattle.algebra.specs.Hall as hall
use Rattle.exact.specs.declared.points.Corner.{Corner}
use Rattle.exact.specs.declared.points.Place.{Place}
use Rattle.hall.specs.Format.{near, all_below}
use Rattle.exact.specs.Points.{corner_of}
use Rattle.hall.specs.declared.refusals.Refusal.{Refusal}

abbrev pub outline_of : List Corner → hall.Shape
outline_of cs = map corner_of cs

-- the first n of them
abbrev pub outline : ℕ → List Corner → hall.Shape
outline n cs = outline_of (take n cs)

-- whether each corner of a shape is from -m to m in x and y
unfoldable pub within : ℕ → hall.Shape → Bool
within m s = all_below (length s) (λ i. near m (hall.corner s i).x && near m (hall.corner s i).y)

-- whether a place has x and y from -m to m, and w from 1 to m
unfoldable pub bounded : ℕ → Place → Bool
bounded m p = (near m p.x && near m p.y) && (nat_le 1 p.w && nat_le p.w m)

-- an answer of Ok says that there is no fault, and an Err has the first
abbrev pub Tells : {X : Type 0} → Result X Refusal → Option Refusal → Type 0
Tells r fault = MatchResult r (λ _. fault ≡ None) (λ e. fault ≡ Some e)
