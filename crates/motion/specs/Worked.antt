-- Halls worked out by hand: a load of two by two in a hall of 20 by 10. Assumes nothing: these are definitions and statements, proved in proofs/.
use Rattle.std.specs.Prelude.{List, [], ◌∷◌, ℤ, pos, negsuc}
use Rattle.algebra.specs.Hall.{Place, Shape, Hall, Way}

-- a box by its left, lower, right and upper ends
abbrev pub box : ℤ → ℤ → ℤ → ℤ → Shape
box left low right high =
    record { x = left; y = low } ∷ record { x = right; y = low } ∷ record { x = right; y = high } ∷ record { x = left; y = high } ∷ []

abbrev pub room : List Shape → Hall
room things = record { load = box (negsuc 0) (negsuc 0) (pos 1) (pos 1); things = things; wide = 20; high = 10 }

abbrev pub spot : ℤ → ℤ → Place
spot x y = record { x = x; y = y; w = 1 }

-- what is said of a hall: the way without corners is one; or there is none
pub data Said : Type 0 where
  straight : Said
  none : Said

pub record Example : Type 0 where
  pub things : List Shape
  pub from : Place
  pub to : Place
  pub said : Said

abbrev pub Holds : Example → Type 0
Holds e = elim e.said [ straight ↦ Way (room e.things) e.from [] e.to | none ↦ (ps : List Place) → Way (room e.things) e.from ps e.to → ⊥ ]

-- nothing stands; a door as high as the load; a door too low by one; a start that isn't free
abbrev pub table : List Example
table =
    record { things = []; from = spot (pos 2) (pos 2); to = spot (pos 18) (pos 8); said = straight }
    ∷ record { things = box (pos 9) (negsuc 1) (pos 11) (pos 4) ∷ box (pos 9) (pos 6) (pos 11) (pos 12) ∷ []; from = spot (pos 2) (pos 5); to = spot (pos 18) (pos 5); said = straight }
    ∷ record { things = box (pos 9) (negsuc 1) (pos 11) (pos 4) ∷ box (pos 9) (pos 5) (pos 11) (pos 12) ∷ []; from = spot (pos 2) (pos 2); to = spot (pos 18) (pos 8); said = none }
    ∷ record { things = box (pos 1) (pos 1) (pos 3) (pos 3) ∷ []; from = spot (pos 2) (pos 2); to = spot (pos 18) (pos 8); said = none }
    ∷ []

-- each of them holds
abbrev pub AllHold : List Example → Type 0
AllHold [] = Unit {0}
AllHold (e ∷ es) = Holds e × AllHold es

abbrev pub WorkedHalls : Type 0
WorkedHalls = AllHold table
