-- The number of each refusal, the places that it names, and the text that says so. Assumes nothing: these are definitions.
use Rattle.std.specs.Prelude.{ℕ, List, [], ◌∷◌, ◌++◌, codes, decimal}
use Rattle.hall.specs.declared.refusals.Lent.{Lent}
use Rattle.hall.specs.declared.refusals.Lent.TheVariants as lent
use Rattle.hall.specs.declared.refusals.Refusal.{Refusal}
use Rattle.hall.specs.declared.refusals.Refusal.TheVariants.{Length, Number, Count, Bend, Slice, Waypoint, Collision, Memory}

-- the lent slices, counted from 0
abbrev pub slice_number : Lent → ℕ
slice_number lent.Map = 0
slice_number lent.Work = 1
slice_number lent.Way = 2

abbrev pub number : Refusal → ℕ
number (Length i) = 1
number (Number i) = 2
number (Count i) = 3
number (Bend i) = 4
number (Slice s) = 5
number (Waypoint i) = 6
number (Collision i k) = 7
number Memory = 8

abbrev pub places : Refusal → List ℕ
places (Length i) = i ∷ []
places (Number i) = i ∷ []
places (Count i) = i ∷ []
places (Bend i) = i ∷ []
places (Slice s) = slice_number s ∷ []
places (Waypoint i) = i ∷ []
places (Collision i k) = i ∷ k ∷ []
places Memory = 0 ∷ []

-- each number after a space
abbrev pub listed : List ℕ → List ℕ
listed [] = []
listed (n ∷ ns) = codes " " ++ (decimal n ++ listed ns)

-- as refused 4 at 9, or refused 7 at 3 2
abbrev pub refusal_text : Refusal → List ℕ
refusal_text r = codes "refused " ++ (decimal (number r) ++ (codes " at" ++ listed (places r)))
