-- The bytes of a task and of a way: what stands where, and which fault of theirs comes first. Assumes nothing: these are definitions.
use Rattle.std.specs.Prelude.{ℕ, zero, suc, ◌+◌, ◌-◌, ◌*◌, ◌^◌, Bool, true, false, not, ◌&&◌, ◌||◌, List, [], ◌∷◌, ◌++◌, length, ℤ, pos, neg_ℤ, Some, None, Option, ◌==◌, int_le, int_lt, nat_le}
use Rattle.std.specs.Int.{w16, w64}
use Rattle.std.proofs.Common.{of_z}
use Rattle.std.specs.List.{flat_map}
use Rattle.algebra.specs.Hall.{Corner, Place, Shape, at, corner, next, edge}
use Rattle.hall.specs.declared.refusals.Refusal.{Refusal}
use Rattle.hall.specs.declared.refusals.Refusal.TheVariants.{Length, Number, Count, Bend}
use Rattle.hall.specs.Bytes.{byte, little, signed_2, signed_8, digits}
use Rattle.hall.specs.Tasks.{Task}

-- ---- writing

abbrev pub corner_bytes : Corner → List ℕ
corner_bytes c = digits 2 (of_z w16 c.x) ++ digits 2 (of_z w16 c.y)

-- the number of corners, and the corners
abbrev pub shape_bytes : Shape → List ℕ
shape_bytes s = length s ∷ flat_map corner_bytes s

abbrev pub place_bytes : Place → List ℕ
place_bytes p = digits 8 (of_z w64 p.x) ++ (digits 8 (of_z w64 p.y) ++ digits 8 p.w)

-- the walls, the load, the number of things, the things, the start and the goal
unfoldable pub task_bytes : Task → List ℕ
task_bytes t =
    digits 2 t.hall.wide ++ (digits 2 t.hall.high ++ (shape_bytes t.hall.load ++ (length t.hall.things
    ∷ (flat_map shape_bytes t.hall.things ++ (place_bytes t.start ++ place_bytes t.goal)))))

-- the number of places, and the places
unfoldable pub way_bytes : List Place → List ℕ
way_bytes ps = digits 2 (length ps) ++ flat_map place_bytes ps

-- ---- reading: what stands at a byte

abbrev pub corner_at : List ℕ → ℕ → Corner
corner_at bs i = record { x = signed_2 bs i; y = signed_2 bs (i + 2) }

-- n corners, n shapes and n places, one after the other
abbrev pub corners_at : ℕ → List ℕ → ℕ → Shape
corners_at zero bs i = []
corners_at (suc n) bs i = corner_at bs i ∷ corners_at n bs (i + 4)

abbrev pub shape_at : List ℕ → ℕ → Shape
shape_at bs i = corners_at (byte bs i) bs (i + 1)

abbrev pub shapes_at : ℕ → List ℕ → ℕ → List Shape
shapes_at zero bs i = []
shapes_at (suc n) bs i = shape_at bs i ∷ shapes_at n bs (i + 1 + 4 * byte bs i)

abbrev pub place_at : List ℕ → ℕ → Place
place_at bs i = record { x = signed_8 bs i; y = signed_8 bs (i + 8); w = little 8 bs (i + 16) }

abbrev pub places_at : ℕ → List ℕ → ℕ → List Place
places_at zero bs i = []
places_at (suc n) bs i = place_at bs i ∷ places_at n bs (i + 24)

-- where n shapes end that begin at i
abbrev pub past : ℕ → List ℕ → ℕ → ℕ
past zero bs i = i
past (suc n) bs i = past n bs (i + 1 + 4 * byte bs i)

-- in a task's bytes: where the number of things stands, what it is, where the first thing, the start and the goal begin, and how many bytes are due
abbrev pub count_from : List ℕ → ℕ
count_from bs = past 1 bs 4

abbrev pub thing_count : List ℕ → ℕ
thing_count bs = byte bs (count_from bs)

abbrev pub things_from : List ℕ → ℕ
things_from bs = count_from bs + 1

abbrev pub start_from : List ℕ → ℕ
start_from bs = past (thing_count bs) bs (things_from bs)

abbrev pub goal_from : List ℕ → ℕ
goal_from bs = start_from bs + 24

abbrev pub task_due : List ℕ → ℕ
task_due bs = goal_from bs + 24

unfoldable pub task_at : List ℕ → Task
task_at bs =
    record {
      hall = record { load = shape_at bs 4; things = shapes_at (thing_count bs) bs (things_from bs); wide = little 2 bs 0; high = little 2 bs 2 };
      start = place_at bs (start_from bs);
      goal = place_at bs (goal_from bs);
    }

abbrev pub way_due : List ℕ → ℕ
way_due bs = 2 + 24 * little 2 bs 0

unfoldable pub way_at : List ℕ → List Place
way_at bs = places_at (little 2 bs 0) bs 2

-- ---- faults: the first refusal in the order of the questions

-- the first of two refusals
infixr 5 ◌then◌
abbrev pub ◌then◌ : Option Refusal → Option Refusal → Option Refusal
None then r = r
Some e then r = Some e

-- the first of those of the numbers below n
abbrev pub first_below : ℕ → (ℕ → Option Refusal) → Option Refusal
first_below zero f = None
first_below (suc n) f = first_below n f then f n

-- a refusal, unless a test holds
abbrev pub unless : Bool → Refusal → Option Refusal
unless true e = None
unless false e = Some e

-- whether a test holds of all numbers below n
abbrev pub all_below : ℕ → (ℕ → Bool) → Bool
all_below zero f = true
all_below (suc n) f = all_below n f && f n

-- from -m to m
abbrev pub near : ℕ → ℤ → Bool
near m z = int_le (neg_ℤ (pos m)) z && int_le z (pos m)

-- the bend after side i is to the left
abbrev pub bends_left : Shape → ℕ → Bool
bends_left s i = int_lt (pos 0) (edge s i (at (corner s (next (length s) (next (length s) i)))))

-- corner j is not to the right of any side
abbrev pub right_of_none : Shape → ℕ → Bool
right_of_none s j = all_below (length s) (λ i. int_le (pos 0) (edge s i (at (corner s j))))

abbrev pub same_corner : Corner → Corner → Bool
same_corner c d = (int_le c.x d.x && int_le d.x c.x) && (int_le c.y d.y && int_le d.y c.y)

-- corner j is not corner 0 again
abbrev pub not_again : Shape → ℕ → Bool
not_again s j = j == 0 || not (same_corner (corner s j) (corner s 0))

-- whether a shape is sound
unfoldable pub sound : Shape → Bool
sound s = nat_le 3 (length s) && (all_below (length s) (bends_left s) && (all_below (length s) (right_of_none s) && all_below (length s) (not_again s)))

-- of a shape s whose corner 0 begins at i: a bend that is not to the left, by its middle corner, so in the order 1, 2, .. and 0 last
abbrev pub bend_at : Shape → ℕ → ℕ → Option Refusal
bend_at s i k = unless (bends_left s k) (Bend (i + 4 * next (length s) k))

-- a corner to the right of a side
abbrev pub right_at : Shape → ℕ → ℕ → Option Refusal
right_at s i k = unless (right_of_none s k) (Bend (i + 4 * k))

-- a corner that is corner 0 again
abbrev pub again_at : Shape → ℕ → ℕ → Option Refusal
again_at s i k = unless (not_again s k) (Bend (i + 4 * k))

unfoldable pub bend_fault : Shape → ℕ → Option Refusal
bend_fault s i = first_below (length s) (bend_at s i) then first_below (length s) (right_at s i) then first_below (length s) (again_at s i)

-- of the shape at i: its count, its numbers one by one, its bends
abbrev pub number_at : ℕ → List ℕ → ℕ → ℕ → Option Refusal
number_at m bs i k = unless (near m (signed_2 bs (i + 1 + 2 * k))) (Number (i + 1 + 2 * k))

unfoldable pub shape_fault : ℕ → List ℕ → ℕ → Option Refusal
shape_fault m bs i =
    unless (nat_le 3 (byte bs i) && nat_le (byte bs i) 8) (Count i) then first_below (2 * byte bs i) (number_at m bs i) then bend_fault (shape_at bs i) (i + 1)

-- of the place at i: x, y and w
unfoldable pub place_fault : ℕ → List ℕ → ℕ → Option Refusal
place_fault m bs i =
    unless (near m (signed_8 bs i)) (Number i)
    then unless (near m (signed_8 bs (i + 8))) (Number (i + 8))
    then unless (nat_le 1 (little 8 bs (i + 16)) && nat_le (little 8 bs (i + 16)) m) (Number (i + 16))

-- missing bytes come before anything else; bytes that go on come last
unfoldable pub task_fault : List ℕ → Option Refusal
task_fault bs =
    unless (nat_le (task_due bs) (length bs)) (Length (length bs))
    then unless (nat_le (little 2 bs 0) 1000) (Number 0)
    then unless (nat_le (little 2 bs 2) 1000) (Number 2)
    then shape_fault 200 bs 4
    then unless (nat_le (thing_count bs) 40) (Count (count_from bs))
    then first_below (thing_count bs) (λ k. shape_fault 1000 bs (past k bs (things_from bs)))
    then place_fault (2 ^ 20) bs (start_from bs)
    then place_fault (2 ^ 20) bs (goal_from bs)
    then unless (nat_le (length bs) (task_due bs)) (Length (task_due bs))

unfoldable pub way_fault : List ℕ → Option Refusal
way_fault bs =
    unless (nat_le (way_due bs) (length bs)) (Length (length bs))
    then first_below (little 2 bs 0) (λ k. place_fault (2 ^ 60 - 1) bs (2 + 24 * k))
    then unless (nat_le (length bs) (way_due bs)) (Length (way_due bs))
