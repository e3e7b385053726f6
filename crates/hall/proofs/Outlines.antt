-- The corners of the code as a shape: its length, its corners and its sides. Assumes nothing.
use Rattle.std.proofs.Common.{◌≡◌, ℕ, ◌+◌, ◌*◌, Option, zero, suc, List, [], ◌∷◌, length, get_or, refl, ap}
use Rattle.std.proofs.lemmas.List.{length-map}
use Rattle.algebra.specs.Hall.{side, edge, at, corner, next}
use Rattle.exact.specs.declared.points.Corner.{Corner}
use Rattle.exact.specs.Points as points
use Rattle.exact.specs.Points.{corner_of}
use Rattle.hall.specs.Format.{◌then◌, unless, first_below, bends_left, right_at, again_at, bend_fault}
use Rattle.hall.specs.declared.refusals.Refusal.{Refusal}
use Rattle.hall.specs.declared.refusals.Refusal.TheVariants.{Bend}
use Rattle.hall.specs.Outlines.{outline_of}

pub corner_outline : (cs : List Corner) (i : ℕ) → corner (outline_of cs) i ≡ corner_of (get_or cs i points.zero)
corner_outline [] i = refl
corner_outline (c ∷ cs) zero = refl
corner_outline (c ∷ cs) (suc i) = corner_outline cs i

pub length_outline : (cs : List Corner) → length (outline_of cs) ≡ length cs
length_outline cs = length-map cs corner_of

-- a side of the shape, by the corners of the code
pub edge_outline : (cs : List Corner) (i j : ℕ) →
    side (corner_of (get_or cs i points.zero)) (corner_of (get_or cs (next (length cs) i) points.zero)) (at (corner_of (get_or cs j points.zero)))
    ≡ edge (outline_of cs) i (at (corner (outline_of cs) j))
unfolding edge
edge_outline cs i j = rw (length_outline cs, corner_outline cs i, corner_outline cs (next (length cs) i), corner_outline cs j)

-- the faults of its bends, by the length of the list
module _ (cs : List Corner) (i : ℕ) where
  abbrev pub left_at : ℕ → Option Refusal
  left_at k = unless (bends_left (outline_of cs) k) (Bend (i + 4 * next (length cs) k))

  pub bend_fault_outline : bend_fault (outline_of cs) i ≡ first_below (length cs) left_at then first_below (length cs) (right_at (outline_of cs) i) then first_below (length cs) (again_at (outline_of cs) i)
  unfolding bend_fault
  bend_fault_outline =
      let s = outline_of cs in
      ap (λ (n : ℕ). first_below n (λ k. unless (bends_left s k) (Bend (i + 4 * next n k))) then first_below n (right_at s i) then first_below n (again_at s i))
      (length_outline cs)
