-- The sides of a shape, in their order. Assumes nothing.
use Rattle.std.proofs.Common.{◌≡◌, ℕ, zero, suc, ◌+◌, ◌-◌, ◌<◌, List, ◌∷◌, length, get_or, sym, ap, ◌∙◌, ap₂, arith}
use Rattle.algebra.specs.Hall as hall
use Rattle.algebra.specs.Hall.{corner, next}
use Rattle.exact.specs.declared.points.Corner.{Corner}
use Rattle.exact.specs.Points as points
use Rattle.exact.specs.Points.{corner_of}
use Rattle.hall.specs.Outlines.{outline_of}
use Rattle.hall.specs.Sides.{CornerPair, sides_from, sides_of}
use Rattle.hall.proofs.Outlines.{corner_outline, length_outline}

-- the side at i is the first of those that are left there
pub one_more : (cs : List Corner) (i j : ℕ) → i < length cs → j ≡ next (length cs) i →
    sides_from (outline_of cs) (length (outline_of cs) - i) i ≡ (corner_of (get_or cs i points.zero), corner_of (get_or cs j points.zero)) ∷ sides_from (outline_of cs) (length (outline_of cs) - (i + 1)) (i + 1)
one_more cs i j h e =
    let n : length (outline_of cs) ≡ length cs = length_outline cs in
    let m : length (outline_of cs) - i ≡ suc (length (outline_of cs) - (i + 1)) = omega (arith, n) in
    let s : corner (outline_of cs) (next (length (outline_of cs)) i) ≡ corner_of (get_or cs j points.zero) =
    ap (λ (l : ℕ). corner (outline_of cs) (next l i)) n ∙ ap (corner (outline_of cs)) (sym e) ∙ corner_outline cs j in
    ap (λ (l : ℕ). sides_from (outline_of cs) l i) m
    ∙ ap₂ (λ (a b : hall.Corner). (a, b) ∷ sides_from (outline_of cs) (length (outline_of cs) - (i + 1)) (i + 1)) (corner_outline cs i) s

-- side number k of those that begin at i
pub run_at : (s : hall.Shape) (m i k : ℕ) (d : CornerPair) → k < m → get_or (sides_from s m i) k d ≡ (corner s (i + k), corner s (next (length s) (i + k)))
run_at s zero i k d h = absurd (omega arith)
run_at s (suc m) i zero d h = let e : i ≡ i + 0 = omega arith in ap (λ (j : ℕ). (corner s j, corner s (next (length s) j))) e
run_at s (suc m) i (suc k) d h = let e : i + 1 + k ≡ i + suc k = omega arith in run_at s m (i + 1) k d (omega arith) ∙ ap (λ (j : ℕ). (corner s j, corner s (next (length s) j))) e

pub length_sides : (s : hall.Shape) (m i : ℕ) → length (sides_from s m i) ≡ m
length_sides s zero i = omega arith
length_sides s (suc m) i = ap suc (length_sides s m (i + 1))

-- side number k of a shape
pub side_pair : (s : hall.Shape) (k : ℕ) (d : CornerPair) → k < length s → get_or (sides_of s) k d ≡ (corner s k, corner s (next (length s) k))
side_pair s k d h = let e : 0 + k ≡ k = omega arith in run_at s (length s) 0 k d h ∙ ap (λ (j : ℕ). (corner s j, corner s (next (length s) j))) e
