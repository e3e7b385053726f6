-- The bounds of the corners that are read and of those that are met. Assumes nothing.
use Rattle.std.proofs.Common.{◌≡◌, ℕ, ◌+◌, ◌<◌, ◌≤◌, T, List, length, get_or, sym, ap, ◌∙◌, subst, arith}
use Rattle.std.proofs.lemmas.Bool.{and_parts, and_from}
use Rattle.algebra.specs.Hall.{Corner, Shape, corner}
use Rattle.algebra.specs.Near.{Near}
use Rattle.exact.specs.declared.points.Corner as code
use Rattle.exact.specs.Points.{corner_of, zero}
use Rattle.exact.specs.Sides.{CornerNear}
use Rattle.hall.specs.declared.shapes.Shape.{Shape as Shaped}
use Rattle.hall.specs.Shapes.{shape_of}
use Rattle.hall.specs.Outlines.{outline, within}
use Rattle.hall.proofs.Drawings.{holds}
use Rattle.hall.proofs.Faults.{all_at, all_from}
use Rattle.hall.proofs.Kept.{true_from_holds, length_kept, corner_kept}
use Rattle.hall.proofs.Taken.{near_from_test, test_from_near}

pub near_read : (m : ℕ) (s : Shape) → T (within m s) → (i : ℕ) → i < length s → (c : code.Corner) → corner_of c ≡ corner s i → CornerNear m c
unfolding within
near_read m s t i h c e =
    let p = and_parts _ _ (all_at (length s) _ (true_from_holds _ t) i h) in
    record {
      x = subst (Near m) (sym (ap (λ (d : Corner). d.x) e)) (near_from_test m (corner s i).x p.0);
      y = subst (Near m) (sym (ap (λ (d : Corner). d.y) e)) (near_from_test m (corner s i).y p.1);
    }

-- shapes of the code have as many corners as there is room for
fits : {n : ℕ} (s : Shaped n) → length (shape_of s) ≤ n
fits s = omega (arith, length_kept s.count s.corners (omega (arith, s.few)), s.few)

pub both_fit : {m n g : ℕ} (load : Shaped m) (thing : Shaped n) → m + n ≤ g → length (shape_of load) + length (shape_of thing) ≤ g
both_fit load thing h = omega (arith, fits load, fits thing)

-- the first n of an array
pub within_met : (m n : ℕ) (cs : List code.Corner) → n ≤ length cs → ((k : ℕ) → k < n → CornerNear m (get_or cs k zero)) → (s : Shape) → s ≡ outline n cs → T (within m s)
unfolding within
within_met m n cs few near s is =
    let l : length s ≡ n = ap length is ∙ length_kept n cs few in
    holds (all_from (length s) _ (λ i h.
    let k : i < n = omega arith in
    let e : corner_of (get_or cs i zero) ≡ corner s i = corner_kept n cs few i k ∙ sym (ap (λ (x : Shape). corner x i) is) in
    and_from _ _
    (test_from_near m (corner s i).x (subst (Near m) (ap (λ (d : Corner). d.x) e) (near i k).x))
    (test_from_near m (corner s i).y (subst (Near m) (ap (λ (d : Corner). d.y) e) (near i k).y))))
