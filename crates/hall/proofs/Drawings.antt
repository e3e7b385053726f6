-- The tests that the types of shapes, halls and ways keep, from what is known of what was read. Assumes nothing.
use Rattle.std.proofs.Common.{◌≡◌, ℕ, Bool, true, T, length, sym, subst}
use Rattle.std.proofs.lemmas.Bool.{and_from, le-leb}
use Rattle.algebra.specs.Hall.{Shape, corner}
use Rattle.exact.specs.declared.points.Place as code
use Rattle.exact.specs.Points.{place_of}
use Rattle.hall.specs.Outlines.{within, bounded}
use Rattle.hall.specs.Tasks.{Sized, Bounded}
use Rattle.hall.proofs.Faults.{all_from}
use Rattle.hall.proofs.Taken.{test_from_near}

pub holds : {b : Bool} → b ≡ true → T b
holds e = subst T (sym e) tt

pub within_from_sized : (m : ℕ) (s : Shape) → Sized m s → within m s ≡ true
unfolding within
within_from_sized m s h =
    all_from (length s) _ (λ i l. let n = h.near i l in and_from _ _ (test_from_near m (corner s i).x n.0) (test_from_near m (corner s i).y n.1))

pub bounded_from : (m : ℕ) (p : code.Place) → Bounded m (place_of p) → bounded m p ≡ true
unfolding bounded
bounded_from m p h =
    and_from _ _ (and_from _ _ (test_from_near m p.x h.x) (test_from_near m p.y h.y)) (and_from _ _ (le-leb 1 p.w h.real) (le-leb p.w m h.w))
