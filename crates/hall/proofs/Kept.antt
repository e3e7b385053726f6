-- What a shape keeps by its type. Assumes nothing.
use Rattle.std.proofs.Common.{◌≡◌, ℕ, ◌<◌, ◌≤◌, Bool, true, false, T, List, length, get_or, take, sym, refl, ap, subst, ◌∙◌}
use Rattle.std.proofs.lemmas.List.{length-take-le, get_or-take}
use Rattle.std.proofs.lemmas.Bool.{and_parts}
use Rattle.algebra.specs.Hall as hall
use Rattle.algebra.specs.Hall.{Sound, corner}
use Rattle.algebra.specs.Near.{Near}
use Rattle.exact.specs.declared.points.Corner.{Corner}
use Rattle.exact.specs.Points.{corner_of, zero}
use Rattle.exact.specs.Sides.{CornerNear}
use Rattle.hall.specs.Format.{sound}
use Rattle.hall.specs.Outlines.{outline, outline_of, within}
use Rattle.hall.proofs.Faults.{all_at}
use Rattle.hall.proofs.Outlines.{corner_outline, length_outline}
use Rattle.hall.proofs.Sounds.{sound_true}
use Rattle.hall.proofs.Taken.{near_from_test}

pub true_from_holds : (b : Bool) → T b → b ≡ true
true_from_holds true h = refl
true_from_holds false h = absurd h

-- each corner keeps the bound of all
pub near_each : (m : ℕ) (cs : List Corner) → T (within m (outline_of cs)) → (i : ℕ) → i < length cs → CornerNear m (get_or cs i zero)
unfolding within
near_each m cs t i h =
    let p = and_parts _ _ (all_at (length (outline_of cs)) _ (true_from_holds _ t) i (rw length_outline h)) in
    let x : Near m (corner (outline_of cs) i).x = near_from_test m _ p.0 in
    let y : Near m (corner (outline_of cs) i).y = near_from_test m _ p.1 in
    record { x = rw corner_outline at x; y = rw corner_outline at y }

module _ (n : ℕ) (cs : List Corner) (few : n ≤ length cs) where
  pub length_kept : length (outline n cs) ≡ n
  length_kept = length_outline (take n cs) ∙ length-take-le n cs few

  pub corner_kept : (i : ℕ) → i < n → corner_of (get_or cs i zero) ≡ corner (outline n cs) i
  corner_kept i h = sym (corner_outline (take n cs) i ∙ ap corner_of (get_or-take n cs i zero h))

  pub near_kept : (m : ℕ) → T (within m (outline n cs)) → (i : ℕ) → i < n → CornerNear m (get_or cs i zero)
  near_kept m t i h = subst (CornerNear m) (get_or-take n cs i zero h) (near_each m (take n cs) t i (rw length-take-le h))

pub sound_kept : (s : hall.Shape) → T (sound s) → Sound s
sound_kept s t = sound_true s (true_from_holds (sound s) t)
