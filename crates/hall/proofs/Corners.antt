-- The corners that were read make the shape that stands in the bytes, and keep its bounds. Assumes nothing.
use Rattle.std.proofs.Common.{◌≡◌, ℕ, ◌+◌, ◌*◌, ◌<◌, ◌≤◌, true, List, length, get_or, take, ℤ, pos, None, sym, ap, ◌∙◌, subst, arith}
use Rattle.std.proofs.lemmas.List.{ext_get_or, get_or-take, length-take-le}
use Rattle.std.proofs.lemmas.Int.{ints}
use Rattle.std.proofs.lemmas.Bool.{and_from}
use Rattle.algebra.specs.Hall as hall
use Rattle.algebra.specs.Near.{Near}
use Rattle.exact.specs.declared.points.Corner.{Corner}
use Rattle.exact.specs.Points.{corner_of, zero}
use Rattle.hall.specs.Bytes.{signed_2}
use Rattle.hall.specs.Format.{near, first_below, number_at, corner_at, corners_at}
use Rattle.hall.specs.Outlines.{outline_of, within}
use Rattle.hall.proofs.Faults.{below_none, test_from_none, all_from}
use Rattle.hall.proofs.Outlines.{corner_outline, length_outline}
use Rattle.hall.proofs.Taken.{near_from_test, test_from_near}
use Rattle.hall.proofs.Sounds.{length_corners_at, corner_corners_at}

-- a test with a lower bound
near_wider : (m l : ℕ) (z : ℤ) → m ≤ l → near m z ≡ true → near l z ≡ true
near_wider m l z h e =
    let n = near_from_test m z e in
    let w : Near l z = record { low = omega (arith, ints); high = omega (arith, ints) } in
    test_from_near l z w

-- eight corners cs were read from the byte `from` on, of which n make a shape
module _ (bs : List ℕ) (cs : List Corner) (from n : ℕ) (room : length cs ≡ 8) (few : n ≤ 8)
    (reads : (k : ℕ) → k < 8 → corner_of (get_or cs k zero) ≡ corner_at bs (from + 4 * k)) where
  pub length_read : length (take n cs) ≡ n
  length_read = length-take-le n cs (omega arith)

  pub corner_read : (k : ℕ) → k < n → corner_of (get_or (take n cs) k zero) ≡ corner_at bs (from + 4 * k)
  corner_read k h = ap corner_of (get_or-take n cs k zero h) ∙ reads k (omega arith)

  pub outline_read : outline_of (take n cs) ≡ corners_at n bs from
  outline_read =
      let e : length (outline_of (take n cs)) ≡ n = length_outline (take n cs) ∙ length_read in
      ext_get_or (record { x = pos 0; y = pos 0 }) _ _ (e ∙ sym (length_corners_at n bs from))
      (λ i h.
      let l : i < n = subst (λ (m : ℕ). i < m) e h in
      corner_outline (take n cs) i ∙ (corner_read i l ∙ sym (corner_corners_at n bs from i l)))

  pub within_read : (m l : ℕ) → m ≤ l → ((k : ℕ) → k < 2 * n → near m (signed_2 bs (from + 2 * k)) ≡ true) → within l (outline_of (take n cs)) ≡ true
  unfolding within
  within_read m l b h =
      all_from (length (outline_of (take n cs))) _
      (λ i p.
      let q : i < n = omega (arith, p, length_outline (take n cs), length_read) in
      let c : corner_at bs (from + 4 * i) ≡ hall.corner (outline_of (take n cs)) i = sym (corner_outline (take n cs) i ∙ corner_read i q) in
      let x : from + 2 * (2 * i) ≡ from + 4 * i = omega arith in
      let y : from + 2 * (2 * i + 1) ≡ from + 4 * i + 2 = omega arith in
      and_from _ _
      (ap (λ (d : hall.Corner). near l d.x) (sym c) ∙ near_wider m l _ b (rw x at (h (2 * i) (omega arith))))
      (ap (λ (d : hall.Corner). near l d.y) (sym c) ∙ near_wider m l _ b (rw y at (h (2 * i + 1) (omega arith)))))

-- the tests of the numbers of a shape at `at`, one by one
pub numbers_near : (m : ℕ) (bs : List ℕ) (at n : ℕ) → first_below n (number_at m bs at) ≡ None → (k : ℕ) → k < n → near m (signed_2 bs (at + 1 + 2 * k)) ≡ true
numbers_near m bs at n e k h = test_from_none _ _ (below_none n (number_at m bs at) e k h)
