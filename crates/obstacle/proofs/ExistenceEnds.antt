-- Corners in order, from below and in a row from the left: every shape has a lowest and a highest one, and of two that are apart one points up to
-- the other. Assumes nothing.
use Rattle.std.proofs.Common.{◌≡◌, ℕ, zero, suc, ◌<◌, ◌⊎◌, length, ◌-ℤ◌, sym, subst, inl, inr, ⊎_elim, arith, below_none, below_more}
use borrow.Author.Differences.{ints}
use Rattle.algebra.specs.Hall.{Corner, Shape, corner}
use Rattle.obstacle.specs.Growth.{minus}
use Rattle.obstacle.specs.Merging.{Up, Down, Lowest, Highest}
use Rattle.obstacle.proofs.Signs.{by_sign}
use Rattle.obstacle.proofs.Strict.{corner_same}
use Rattle.obstacle.proofs.MergingCones.{up_opposite}
use Rattle.obstacle.proofs.MergingRound.{minus_back}

-- ---- c is d, or up from it
abbrev From : Corner → Corner → Type 0
From c d = (c ≡ d) ⊎ Up (minus c d)

up_up : (c d e : Corner) → Up (minus c d) → Up (minus d e) → Up (minus c e)
up_up c d e (inl h) (inl k) = inl (omega (arith, ints))
up_up c d e (inl h) (inr k) = inl (omega (arith, ints))
up_up c d e (inr h) (inl k) = inl (omega (arith, ints))
up_up c d e (inr (h, m)) (inr (k, l)) = inr ((omega (arith, ints), omega (arith, ints)))

follow : (c d e : Corner) → From c d → From d e → From c e
follow c d e (inl p) r = subst (λ (z : Corner). From z e) (sym p) r
follow c d e (inr h) (inl p) = inr (subst (λ (z : Corner). Up (minus c z)) p h)
follow c d e (inr h) (inr k) = inr (up_up c d e h k)

compare : (c d : Corner) → From c d ⊎ From d c
compare c d =
    by_sign (c.y -ℤ d.y) (λ h. inr (inr (inl (omega (arith, ints)))))
    (λ e. by_sign (c.x -ℤ d.x) (λ h. inr (inr (inr ((omega (arith, ints), omega (arith, ints)))))) (λ f. inl (inl (corner_same (omega (arith, ints)) (omega (arith, ints)))))
    (λ h. inl (inr (inr ((e, h))))))
    (λ h. inl (inr (inl h)))

down_back : (c d : Corner) → Up (minus d c) → Down (minus c d)
down_back c d h = subst Down (minus_back d c) (up_opposite (minus d c) h)

pub apart_half : (c d : Corner) → (c ≡ d → ⊥) → Up (minus c d) ⊎ Down (minus c d)
apart_half c d ne =
    ⊎_elim (λ r. ⊎_elim (λ e. absurd (ne e)) (λ h. inl h) r) (λ r. ⊎_elim (λ e. absurd (ne (sym e))) (λ h. inr (down_back c d h)) r) (compare c d)

-- ---- the first of some corners in an order
record First (R : Corner → Corner → Type 0) (q : ℕ → Corner) (n : ℕ) : Type 0 where
  pub it : ℕ
  pub within : it < n
  pub is : (i : ℕ) → i < n → R (q i) (q it)

module _ (R : Corner → Corner → Type 0) (total : (c d : Corner) → R c d ⊎ R d c) (on : (c d e : Corner) → R c d → R d e → R c e) (q : ℕ → Corner) where
  itself : (c : Corner) → R c c
  itself c = ⊎_elim (λ h. h) (λ h. h) (total c c)

  first : (m : ℕ) → First R q (suc m)
  first zero = record { it = 0; within = omega arith; is = λ i h. below_more (λ k. R (q k) (q 0)) 0 (below_none _) (itself (q 0)) i (omega arith) }
  first (suc m) =
      let b = first m in
      ⊎_elim
      (λ h. record { it = b.it; within = omega (arith, b.within); is = λ i l. below_more (λ k. R (q k) (q b.it)) (suc m) b.is h i (omega arith) })
      (λ h. record {
        it = suc m;
        within = omega arith;
        is = λ i l. below_more (λ k. R (q k) (q (suc m))) (suc m) (λ k o. on (q k) (q b.it) (q (suc m)) (b.is k o) h) (itself (q (suc m))) i (omega arith);
      })
      (total (q (suc m)) (q b.it))

-- ---- the lowest and the highest corner
pub record Some (P : ℕ → Type 0) : Type 0 where
  pub it : ℕ
  pub is : P it

pub lowest : (s : Shape) (m : ℕ) → suc m ≡ length s → Some (Lowest s)
lowest s m e =
    let f = first From compare follow (corner s) m in
    record { it = f.it; is = record { within = omega (arith, f.within); least = λ i h. f.is i (omega arith) } }

pub highest : (s : Shape) (m : ℕ) → suc m ≡ length s → Some (Highest s)
highest s m e =
    let f = first (λ c d. From d c) (λ c d. compare d c) (λ b c d h k. follow d c b k h) (corner s) m in
    record {
      it = f.it;
      is = record { within = omega (arith, f.within); most = λ i h. ⊎_elim (λ p. inl (sym p)) (λ u. inr (down_back (corner s i) (corner s f.it) u)) (f.is i (omega arith)) };
    }
