-- A place that is put together from three corners by weights. Assumes nothing.
use Rattle.std.proofs.Common.{◌≡◌, ℕ, ◌+◌, ◌<◌, [], ◌∷◌, length, ℤ, pos, negsuc, ◌+ℤ◌, ◌*ℤ◌, nat_abs, ◌≤ℤ◌, ◌<ℤ◌, sym, refl, ap₂, arith}
use borrow.Author.Differences.{ints}
use Rattle.algebra.specs.Hall.{Corner, Place, Shape, Covers, at, side, corner, next, edge, plus}
use Rattle.algebra.specs.Forms.{Form, Same, Weights, value, line}
use Rattle.algebra.proofs.Polynomial.{forms, by_ring}
use Rattle.algebra.proofs.Order.{signs, by-≡, pos>0, product>0}
use Rattle.algebra.proofs.Forms.{of_corner, of_form, side_is_form, triangle}
use Rattle.obstacle.specs.Growth.{minus}

unfoldable pub mix : Corner → Corner → Corner → ℕ → ℕ → ℕ → Place
mix a b c α β γ =
    record {
      x = ((pos α *ℤ a.x) +ℤ (pos β *ℤ b.x)) +ℤ (pos γ *ℤ c.x);
      y = ((pos α *ℤ a.y) +ℤ (pos β *ℤ b.y)) +ℤ (pos γ *ℤ c.y);
      w = (α + β) + γ;
    }

pub mix_real : (a b c : Corner) (α β γ : ℕ) → 0 < (α + β) + γ → 0 < (mix a b c α β γ).w
unfolding mix
mix_real a b c α β γ h = h

pub mix_value : (f : Form) (a b c : Corner) (α β γ : ℕ) →
    value f (mix a b c α β γ) ≡ ((pos α *ℤ value f (at a)) +ℤ (pos β *ℤ value f (at b))) +ℤ (pos γ *ℤ value f (at c))
unfolding value mix
mix_value f a b c α β γ = by_ring (of_form f (of_corner a (of_corner b (of_corner c (pos α ∷ pos β ∷ pos γ ∷ []))))) (search forms depth 60 fits 99999) refl

mix_side : (d e a b c : Corner) (α β γ : ℕ) → pos 0 ≤ℤ side d e (at a) → pos 0 ≤ℤ side d e (at b) → pos 0 ≤ℤ side d e (at c) → pos 0 ≤ℤ side d e (mix a b c α β γ)
mix_side d e a b c α β γ h k l =
    let ha : pos 0 ≤ℤ value (line d e) (at a) = rw side_is_form at h in
    let hb : pos 0 ≤ℤ value (line d e) (at b) = rw side_is_form at k in
    let hc : pos 0 ≤ℤ value (line d e) (at c) = rw side_is_form at l in
    rw (side_is_form, mix_value) (search signs)

-- what covers three corners covers what is put together from them
pub mix_covers : (s : Shape) (a b c : Corner) (α β γ : ℕ) → Covers s (at a) → Covers s (at b) → Covers s (at c) → Covers s (mix a b c α β γ)
unfolding Covers edge
mix_covers s a b c α β γ h k l i n = mix_side (corner s i) (corner s (next (length s) i)) a b c α β γ (h i n) (k i n) (l i n)

-- three differences put together, moved by what was taken away
pub mix_plus : (a b c d e f : Corner) (α β γ : ℕ) → Same (mix a b c α β γ) (plus (mix (minus a d) (minus b e) (minus c f) α β γ) (mix d e f α β γ))
unfolding mix plus
mix_plus a b c d e f α β γ =
    let ρ = of_corner a (of_corner b (of_corner c (of_corner d (of_corner e (of_corner f (pos α ∷ pos β ∷ pos γ ∷ [])))))) in
    record { x = by_ring ρ (search forms depth 60 fits 99999) refl; y = by_ring ρ (search forms depth 60 fits 99999) refl }

natural : (z : ℤ) → pos 0 ≤ℤ z → z ≡ pos (nat_abs z)
natural (pos n) h = refl
natural (negsuc n) h = absurd (omega (arith, ints))

-- p is put together from a, b and c, by weights that are not all 0
pub record Mixed (a b c : Corner) (p : Place) : Type 0 where
  pub α : ℕ
  pub β : ℕ
  pub γ : ℕ
  pub real : 0 < (α + β) + γ
  pub same : Same (mix a b c α β γ) p

-- a w = s, for the area a and the sum s of the weights; a x = m, and so m / s = x / w
weighed : (a x m : ℤ) (w s : ℕ) → pos s ≡ pos w *ℤ a → a *ℤ x ≡ m → m *ℤ pos w ≡ x *ℤ pos s
weighed a x m w s e f =
    sym
    (by-≡ ((x *ℤ pos s) +ℤ ((a *ℤ x) *ℤ pos w)) ((x *ℤ (pos w *ℤ a)) +ℤ (m *ℤ pos w)) (ap₂ (λ (y z : ℤ). (x *ℤ y) +ℤ (z *ℤ pos w)) e f)
    (by_ring (a ∷ x ∷ m ∷ pos w ∷ pos s ∷ []) (search forms depth 60 fits 99999) refl))

-- and so is each place of a triangle whose area is above 0
pub mixed : (a b c : Corner) (p : Place) → 0 < p.w → pos 0 <ℤ side a b (at c) → pos 0 ≤ℤ side a b p → pos 0 ≤ℤ side b c p → pos 0 ≤ℤ side c a p → Mixed a b c p
unfolding mix
mixed a b c p n area out far back =
    let t : Weights (pos (nat_abs (side b c p))) (pos (nat_abs (side c a p))) (pos (nat_abs (side a b p))) (side a b (at c)) a b c p =
    rw (← natural (side b c p) far, ← natural (side c a p) back, ← natural (side a b p) out) (triangle a b c p) in
    let some = product>0 (pos p.w) (side a b (at c)) (pos>0 p.w n) area in
    record {
      α = nat_abs (side b c p);
      β = nat_abs (side c a p);
      γ = nat_abs (side a b p);
      real = omega (arith, ints, t.sum);
      same = record {
        x = weighed (side a b (at c)) p.x _ p.w _ t.sum t.x;
        y = weighed (side a b (at c)) p.y _ p.w _ t.sum t.y;
      };
    }
