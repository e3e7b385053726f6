-- Once round a shape, from its lowest corner on: its sides come in order, and a direction between two of them has the shape to its left at the
-- corner between. Assumes nothing.
use Rattle.std.proofs.Common.{◌≡◌, ℕ, zero, suc, ◌+◌, ◌-◌, ◌<◌, ◌≤◌, ◌⊎◌, [], ℤ, pos, ◌≤ℤ◌, ◌<ℤ◌, sym, refl, ap, ◌∙◌, subst, inl, inr, ⊎_elim, arith}
use borrow.Author.Differences.{ints}
use Rattle.std.proofs.lemmas.Bool.{cases_eq}
use Rattle.algebra.specs.Hall.{Corner, next}
use Rattle.algebra.proofs.Polynomial.{forms, by_ring}
use Rattle.algebra.proofs.Order.{weaker}
use Rattle.algebra.proofs.Forms.{of_corner}
use Rattle.obstacle.specs.Growth.{minus, turn}
use Rattle.obstacle.specs.Merging.{Up, Down, Before, onward}
use Rattle.obstacle.proofs.Cycle.{steps, next_below}
use Rattle.obstacle.proofs.Strict.{corner_same}
use Rattle.obstacle.proofs.MergingCones.{opposite, up_opposite, has_half, NotAfter, first_up, last_down, before_first, turn_before, turn_after, not_after_cases, round_down, round_up, cone_left, keeps_down}

-- ---- numbers that go round
pub onward_below : (n a i : ℕ) → a < n → onward n a i < n
onward_below n a zero h = h
onward_below n a (suc i) h = next_below n (onward n a i) (onward_below n a i h)

onward_is : (n a i : ℕ) → a < n → i ≤ n → (onward n a i ≡ a + i) ⊎ (onward n a i + n ≡ a + i)
onward_is n a zero h k = inl (omega arith)
onward_is n a (suc i) h k =
    ⊎_elim
    (λ s. ⊎_elim (λ e. inl (omega arith)) (λ e. inr (omega arith)) (onward_is n a i h (omega arith)))
    (λ s. ⊎_elim (λ e. inr (omega arith)) (λ e. absurd (omega arith)) (onward_is n a i h (omega arith)))
    (steps n (onward n a i) (onward_below n a i h))

pub onward_round : (n a : ℕ) → a < n → onward n a n ≡ a
onward_round n a h = let b = onward_below n a n h in ⊎_elim (λ e. omega arith) (λ e. omega arith) (onward_is n a n h (omega arith))

pub onward_other : (n a i : ℕ) → a < n → 0 < i → i < n → onward n a i ≡ a → ⊥
onward_other n a i h k l f = ⊎_elim (λ e. omega arith) (λ e. omega arith) (onward_is n a i h (omega arith))

-- ---- corners
pub minus_back : (p q : Corner) → opposite (minus p q) ≡ minus q p
minus_back p q = corner_same (omega (arith, ints)) (omega (arith, ints))

-- a side seen from its end
from_end : (a b z : Corner) → turn (minus b a) (minus z b) ≡ turn (minus b a) (minus z a)
from_end a b z = by_ring (of_corner a (of_corner b (of_corner z []))) (search forms depth 60 fits 99999) refl

-- n corners that go round once to the left, corner a the lowest
pub record Round (n a : ℕ) (q : ℕ → Corner) : Type 0 where
  pub many : 3 ≤ n
  pub within : a < n
  pub rises : (k : ℕ) → k < n → (k ≡ a → ⊥) → Up (minus (q k) (q a))
  pub bends : (i : ℕ) → i < n → pos 0 <ℤ turn (minus (q (next n i)) (q i)) (minus (q (next n (next n i))) (q (next n i)))
  pub holds : (i k : ℕ) → i < n → k < n → pos 0 ≤ℤ turn (minus (q (next n i)) (q i)) (minus (q k) (q i))

-- the corner reached after i sides, and the side from there
module _ (n a : ℕ) (q : ℕ → Corner) where
  abbrev pub stop : ℕ → Corner
  stop i = q (onward n a i)

  abbrev pub leg : ℕ → Corner
  leg i = minus (stop (suc i)) (stop i)

  -- no corner is to the right of d, seen from there
  abbrev pub Fits : ℕ → Corner → Type 0
  Fits i d = (k : ℕ) → k < n → pos 0 ≤ℤ turn d (minus (q k) (stop i))

  -- d is not before the side that ends there, or not after the one that begins there; of the one at the start and of the one at the end nothing is asked
  abbrev pub Lower : ℕ → Corner → Type 0
  Lower i d = (h : ℕ) → suc h ≡ i → NotAfter (leg h) d

  abbrev pub Upper : ℕ → Corner → Type 0
  Upper i d = i < n → NotAfter d (leg i)

  abbrev pub StrictlyUpper : ℕ → Corner → Type 0
  StrictlyUpper i d = i < n → Before d (leg i)

module _ {n a : ℕ} {q : ℕ → Corner} (r : Round n a q) where
  abbrev c : ℕ → Corner
  c i = stop n a q i

  abbrev w : ℕ → Corner
  w i = leg n a q i

  below : (i : ℕ) → onward n a i < n
  below i = onward_below n a i r.within

  pub bend : (i : ℕ) → pos 0 <ℤ turn (w i) (w (suc i))
  bend i = r.bends (onward n a i) (below i)

  pub hold : (i : ℕ) → Fits n a q i (w i)
  hold i k h = r.holds (onward n a i) k (below i) h

  pub hold_on : (i : ℕ) → Fits n a q (suc i) (w i)
  hold_on i k h = subst (λ (z : ℤ). pos 0 ≤ℤ z) (sym (from_end (c i) (c (suc i)) (q k))) (hold i k h)

  pub stop_round : (l : ℕ) → l ≡ n → c l ≡ c 0
  stop_round l e = ap c e ∙ ap q (onward_round n a r.within)

  pub leg_round : (l : ℕ) → l ≡ n → w l ≡ w 0
  leg_round l e = ap w e ∙ ap (λ (x : ℕ). minus (q (next n x)) (q x)) (onward_round n a r.within)

  pub rise : (i : ℕ) → 0 < i → i < n → Up (minus (c i) (c 0))
  rise i h k = r.rises (onward n a i) (below i) (onward_other n a i r.within h k)

  pub first : Up (w 0)
  first = rise 1 (omega arith) (omega (arith, r.many))

  pub last : (l : ℕ) → suc l ≡ n → Down (w l)
  last l e =
      let down : Down (minus (c 0) (c l)) = subst Down (minus_back (c l) (c 0)) (up_opposite (minus (c l) (c 0)) (rise l (omega (arith, r.many)) (omega arith))) in
      subst (λ (z : Corner). Down (minus z (c l))) (sym (stop_round (suc l) e)) down

  -- from one side to the next
  pub order : (i : ℕ) → suc i < n → Before (w i) (w (suc i))
  order i h =
      let u = w i in
      let v = w (suc i) in
      let z = minus (c 0) (c (suc i)) in
      let up : Up (opposite z) = subst Up (sym (minus_back (c 0) (c (suc i)))) (rise (suc i) (omega arith) h) in
      ⊎_elim
      (λ hu. ⊎_elim (λ hv. inr ((inl ((hu, hv)), bend i))) (λ hv. inl ((hu, hv))) (has_half v (w (suc (suc i))) (bend (suc i))))
      (λ hu. ⊎_elim (λ hv. absurd (keeps_down u v z (bend i) hu hv up (hold_on i a r.within) (hold (suc i) a r.within))) (λ hv. inr ((inr ((hu, hv)), bend i))) (has_half v (w (suc (suc i))) (bend (suc i))))
      (has_half u v (bend i))

  -- ---- a direction between two sides
  fits_between : (h : ℕ) (d : Corner) → pos 0 ≤ℤ turn (w h) d → pos 0 ≤ℤ turn d (w (suc h)) → Fits n a q (suc h) d
  fits_between h d low high k m = cone_left (w h) d (w (suc h)) (minus (q k) (c (suc h))) (bend h) low high (hold_on h k m) (hold (suc h) k m)

  up_round : (h : ℕ) → suc h ≡ n → Up (w (suc h))
  up_round h e = subst Up (sym (leg_round (suc h) e)) first

  -- after the last side
  ahead_last : (h : ℕ) (d : Corner) → suc h ≡ n → NotAfter (w h) d → pos 0 <ℤ turn d (w (suc h))
  ahead_last h d e m =
      let down = last h e in
      let dd = last_down (w h) d down m in
      round_down (w h) d (w (suc h)) down (up_round h e) (bend h) dd.0 dd.1

  fits_last : (h : ℕ) (d : Corner) → suc h ≡ n → NotAfter (w h) d → Fits n a q (suc h) d
  fits_last h d e m = fits_between h d (last_down (w h) d (last h e) m).1 (weaker _ (ahead_last h d e m))

  fits_first : (h : ℕ) (d : Corner) → suc h ≡ n → NotAfter d (w 0) → Fits n a q 0 d
  fits_first h d e m =
      let uu = first_up d (w 0) first m in
      let high : pos 0 ≤ℤ turn d (w (suc h)) = subst (λ (z : Corner). pos 0 ≤ℤ turn d z) (sym (leg_round (suc h) e)) uu.1 in
      let low = round_up (w h) d (w (suc h)) (last h e) (up_round h e) (bend h) uu.0 high in
      subst (λ (z : Corner). (k : ℕ) → k < n → pos 0 ≤ℤ turn d (minus (q k) z)) (stop_round (suc h) e) (fits_between h d (weaker _ low) high)

  fits_inner : (h : ℕ) (d : Corner) → suc h < n → NotAfter (w h) d → NotAfter d (w (suc h)) → Fits n a q (suc h) d
  fits_inner h d l m o =
      fits_between h d (turn_before (w h) d (w (suc h)) (bend h) (order h l) m o)
      (⊎_elim (λ b. weaker _ (turn_after (w h) d (w (suc h)) (bend h) (order h l) m b)) (λ e. omega (arith, ints)) (not_after_cases d (w (suc h)) o))

  pub fits : (i : ℕ) (d : Corner) → i ≤ n → Lower n a q i d → Upper n a q i d → Fits n a q i d
  fits zero d l m o = fits_first (n - 1) d (omega (arith, r.many)) (o (omega (arith, r.many)))
  fits (suc h) d l m o = ⊎_elim (λ e. fits_last h d e (m h refl)) (λ ne. let s : suc h < n = omega arith in fits_inner h d s (m h refl) (o s)) (cases_eq (suc h) n)

  pub ahead : (i : ℕ) (d : Corner) → i ≤ n → Lower n a q i d → StrictlyUpper n a q i d → pos 0 <ℤ turn d (w i)
  ahead zero d l m o = before_first d (w 0) first (o (omega (arith, r.many)))
  ahead (suc h) d l m o =
      ⊎_elim (λ e. ahead_last h d e (m h refl)) (λ ne. let s : suc h < n = omega arith in turn_after (w h) d (w (suc h)) (bend h) (order h s) (m h refl) (o s)) (cases_eq (suc h) n)
