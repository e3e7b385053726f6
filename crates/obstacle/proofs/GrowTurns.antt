-- Directions, in the order in which one turns left from the one to the right. Assumes nothing.
use Rattle.std.proofs.Common.{◌≡◌, Bool, true, false, ◌⊎◌, [], ◌∷◌, pos, neg_ℤ, ◌<ℤ◌, ℤ, subst, Decides, Ordering, Less, Equal, Greater, refl, inl, inr, arith}
use borrow.Author.Differences.{ints}
use Rattle.std.specs.Ordering.{MatchOrdering, bool_cmp, int_cmp}
use Rattle.std.proofs.lemmas.Cmp.{int_ranked}
use Rattle.std.proofs.lemmas.Bool.Decides.{not_from_Decides}
use Rattle.algebra.specs.Hall.{Corner}
use Rattle.algebra.proofs.Polynomial.{forms, by_ring}
use Rattle.obstacle.specs.Growth.{turn}
use Rattle.obstacle.specs.Merging.{Up, Down, SameHalf, Before, Alike}

pub turn_back : (d e : Corner) → turn e d ≡ neg_ℤ (turn d e)
turn_back d e = by_ring (d.x ∷ d.y ∷ e.x ∷ e.y ∷ []) (search forms depth 60 fits 99999) refl

pub same_half_back : (d e : Corner) → SameHalf d e → SameHalf e d
same_half_back d e (inl h) = inl (h.1, h.0)
same_half_back d e (inr h) = inr (h.1, h.0)

-- what points up doesn't point down, and what isn't zero points one way or the other
pub down_from_not_up : (d : Corner) → Up d ⊎ Down d → (Up d → ⊥) → Down d
down_from_not_up d (inl u) n = absurd (n u)
down_from_not_up d (inr h) n = h

-- of two in the same half the first is the one from which the other is to the left
pub ranked_in_half : (r : Ordering) (d e : Corner) → SameHalf d e → MatchOrdering r (pos 0 <ℤ turn d e) (pos 0 ≡ turn d e) (turn d e <ℤ pos 0) → MatchOrdering r (Before d e) (Alike d e) (Before e d)
ranked_in_half Less d e s h = inr (s, h)
ranked_in_half Equal d e s h = (s, omega (arith, ints))
ranked_in_half Greater d e s h = inr (same_half_back d e s, omega (arith, ints, turn_back d e))

-- by halves first, those that point up before the others; P is what is known of the answer where both are in one half
pub ranked : (u v : Bool) (r : Ordering) (d e : Corner) (P : Type 0) → Decides u (Up d) → Decides v (Up e) → Up d ⊎ Down d → Up e ⊎ Down e → MatchOrdering (bool_cmp v u) (r ≡ Less) P (r ≡ Greater) →
    (P → MatchOrdering r (pos 0 <ℤ turn d e) (pos 0 ≡ turn d e) (turn d e <ℤ pos 0)) → MatchOrdering r (Before d e) (Alike d e) (Before e d)
ranked true true r d e P h k p q w turns = ranked_in_half r d e (inl (h.0 refl, k.0 refl)) (turns w)
ranked false false r d e P h k p q w turns = ranked_in_half r d e (inr (down_from_not_up d p (not_from_Decides false h refl), down_from_not_up e q (not_from_Decides false k refl))) (turns w)
ranked true false r d e P h k p q w turns = rw w (inl (h.0 refl, down_from_not_up e q (not_from_Decides false k refl)))
ranked false true r d e P h k p q w turns = rw w (inl (k.0 refl, down_from_not_up d p (not_from_Decides false h refl)))

-- what `cmp` answers of 0 and a turn
pub turned : (r : Ordering) (z t : ℤ) → r ≡ int_cmp (pos 0) z → z ≡ t → MatchOrdering r (pos 0 <ℤ t) (pos 0 ≡ t) (t <ℤ pos 0)
turned r z t e f = subst (λ (x : ℤ). MatchOrdering r (pos 0 <ℤ x) (pos 0 ≡ x) (x <ℤ pos 0)) f (int_ranked (pos 0) z r e)
