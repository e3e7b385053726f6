-- Numbers in parts of 48 bits, and what is known of a part from the number. A number that is split has gone to its bits and back. Assumes nothing.
use Rattle.std.proofs.Common.{◌≡◌, ℕ, ◌*◌, ◌^◌, [], ◌∷◌, ℤ, pos, ◌+ℤ◌, ◌*ℤ◌, ◌<ℤ◌, Ordering, Less, Equal, Greater, sym, refl, ◌∙◌, subst, ap₂, arith, to_z, of_z}
use mir.Syntax.{w128}
use borrow.Author.Differences.{ints}
use Rattle.std.specs.Ordering.{MatchOrdering, ordering_then, int_cmp}
use Rattle.std.specs.Cmp.{int_ranks}
use Rattle.std.proofs.lemmas.Int.{to_z-of_z}
use Rattle.algebra.specs.Near.{Near}
use Rattle.algebra.proofs.Polynomial.{forms, by_ring}
use Rattle.algebra.proofs.Order.{by-≡}
use Rattle.algebra.proofs.Ranges.{knows, by_size, by_value, k_up}
use Rattle.exact.specs.declared.wide.Halves.{Halves}
use Rattle.exact.specs.declared.wide.Thirds.{Thirds}
use Rattle.exact.specs.Wide.{halves_value, thirds_value, Digit, HalvesNear, ThirdsNear, Carried}
use Rattle.exact.proofs.Bounds.{by_near, kept}

pub digit_kept : (z : ℤ) → Digit z → Digit (to_z w128 (of_z w128 z))
digit_kept z d = subst Digit (sym (to_z-of_z w128 z (by_size (k_up d.most d.least) tt))) d

-- the high part is as much less as 48 bits are
high_near : (m : ℕ) (a : ℤ) (h : Halves) → Near (m * 2 ^ 48) a → halves_value h ≡ a → Digit h.low → Near m h.high
high_near m a h n e p = record { low = omega (arith, ints, n.low, p.least, p.most); high = omega (arith, ints, n.high, p.least, p.most) }

-- ---- a factor, split
pub halves_value_same : (a : ℤ) (h : Halves) → Near (2 ^ 96) a → halves_value h ≡ to_z w128 (of_z w128 a) → halves_value h ≡ a
halves_value_same a h n e = e ∙ kept w128 a n tt

pub halves_near : (a : ℤ) (h : Halves) → Near (2 ^ 96) a → halves_value h ≡ to_z w128 (of_z w128 a) → Digit h.low → HalvesNear h
halves_near a h n e p = record { high = high_near (2 ^ 48) a h n (halves_value_same a h n e) p; low = p }

-- ---- the low part l of t has gone up into its middle part, and that is m
pub low_near : (t : Thirds) (l : Halves) → ThirdsNear (2 ^ 98) t → halves_value l ≡ to_z w128 (of_z w128 t.low) → Digit l.low → Near (2 ^ 50) l.high
low_near t l n e p = high_near (2 ^ 50) t.low l n.low (e ∙ kept w128 t.low n.low tt) p

module _ (t : Thirds) (l m : Halves) (n : ThirdsNear (2 ^ 98) t) (e : halves_value l ≡ to_z w128 (of_z w128 t.low)) (p : Digit l.low) (f : halves_value m ≡ to_z w128 (of_z w128 (to_z w128 (of_z w128 t.middle) +ℤ to_z w128 (of_z w128 l.high)))) where
  middle_value : halves_value m ≡ t.middle +ℤ l.high
  middle_value = let h : Near (2 ^ 50) l.high = low_near t l n e p in f ∙ by_value (search (knows, n.middle, h) depth 60 fits 99999) refl

  pub middle_near : Digit m.low → Near (2 ^ 51) m.high
  middle_near q =
      let h : Near (2 ^ 50) l.high = low_near t l n e p in
      let k : Near (2 ^ 99) (t.middle +ℤ l.high) = by_near (search (knows, n.middle, h) depth 60 fits 99999) tt in
      high_near (2 ^ 51) (t.middle +ℤ l.high) m k middle_value q

  -- nothing is lost on the way
  pub carried_value : (((t.high +ℤ m.high) *ℤ pos (2 ^ 96)) +ℤ (m.low *ℤ pos (2 ^ 48))) +ℤ l.low ≡ thirds_value t
  carried_value =
      by-≡ ((halves_value m *ℤ pos (2 ^ 48)) +ℤ halves_value l) (((t.middle +ℤ l.high) *ℤ pos (2 ^ 48)) +ℤ t.low) (ap₂ (λ (y z : ℤ). (y *ℤ pos (2 ^ 48)) +ℤ z) middle_value (e ∙ kept w128 t.low n.low tt))
      (by_ring (t.high ∷ t.middle ∷ t.low ∷ l.high ∷ l.low ∷ m.high ∷ m.low ∷ []) (search forms depth 60 fits 99999) refl)

-- ---- the sign of a number whose lower parts have none: that of its first part that isn't 0
parts_ranked : (p q r : Ordering) (h m l n : ℤ) → ((h *ℤ pos (2 ^ 96)) +ℤ (m *ℤ pos (2 ^ 48))) +ℤ l ≡ n → Digit m → Digit l →
    MatchOrdering p (h <ℤ pos 0) (h ≡ pos 0) (pos 0 <ℤ h) → MatchOrdering q (m <ℤ pos 0) (m ≡ pos 0) (pos 0 <ℤ m) → MatchOrdering r (l <ℤ pos 0) (l ≡ pos 0) (pos 0 <ℤ l) →
    MatchOrdering (ordering_then (ordering_then p q) r) (n <ℤ pos 0) (n ≡ pos 0) (pos 0 <ℤ n)
parts_ranked Less q r h m l n e d g i j k = omega (arith, ints, d.most, g.most)
parts_ranked Greater q r h m l n e d g i j k = omega (arith, ints, d.least, g.least)
parts_ranked Equal Less r h m l n e d g i j k = omega (arith, ints, d.least)
parts_ranked Equal Greater r h m l n e d g i j k = omega (arith, ints, g.least)
parts_ranked Equal Equal Less h m l n e d g i j k = omega (arith, ints, g.least)
parts_ranked Equal Equal Equal h m l n e d g i j k = omega (arith, ints)
parts_ranked Equal Equal Greater h m l n e d g i j k = omega (arith, ints)

pub carried_ranked : (t : Thirds) (n : ℤ) → Carried t → thirds_value t ≡ n →
    MatchOrdering (ordering_then (ordering_then (int_cmp (to_z w128 (of_z w128 t.high)) (pos 0)) (int_cmp (to_z w128 (of_z w128 t.middle)) (pos 0))) (int_cmp (to_z w128 (of_z w128 t.low)) (pos 0))) (n <ℤ pos 0) (n ≡ pos 0) (pos 0 <ℤ n)
carried_ranked t n c e =
    let h = to_z w128 (of_z w128 t.high) in
    let m = to_z w128 (of_z w128 t.middle) in
    let l = to_z w128 (of_z w128 t.low) in
    let v = by_value (search (knows, c.high, c.middle.most, c.middle.least, c.low.most, c.low.least) depth 60 fits 99999) e in
    parts_ranked (int_cmp h (pos 0)) (int_cmp m (pos 0)) (int_cmp l (pos 0)) h m l n v (digit_kept t.middle c.middle) (digit_kept t.low c.low) (int_ranks h (pos 0)) (int_ranks m (pos 0)) (int_ranks l (pos 0))
