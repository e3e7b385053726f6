-- The sides of two rounds merged by direction: each step keeps to the left of both, and turns left from the last. Assumes nothing.
use Rattle.std.proofs.Common.{◌≡◌, ℕ, suc, ◌+◌, ◌<◌, ◌≤◌, [], pos, ◌+ℤ◌, ◌<ℤ◌, sym, refl, ◌∙◌, subst, arith}
use borrow.Author.Differences.{ints}
use Rattle.algebra.specs.Hall.{Corner}
use Rattle.algebra.proofs.Polynomial.{forms, by_ring}
use Rattle.algebra.proofs.Forms.{of_corner}
use Rattle.obstacle.specs.Growth.{minus, turn}
use Rattle.obstacle.specs.Merging.{Before, Alike, onward}
use Rattle.obstacle.proofs.Strict.{corner_same}
use Rattle.obstacle.proofs.MergingCones.{NotAfter, before_not_after, alike_back, alike_not_after, not_after}
use Rattle.obstacle.proofs.MergingRound.{Round, Fits, Lower, stop, leg, bend, hold, order, fits, ahead, onward_below}

abbrev pub add : Corner → Corner → Corner
add u v = record { x = u.x +ℤ v.x; y = u.y +ℤ v.y }

add_turn : (u v z : Corner) → turn (add u v) z ≡ turn u z +ℤ turn v z
add_turn u v z = by_ring (of_corner u (of_corner v (of_corner z []))) (search forms depth 60 fits 99999) refl

turn_add : (z u v : Corner) → turn z (add u v) ≡ turn z u +ℤ turn z v
turn_add z u v = by_ring (of_corner u (of_corner v (of_corner z []))) (search forms depth 60 fits 99999) refl

turn_over : (d a b z : Corner) → turn d (minus z a) ≡ turn d (minus z b) +ℤ turn d (minus b a)
turn_over d a b z = by_ring (of_corner d (of_corner a (of_corner b (of_corner z [])))) (search forms depth 60 fits 99999) refl

pub add_swap : (u v : Corner) → add u v ≡ add v u
add_swap u v = corner_same (omega (arith, ints)) (omega (arith, ints))

-- one step along d, of n sides e and m sides f
pub data Move (e f : ℕ → Corner) (n m : ℕ) (d : Corner) : ℕ → ℕ → ℕ → ℕ → Type 0 where
  one : {i j : ℕ} → i < n → (j < m → Before (e i) (f j)) → d ≡ e i → Move e f n m d i j (suc i) j
  other : {i j : ℕ} → j < m → (i < n → Before (f j) (e i)) → d ≡ f j → Move e f n m d i j i (suc j)
  both : {i j : ℕ} → i < n → j < m → Alike (e i) (f j) → d ≡ add (e i) (f j) → Move e f n m d i j (suc i) (suc j)

pub mirror : {e f : ℕ → Corner} {n m : ℕ} {d : Corner} {i j h k : ℕ} → Move e f n m d i j h k → Move f e m n d j i k h
mirror (one l b s) = other l b s
mirror (other l b s) = one l b s
mirror {e} {f} {i = i} {j = j} (both l k b s) = both k l (alike_back (e i) (f j) b) (s ∙ add_swap (e i) (f j))

-- how far a step goes
pub record Grows (i j h k : ℕ) : Type 0 where
  pub more : i + j < h + k
  pub one : h ≤ suc i

pub grows : {e f : ℕ → Corner} {n m : ℕ} {d : Corner} {i j h k : ℕ} → Move e f n m d i j h k → Grows i j h k
grows (one l b s) = record { more = omega arith; one = omega arith }
grows (other l b s) = record { more = omega arith; one = omega arith }
grows (both l k b s) = record { more = omega arith; one = omega arith }

-- where one has turned left to both next sides, one turns left to the next step
pub turns_on : {e f : ℕ → Corner} {n m : ℕ} {d : Corner} {i j h k : ℕ} (c : Corner) → pos 0 <ℤ turn c (e i) → pos 0 <ℤ turn c (f j) → Move e f n m d i j h k → pos 0 <ℤ turn c d
turns_on c t u (one l b s) = subst (λ (z : Corner). pos 0 <ℤ turn c z) (sym s) t
turns_on c t u (other l b s) = subst (λ (z : Corner). pos 0 <ℤ turn c z) (sym s) u
turns_on {e} {f} {i = i} {j = j} c t u (both l k b s) = subst (λ (z : Corner). pos 0 <ℤ turn c z) (sym s) (omega (arith, ints, turn_add c (e i) (f j)))

-- after i sides of the one round and j of the other: what was taken of the other is not after what is next of the one
pub record Half (n a : ℕ) (q : ℕ → Corner) (m b : ℕ) (p : ℕ → Corner) (i j : ℕ) : Type 0 where
  pub bound : i ≤ n
  pub after : i < n → Lower m b p j (leg n a q i)

module _ {n a : ℕ} {q : ℕ → Corner} {m b : ℕ} {p : ℕ → Corner} (r : Round n a q) (s : Round m b p) where
  abbrev e : ℕ → Corner
  e i = leg n a q i

  abbrev f : ℕ → Corner
  f j = leg m b p j

  after_next : (i : ℕ) (d : Corner) → suc i < n → NotAfter d (e i) → NotAfter d (e (suc i))
  after_next i d l k = not_after d (e i) (e (suc i)) k (before_not_after (e i) (e (suc i)) (order r i l))

  pub half_next : {d : Corner} {i j h k : ℕ} → Half n a q m b p i j → Move e f n m d i j h k → Half n a q m b p h k
  half_next {i = i} {j = j} o (one l c g) = record { bound = omega arith; after = λ v h u. after_next i (f h) v (o.after l h u) }
  half_next {i = i} {j = j} o (other l c g) =
      record { bound = o.bound; after = λ v h u. let w : j ≡ h = omega arith in subst (λ (x : ℕ). NotAfter (f x) (e i)) w (before_not_after (f j) (e i) (c v)) }
  half_next {i = i} {j = j} o (both l k c g) =
      record {
        bound = omega arith;
        after = λ v h u. let w : j ≡ h = omega arith in after_next i (f h) v (subst (λ (x : ℕ). NotAfter (f x) (e i)) w (alike_not_after (f j) (e i) (alike_back (e i) (f j) c)));
      }

  -- the other round's next side, which is not before the last that was taken of this one
  other_fits : (i j : ℕ) → i ≤ n → (j < m → Lower n a q i (f j)) → j < m → (i < n → NotAfter (f j) (e i)) → Fits n a q i (f j)
  other_fits i j bound low l c = fits r i (f j) bound (low l) c

  pub step_fits : {d : Corner} {i j h k : ℕ} → i ≤ n → (j < m → Lower n a q i (f j)) → Move e f n m d i j h k → Fits n a q i d
  step_fits {i = i} {j = j} v w (one l c g) = subst (λ (x : Corner). Fits n a q i x) (sym g) (hold r i)
  step_fits {i = i} {j = j} v w (other l c g) = subst (λ (x : Corner). Fits n a q i x) (sym g) (other_fits i j v w l (λ u. before_not_after (f j) (e i) (c u)))
  step_fits {i = i} {j = j} v w (both l k c g) =
      let o = other_fits i j v w k (λ u. alike_not_after (f j) (e i) (alike_back (e i) (f j) c)) in
      subst (λ (x : Corner). Fits n a q i x) (sym g) (λ x y. let z = minus (q x) (stop n a q i) in omega (arith, ints, add_turn (e i) (f j) z, hold r i x y, o x y))

  pub step_ahead : {d : Corner} {i j h k : ℕ} → i ≤ n → (j < m → Lower n a q i (f j)) → Move e f n m d i j h k → pos 0 <ℤ turn d (e h)
  step_ahead {i = i} {j = j} v w (one l c g) = subst (λ (x : Corner). pos 0 <ℤ turn x (e (suc i))) (sym g) (bend r i)
  step_ahead {i = i} {j = j} v w (other l c g) = subst (λ (x : Corner). pos 0 <ℤ turn x (e i)) (sym g) (ahead r i (f j) v (w l) c)
  step_ahead {i = i} {j = j} v w (both l k c g) =
      let back = alike_back (e i) (f j) c in
      let o = other_fits i j v w k (λ u. alike_not_after (f j) (e i) back) (onward n a (suc (suc i))) (onward_below n a (suc (suc i)) r.within) in
      let t = turn_over (f j) (stop n a q i) (stop n a q (suc i)) (stop n a q (suc (suc i))) in
      subst (λ (x : Corner). pos 0 <ℤ turn x (e (suc i))) (sym g) (omega (arith, ints, add_turn (e i) (f j) (e (suc i)), bend r i, back.1))
