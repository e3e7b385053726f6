-- The whole walk along the merged sides of two rounds. Assumes nothing.
use Rattle.std.proofs.Common.{◌≡◌, ℕ, zero, suc, ◌+◌, ◌-◌, ◌<◌, ◌≤◌, ◌⊎◌, pos, ◌+ℤ◌, ◌<ℤ◌, sym, ap, ◌∙◌, subst, ap₂, inl, inr, ⊎_elim, arith}
use borrow.Author.Differences.{ints}
use Rattle.std.proofs.lemmas.Bool.{cases_eq}
use Rattle.algebra.specs.Hall.{Corner}
use Rattle.obstacle.specs.Growth.{minus, turn}
use Rattle.obstacle.specs.Merging.{Up}
use Rattle.obstacle.proofs.MergingCones.{down_last}
use Rattle.obstacle.proofs.MergingRound.{Round, Fits, stop, leg, stop_round, leg_round, rise, first, last}
use Rattle.obstacle.proofs.MergingSteps.{Move, Half, add, add_swap, mirror, grows, turns_on, half_next, step_fits, step_ahead}

-- what has risen from one of two corners, and has not sunk from the other, is not where it was
apart : (c d b e : Corner) → add c b ≡ add d e → Up (minus c d) → (b ≡ e) ⊎ Up (minus b e) → ⊥
apart c d b e s h k =
    let x : c.x +ℤ b.x ≡ d.x +ℤ e.x = ap (λ (z : Corner). z.x) s in
    let y : c.y +ℤ b.y ≡ d.y +ℤ e.y = ap (λ (z : Corner). z.y) s in
    ⊎_elim
    (λ f. let fx : b.x ≡ e.x = ap (λ (z : Corner). z.x) f in let fy : b.y ≡ e.y = ap (λ (z : Corner). z.y) f in ⊎_elim (λ g. omega (arith, ints)) (λ g. omega (arith, ints)) h)
    (λ f. ⊎_elim (λ g. ⊎_elim (λ l. omega (arith, ints)) (λ l. omega (arith, ints)) f) (λ g. ⊎_elim (λ l. omega (arith, ints)) (λ l. omega (arith, ints)) f) h)
    k

data Where (x n : ℕ) : Type 0 where
  at_start : x ≡ 0 → Where x n
  at_end : x ≡ n → Where x n
  inner : 0 < x → x < n → Where x n

where_is : (x n : ℕ) → x ≤ n → Where x n
where_is x n h = ⊎_elim (λ e. at_start e) (λ k. ⊎_elim (λ e. at_end e) (λ l. inner (omega arith) (omega arith)) (cases_eq x n)) (cases_eq x 0)

-- a round is at its start, or above it
risen : {n a : ℕ} {q : ℕ → Corner} → Round n a q → (x : ℕ) → Where x n → (stop n a q x ≡ stop n a q 0) ⊎ Up (minus (stop n a q x) (stop n a q 0))
risen {n} {a} {q} r x (at_start e) = inl (ap (stop n a q) e)
risen r x (at_end e) = inl (stop_round r x e)
risen r x (inner h k) = inr (rise r x h k)

-- no round is at its end before the other begins
not_first : {n a : ℕ} {q : ℕ → Corner} {m b : ℕ} {p : ℕ → Corner} → Round n a q → Round m b p → (x y : ℕ) → Half n a q m b p x y → x ≡ 0 → y ≡ m → ⊥
not_first {n} {a} {q} {m} {b} {p} r s x y h e f =
    let l : suc (m - 1) ≡ m = omega (arith, s.many) in
    let o = h.after (omega (arith, r.many)) (m - 1) (omega arith) in
    down_last (leg m b p (m - 1)) (leg n a q x) (last s (m - 1) l) (subst (λ (z : ℕ). Up (leg n a q z)) (sym e) (first r)) o

-- two rounds are away from their starts between the start and the end of the walk
inner_away : {n a : ℕ} {q : ℕ → Corner} {m b : ℕ} {p : ℕ → Corner} → Round n a q → Round m b p → (x y : ℕ) → 0 < x → x < n → Where y m →
    add (stop n a q x) (stop m b p y) ≡ add (stop n a q 0) (stop m b p 0) → ⊥
inner_away {n} {a} {q} {m} {b} {p} r s x y c d g e = apart (stop n a q x) (stop n a q 0) (stop m b p y) (stop m b p 0) e (rise r x c d) (risen s y g)

module _ {n a : ℕ} {q : ℕ → Corner} {m b : ℕ} {p : ℕ → Corner} (r : Round n a q) (s : Round m b p) (x y : ℕ) (h : Half n a q m b p x y) (k : Half m b p n a q y x) where
  other_inner : 0 < y → y < m → Where x n → add (stop n a q x) (stop m b p y) ≡ add (stop n a q 0) (stop m b p 0) → ⊥
  other_inner c d g e = inner_away s r y x c d g (add_swap (stop m b p y) (stop n a q x) ∙ e ∙ add_swap (stop n a q 0) (stop m b p 0))

  away : 0 < x + y → x + y < n + m → Where x n → Where y m → add (stop n a q x) (stop m b p y) ≡ add (stop n a q 0) (stop m b p 0) → ⊥
  away v w (inner c d) g e = inner_away r s x y c d g e
  away v w (at_start g) (inner c d) e = other_inner c d (at_start g) e
  away v w (at_end g) (inner c d) e = other_inner c d (at_end g) e
  away v w (at_start c) (at_start d) e = omega arith
  away v w (at_start c) (at_end d) e = not_first r s x y h c d
  away v w (at_end c) (at_start d) e = not_first s r y x k d c
  away v w (at_end c) (at_end d) e = omega arith

module _ (n a : ℕ) (q : ℕ → Corner) (m b : ℕ) (p : ℕ → Corner) (i j : ℕ → ℕ) where
  -- where one is after k steps, and how one goes on
  abbrev pub place : ℕ → Corner
  place k = add (stop n a q (i k)) (stop m b p (j k))

  abbrev pub go : ℕ → Corner
  go k = minus (place (suc k)) (place k)

  -- t steps, from the start of both to the end of both
  pub record Walk (t : ℕ) : Type 0 where
    pub start : (i 0 ≡ 0) × (j 0 ≡ 0)
    pub finish : (i t ≡ n) × (j t ≡ m)
    pub moves : (k : ℕ) → k < t → Move (leg n a q) (leg m b p) n m (go k) (i k) (j k) (i (suc k)) (j (suc k))

module _ {n a : ℕ} {q : ℕ → Corner} {m b : ℕ} {p : ℕ → Corner} {i j : ℕ → ℕ} {t : ℕ} (r : Round n a q) (s : Round m b p) (w : Walk n a q m b p i j t) where
  abbrev at_step : ℕ → Corner
  at_step k = place n a q m b p i j k

  abbrev along : ℕ → Corner
  along k = go n a q m b p i j k

  -- both halves of what holds on the way
  one_half : (k : ℕ) → k ≤ t → Half n a q m b p (i k) (j k)
  one_half zero h = record { bound = omega (arith, w.start); after = λ v x e. absurd (omega (arith, w.start)) }
  one_half (suc k) h = half_next r s (one_half k (omega arith)) (w.moves k (omega arith))

  other_half : (k : ℕ) → k ≤ t → Half m b p n a q (j k) (i k)
  other_half zero h = record { bound = omega (arith, w.start); after = λ v x e. absurd (omega (arith, w.start)) }
  other_half (suc k) h = half_next s r (other_half k (omega arith)) (mirror (w.moves k (omega arith)))

  pub one_fits : (k : ℕ) → k < t → Fits n a q (i k) (along k)
  one_fits k h = step_fits r s (one_half k (omega arith)).bound (other_half k (omega arith)).after (w.moves k h)

  pub other_fits : (k : ℕ) → k < t → Fits m b p (j k) (along k)
  other_fits k h = step_fits s r (other_half k (omega arith)).bound (one_half k (omega arith)).after (mirror (w.moves k h))

  one_ahead : (k : ℕ) → k < t → pos 0 <ℤ turn (along k) (leg n a q (i (suc k)))
  one_ahead k h = step_ahead r s (one_half k (omega arith)).bound (other_half k (omega arith)).after (w.moves k h)

  other_ahead : (k : ℕ) → k < t → pos 0 <ℤ turn (along k) (leg m b p (j (suc k)))
  other_ahead k h = step_ahead s r (other_half k (omega arith)).bound (one_half k (omega arith)).after (mirror (w.moves k h))

  -- ---- the bends
  pub bends_on : (k : ℕ) → suc k < t → pos 0 <ℤ turn (along k) (along (suc k))
  bends_on k h = turns_on (along k) (one_ahead k (omega arith)) (other_ahead k (omega arith)) (w.moves (suc k) h)

  pub bends_round : (k : ℕ) → suc k ≡ t → pos 0 <ℤ turn (along k) (along 0)
  bends_round k e =
      let c : leg n a q (i (suc k)) ≡ leg n a q (i 0) = leg_round r (i (suc k)) (ap i e ∙ w.finish.0) ∙ ap (leg n a q) (sym w.start.0) in
      let d : leg m b p (j (suc k)) ≡ leg m b p (j 0) = leg_round s (j (suc k)) (ap j e ∙ w.finish.1) ∙ ap (leg m b p) (sym w.start.1) in
      turns_on (along k)
      (subst (λ (z : Corner). pos 0 <ℤ turn (along k) z) c (one_ahead k (omega arith)))
      (subst (λ (z : Corner). pos 0 <ℤ turn (along k) z) d (other_ahead k (omega arith)))
      (w.moves 0 (omega arith))

  pub place_start : at_step 0 ≡ add (stop n a q 0) (stop m b p 0)
  place_start = ap₂ (λ (x y : ℕ). add (stop n a q x) (stop m b p y)) w.start.0 w.start.1

  pub place_round : (k : ℕ) → k ≡ t → at_step k ≡ at_step 0
  place_round k e = ap₂ add (stop_round r (i k) (ap i e ∙ w.finish.0)) (stop_round s (j k) (ap j e ∙ w.finish.1)) ∙ sym place_start

  -- ---- the number of steps
  at_least : (k : ℕ) → k ≤ t → k ≤ i k + j k
  at_least zero h = omega arith
  at_least (suc k) h = omega (arith, at_least k (omega arith), (grows (w.moves k (omega arith))).more)

  at_most : (k : ℕ) → k ≤ t → i k ≤ k
  at_most zero h = omega (arith, w.start)
  at_most (suc k) h = omega (arith, at_most k (omega arith), (grows (w.moves k (omega arith))).one)

  pub many : 3 ≤ t
  many = omega (arith, at_most t (omega arith), w.finish, r.many)

  pub few : t ≤ m + n
  few = omega (arith, at_least t (omega arith), w.finish)

  pub once : (k : ℕ) → 0 < k → k < t → at_step k ≡ at_step 0 → ⊥
  once k h l e =
      let o = one_half k (omega arith) in
      let u = other_half k (omega arith) in
      let more = (grows (w.moves k l)).more in
      let end = (one_half (suc k) (omega arith)).bound in
      let fin = (other_half (suc k) (omega arith)).bound in
      away r s (i k) (j k) o u (omega (arith, at_least k (omega arith))) (omega arith) (where_is (i k) n o.bound) (where_is (j k) m u.bound) (e ∙ place_start)
