-- The walk along the merged sides of two sound shapes can always go on to the end. Assumes nothing.
use Rattle.std.proofs.Common.{◌≡◌, ℕ, zero, suc, ◌+◌, ◌<◌, ◌≤◌, ◌⊎◌, length, sym, refl, subst, inl, inr, ⊎_elim, arith}
use borrow.Author.Differences.{ints}
use Rattle.std.proofs.lemmas.Bool.{cases_eq}
use Rattle.algebra.specs.Hall.{Corner, Shape, Sound, corner, next}
use Rattle.obstacle.specs.Growth.{turn}
use Rattle.obstacle.specs.Merging.{Up, Down, SameHalf, Before, Alike, Step, Merged, onward, thing_way, load_way, of_thing, of_load, of_both}
use Rattle.obstacle.proofs.Signs.{by_sign}
use Rattle.obstacle.proofs.Strict.{ends_apart}
use Rattle.obstacle.proofs.MergingCones.{turn_back}
use Rattle.obstacle.proofs.MergingRound.{onward_below}
use Rattle.obstacle.proofs.ExistenceEnds.{apart_half}

-- ---- of two directions one is before the other, or they are alike
abbrev Compared : Corner → Corner → Type 0
Compared d e = Before d e ⊎ (Before e d ⊎ Alike d e)

in_half : (d e : Corner) → SameHalf d e → SameHalf e d → Compared d e
in_half d e h k = by_sign (turn d e) (λ l. inr (inl (inr ((k, omega (arith, ints, turn_back d e)))))) (λ l. inr (inr ((h, l)))) (λ l. inl (inr ((h, l))))

directions : (d e : Corner) → Up d ⊎ Down d → Up e ⊎ Down e → Compared d e
directions d e (inl h) (inl k) = in_half d e (inl ((h, k))) (inl ((k, h)))
directions d e (inl h) (inr k) = inl (inl ((h, k)))
directions d e (inr h) (inl k) = inr (inl (inl ((k, h))))
directions d e (inr h) (inr k) = in_half d e (inr ((h, k))) (inr ((k, h)))

-- a number put before others
abbrev before : ℕ → (ℕ → ℕ) → ℕ → ℕ
before x f zero = x
before x f (suc k) = f k

module _ (load thing : Shape) (a b : ℕ) where
  -- one step
  record GoesOn (i j : ℕ) : Type 0 where
    pub to_i : ℕ
    pub to_j : ℕ
    pub step : Step load thing a b i j to_i to_j
    pub i_bound : to_i ≤ length thing
    pub j_bound : to_j ≤ length load
    pub more : i + j < to_i + to_j

  -- all steps, from u sides of the thing and v of the load on
  record Run (u v : ℕ) : Type 0 where
    pub n : ℕ
    pub i : ℕ → ℕ
    pub j : ℕ → ℕ
    pub start : (i 0 ≡ u) × (j 0 ≡ v)
    pub finish : (i n ≡ length thing) × (j n ≡ length load)
    pub steps : (k : ℕ) → k < n → Step load thing a b (i k) (j k) (i (suc k)) (j (suc k))

  at_end : (u v : ℕ) → u ≡ length thing → v ≡ length load → Run u v
  at_end u v e f = record { n = 0; i = λ _. u; j = λ _. v; start = (refl, refl); finish = (e, f); steps = λ k h. absurd (omega arith) }

  module _ (u v : ℕ) (s : GoesOn u v) (r : Run s.to_i s.to_j) where
    steps_on : (k : ℕ) → k < suc r.n → Step load thing a b (before u r.i k) (before v r.j k) (r.i k) (r.j k)
    steps_on zero h =
        subst (λ (y : ℕ). Step load thing a b u v (r.i 0) y) (sym r.start.1) (subst (λ (x : ℕ). Step load thing a b u v x s.to_j) (sym r.start.0) s.step)
    steps_on (suc k) h = r.steps k (omega arith)

    step_first : Run u v
    step_first = record { n = suc r.n; i = before u r.i; j = before v r.j; start = (refl, refl); finish = r.finish; steps = steps_on }

  -- a whole walk
  pub record Walked : Type 0 where
    pub n : ℕ
    pub i : ℕ → ℕ
    pub j : ℕ → ℕ
    pub merged : Merged load thing a b n i j

  module _ (sl : Sound load) (st : Sound thing) (ha : a < length thing) (hb : b < length load) where
    thing_half : (i : ℕ) → Up (thing_way load thing a b i) ⊎ Down (thing_way load thing a b i)
    thing_half i =
        let k = onward (length thing) a i in
        apart_half (corner thing (next (length thing) k)) (corner thing k) (ends_apart thing st k (onward_below (length thing) a i ha))

    load_half : (j : ℕ) → Up (load_way load thing a b j) ⊎ Down (load_way load thing a b j)
    load_half j =
        let k = onward (length load) b j in
        apart_half (corner load k) (corner load (next (length load) k)) (λ e. ends_apart load sl k (onward_below (length load) b j hb) (sym e))

    module _ (i j : ℕ) (hi : i ≤ length thing) (hj : j ≤ length load) where
      by_thing : i < length thing → (j ≡ length load) ⊎ Before (thing_way load thing a b i) (load_way load thing a b j) → GoesOn i j
      by_thing h k = record { to_i = suc i; to_j = j; step = of_thing h k; i_bound = omega arith; j_bound = hj; more = omega arith }

      by_load : j < length load → (i ≡ length thing) ⊎ Before (load_way load thing a b j) (thing_way load thing a b i) → GoesOn i j
      by_load h k = record { to_i = i; to_j = suc j; step = of_load h k; i_bound = hi; j_bound = omega arith; more = omega arith }

      by_both : i < length thing → j < length load → Alike (thing_way load thing a b i) (load_way load thing a b j) → GoesOn i j
      by_both h k l = record { to_i = suc i; to_j = suc j; step = of_both h k l; i_bound = omega arith; j_bound = omega arith; more = omega arith }

      goes_on : i + j < length thing + length load → GoesOn i j
      goes_on h =
          ⊎_elim (λ e. by_load (omega arith) (inl e))
          (λ ni. ⊎_elim (λ e. by_thing (omega arith) (inl e))
          (λ nj. ⊎_elim (λ d. by_thing (omega arith) (inr d)) (λ r. ⊎_elim (λ d. by_load (omega arith) (inr d)) (λ d. by_both (omega arith) (omega arith) d) r)
          (directions (thing_way load thing a b i) (load_way load thing a b j) (thing_half i) (load_half j)))
          (cases_eq j (length load)))
          (cases_eq i (length thing))

    run_from : (m u v : ℕ) → u ≤ length thing → v ≤ length load → length thing + length load ≤ m + (u + v) → Run u v
    run_from zero u v hu hv h = at_end u v (omega arith) (omega arith)
    run_from (suc m) u v hu hv h =
        ⊎_elim (λ e. at_end u v (omega arith) (omega arith))
        (λ ne. let s = goes_on u v hu hv (omega arith) in step_first u v s (run_from m s.to_i s.to_j s.i_bound s.j_bound (omega (arith, s.more))))
        (cases_eq (u + v) (length thing + length load))

    pub walked : Walked
    walked =
        let r = run_from (length thing + length load) 0 0 (omega arith) (omega arith) (omega arith) in
        record { n = r.n; i = r.i; j = r.j; merged = record { start = r.start; finish = r.finish; steps = r.steps } }
