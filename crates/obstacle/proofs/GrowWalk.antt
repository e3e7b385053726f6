-- What the walk keeps from step to step: all that was met so far. Assumes nothing.
use Rattle.std.proofs.Common.{◌≡◌, ℕ, suc, ◌+◌, ◌<◌, ◌≤◌, cond, leb, ◌≢◌, List, length, get_or, set, sym, refl, ap, ◌∙◌, subst, ap₂, arith, below_more}
use Rattle.std.proofs.lemmas.List.{get_or-set_same, get_or-set_other}
use Rattle.std.proofs.lemmas.Bool.Decides.{nat_tests}
use Rattle.algebra.specs.Hall.{Corner, Shape, corner}
use Rattle.exact.specs.declared.points.Corner as code
use Rattle.exact.specs.Points.{corner_of, zero}
use Rattle.exact.specs.Sides.{CornerNear}
use Rattle.obstacle.specs.declared.walks.Walks.{Walks}
use Rattle.obstacle.specs.Growing.{Begun, IsRound, Reached, StepsOn, MetAt}
use Rattle.obstacle.specs.Growth.{minus}
use Rattle.obstacle.specs.Merging.{Step, of_thing, of_load, of_both, Lowest, Highest, Merged, onward, thing_corner, load_corner}

-- ---- a step takes a side, of one or of both
steps_more : {load thing : Shape} {a b i j i' j' : ℕ} → Step load thing a b i j i' j' → i + j < i' + j'
steps_more (of_thing h k) = omega arith
steps_more (of_load h k) = omega arith
steps_more (of_both h k e) = omega arith

-- ---- a function that is f up to n, and v after it
then : (ℕ → ℕ) → ℕ → ℕ → ℕ → ℕ
then f n v k = cond (leb k n) (f k) v

then_until : (f : ℕ → ℕ) (n v k : ℕ) → k ≤ n → then f n v k ≡ f k
unfolding then
then_until f n v k h = grind (arith, nat_tests)

then_after : (f : ℕ → ℕ) (n v : ℕ) → then f n v (suc n) ≡ v
unfolding then
then_after f n v = grind (arith, nat_tests)

-- ---- what was met until the walks stood at p
module _ (load thing : Shape) where
  abbrev pub met_at : ℕ → ℕ → ℕ → ℕ → Corner
  met_at a b i j = minus (thing_corner load thing a b i) (load_corner load thing a b j)

module _ (load thing : Shape) {m l : ℕ} where
  pub record Walked (p : Walks m l) (cs : List code.Corner) (n : ℕ) : Type 0 where
    pub a : ℕ
    pub b : ℕ
    pub i : ℕ → ℕ
    pub j : ℕ → ℕ
    pub lowest : Lowest thing a
    pub highest : Highest load b
    pub start : (i 0 ≡ 0) × (j 0 ≡ 0)
    pub here : (i n ≡ p.thing.gone) × (j n ≡ p.load.gone)
    pub steps : (k : ℕ) → k < n → Step load thing a b (i k) (j k) (i (suc k)) (j (suc k))
    pub corners : (k : ℕ) → k < n → corner_of (get_or cs k zero) ≡ met_at load thing a b (i k) (j k)
    pub near : (k : ℕ) → k < n → CornerNear 2000 (get_or cs k zero)
    pub few : n ≤ p.thing.gone + p.load.gone
    pub reached : Reached load thing a b p

  pub walked_none : (p : Walks m l) → Begun load thing p → (cs : List code.Corner) → Walked p cs 0
  walked_none p s cs =
      record {
        a = p.thing.at;
        b = p.load.at;
        i = λ k. 0;
        j = λ k. 0;
        lowest = s.lowest;
        highest = s.highest;
        start = (refl, refl);
        here = (sym s.none.0, sym s.none.1);
        steps = λ k h. absurd (omega arith);
        corners = λ k h. absurd (omega arith);
        near = λ k h. absurd (omega arith);
        few = omega arith;
        reached = record {
          load_is = s.of_load;
          thing_is = s.of_thing;
          of_thing = ap (onward (length thing) p.thing.at) (sym s.none.0);
          of_load = ap (onward (length load) p.load.at) (sym s.none.1);
        };
      }

  -- one step more
  module _ (p q : Walks m l) (cs : List code.Corner) (n : ℕ) (w : Walked p cs n) (c : code.Corner) (met : MetAt p c) (on : StepsOn p q) where
    others : (P : code.Corner → Type 0) (k : ℕ) → k < n → P (get_or cs k zero) → P (get_or (set cs n c) k zero)
    others P k h x = let ne : k ≢ n = omega arith in subst P (sym (get_or-set_other cs n k c zero ne)) x

    this : n < length cs → (P : code.Corner → Type 0) → P c → P (get_or (set cs n c) n zero)
    this room P x = subst P (sym (get_or-set_same cs n c zero room)) x

    here_met : corner_of c ≡ met_at load thing w.a w.b (w.i n) (w.j n)
    here_met =
        let r = w.reached in
        let t : p.thing.at ≡ onward (length thing) w.a (w.i n) = r.of_thing ∙ ap (onward (length thing) w.a) (sym w.here.0) in
        let u : p.load.at ≡ onward (length load) w.b (w.j n) = r.of_load ∙ ap (onward (length load) w.b) (sym w.here.1) in
        met.is ∙ ap₂ minus (ap₂ corner r.thing_is t) (ap₂ corner r.load_is u)

    kept : n < length cs → Walked q (set cs n c) (n + 1)
    kept room =
        let s = on.step load thing w.a w.b w.reached in
        let i : ℕ → ℕ = then w.i n q.thing.gone in
        let j : ℕ → ℕ = then w.j n q.load.gone in
        let ei : (k : ℕ) → k ≤ n → i k ≡ w.i k = then_until w.i n q.thing.gone in
        let ej : (k : ℕ) → k ≤ n → j k ≡ w.j k = then_until w.j n q.load.gone in
        let zi : i (suc n) ≡ q.thing.gone = then_after w.i n q.thing.gone in
        let zj : j (suc n) ≡ q.load.gone = then_after w.j n q.load.gone in
        let one : n + 1 ≡ suc n = omega arith in
        let stepping : (k i₀ j₀ i₁ j₁ : ℕ) → i k ≡ i₀ → j k ≡ j₀ → i (suc k) ≡ i₁ → j (suc k) ≡ j₁ → Step load thing w.a w.b i₀ j₀ i₁ j₁ → Step load thing w.a w.b (i k) (j k) (i (suc k)) (j (suc k)) =
        λ k i₀ j₀ i₁ j₁ e₀ f₀ e₁ f₁ x. rw (e₀, f₀, e₁, f₁) x in
        record {
          a = w.a;
          b = w.b;
          i = i;
          j = j;
          lowest = w.lowest;
          highest = w.highest;
          start = (ei 0 (omega arith) ∙ w.start.0, ej 0 (omega arith) ∙ w.start.1);
          here = (ap i one ∙ zi, ap j one ∙ zj);
          steps =
              below_more _ _
              (λ k h. stepping k (w.i k) (w.j k) (w.i (suc k)) (w.j (suc k)) (ei k (omega arith)) (ej k (omega arith)) (ei (suc k) (omega arith)) (ej (suc k) (omega arith)) (w.steps k h))
              (stepping n p.thing.gone p.load.gone q.thing.gone q.load.gone (ei n (omega arith) ∙ w.here.0) (ej n (omega arith) ∙ w.here.1) zi zj s.0);
          corners =
              below_more _ _
              (λ k h. others (λ x. corner_of x ≡ met_at load thing w.a w.b (i k) (j k)) k h (w.corners k h ∙ ap₂ (met_at load thing w.a w.b) (sym (ei k (omega arith))) (sym (ej k (omega arith)))))
              (this room (λ x. corner_of x ≡ met_at load thing w.a w.b (i n) (j n)) (here_met ∙ ap₂ (met_at load thing w.a w.b) (sym (ei n (omega arith))) (sym (ej n (omega arith)))));
          near = below_more _ _ (λ k h. others (CornerNear 2000) k h (w.near k h)) (this room (CornerNear 2000) met.near);
          few = let m = steps_more s.0 in omega (arith, w.few);
          reached = s.1;
        }

    -- and there is room for it
    pub walked_on : (g : ℕ) → length cs ≡ g → length load + length thing ≤ g → (n < g) × Walked q (set cs n c) (n + 1)
    walked_on g e h =
        let more : n < g = omega (arith, w.few, on.fewer, p.thing.round, p.load.round, ap length w.reached.thing_is, ap length w.reached.load_is) in
        (more, kept (omega arith))

  pub walked_few : (p : Walks m l) (cs : List code.Corner) (n : ℕ) → Walked p cs n → n ≤ length load + length thing
  walked_few p cs n w = omega (arith, w.few, p.thing.round, p.load.round, ap length w.reached.thing_is, ap length w.reached.load_is)

  -- at the end both have gone all round
  pub walked_all : (p : Walks m l) (cs : List code.Corner) (n : ℕ) (w : Walked p cs n) → IsRound p → Merged load thing w.a w.b n w.i w.j
  walked_all p cs n w r =
      record {
        start = w.start;
        finish = (w.here.0 ∙ r.0 ∙ ap length w.reached.thing_is, w.here.1 ∙ r.1 ∙ ap length w.reached.load_is);
        steps = w.steps;
      }
