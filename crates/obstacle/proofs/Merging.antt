-- The law of merging: the corners met where a thing's sides and the turned load's are merged by direction make a shape that grows out of both.
-- Assumes nothing.
use Rattle.std.proofs.Common.{◌≡◌, ℕ, suc, ◌<◌, [], length, ℤ, pos, neg_ℤ, ◌≤ℤ◌, ◌<ℤ◌, sym, refl, ap, ◌∙◌, subst, ap₂, ⊎_elim, arith}
use borrow.Author.Differences.{ints}
use Rattle.algebra.specs.Hall.{Corner, Shape, Sound, at, side, corner, next, edge}
use Rattle.algebra.proofs.Polynomial.{forms, by_ring}
use Rattle.algebra.proofs.Forms.{of_corner}
use Rattle.obstacle.specs.Growth.{GrowsFrom, minus, turn, way}
use Rattle.obstacle.specs.Merging.{Up, Before, Alike, Lowest, Highest, Step, of_thing, of_load, of_both, Merged, Merging, onward, thing_corner, load_corner, load_way}
use Rattle.obstacle.proofs.Cycle.{steps, next_below}
use Rattle.obstacle.proofs.Strict.{corner_same, convex_side, bends_side, each_once}
use Rattle.obstacle.proofs.MergingCones.{opposite, down_opposite}
use Rattle.obstacle.proofs.MergingRound.{Round, stop, leg, onward_below}
use Rattle.obstacle.proofs.MergingSteps.{Move, one, other, both, add}
use Rattle.obstacle.proofs.MergingWalk.{Walk, place, go, one_fits, other_fits, bends_on, bends_round, place_round, many, few, once}

-- ---- corners
side_turns : (a b c : Corner) → side a b (at c) ≡ turn (minus b a) (minus c b)
unfolding side
side_turns a b c = by_ring (of_corner a (of_corner b (of_corner c []))) (search forms depth 60 fits 99999) refl

side_from : (a b c : Corner) → side a b (at c) ≡ turn (minus b a) (minus c a)
unfolding side
side_from a b c = by_ring (of_corner a (of_corner b (of_corner c []))) (search forms depth 60 fits 99999) refl

opposite_bend : (a b c e : Corner) → turn (minus (opposite b) (opposite a)) (minus (opposite c) (opposite e)) ≡ turn (minus b a) (minus c e)
opposite_bend a b c e = by_ring (of_corner a (of_corner b (of_corner c (of_corner e [])))) (search forms depth 60 fits 99999) refl

opposite_side : (d x y : Corner) → turn d (minus (opposite x) (opposite y)) ≡ neg_ℤ (turn d (minus x y))
opposite_side d x y = by_ring (of_corner d (of_corner x (of_corner y []))) (search forms depth 60 fits 99999) refl

opposite_minus : (x y : Corner) → opposite (minus x y) ≡ minus (opposite x) (opposite y)
opposite_minus x y = corner_same (omega (arith, ints)) (omega (arith, ints))

minus_opposite : (x y : Corner) → minus x y ≡ minus (opposite y) (opposite x)
minus_opposite x y = corner_same (omega (arith, ints)) (omega (arith, ints))

minus_first : (x y z : Corner) → minus (add y z) (add x z) ≡ minus y x
minus_first x y z = corner_same (omega (arith, ints)) (omega (arith, ints))

minus_second : (x y z : Corner) → minus (add z y) (add z x) ≡ minus y x
minus_second x y z = corner_same (omega (arith, ints)) (omega (arith, ints))

minus_both : (x y z w : Corner) → minus (add y w) (add x z) ≡ add (minus y x) (minus w z)
minus_both x y z w = corner_same (omega (arith, ints)) (omega (arith, ints))

-- ---- the two rounds
thing_round : (s : Shape) (a : ℕ) → Sound s → Lowest s a → Round (length s) a (corner s)
thing_round s a sound low =
    record {
      many = sound.many;
      within = low.within;
      rises = λ k h ne. ⊎_elim (λ e. absurd (ne (each_once s sound k a h low.within e))) (λ u. u) (low.least k h);
      bends = λ i h. subst (λ (z : ℤ). pos 0 <ℤ z) (side_turns (corner s i) (corner s (next (length s) i)) (corner s (next (length s) (next (length s) i)))) (bends_side s sound i h);
      holds = λ i k h l. subst (λ (z : ℤ). pos 0 ≤ℤ z) (side_from (corner s i) (corner s (next (length s) i)) (corner s k)) (convex_side s sound i k h l);
    }

-- a shape turned round
abbrev turned : Shape → ℕ → Corner
turned s k = opposite (corner s k)

load_round : (s : Shape) (b : ℕ) → Sound s → Highest s b → Round (length s) b (turned s)
load_round s b sound high =
    record {
      many = sound.many;
      within = high.within;
      rises = λ k h ne. ⊎_elim (λ e. absurd (ne (each_once s sound k b h high.within e))) (λ d. subst Up (opposite_minus (corner s k) (corner s b)) (down_opposite (minus (corner s k) (corner s b)) d)) (high.most k h);
      bends = λ i h.
          let c = corner s i in
          let d = corner s (next (length s) i) in
          let e = corner s (next (length s) (next (length s) i)) in
          subst (λ (z : ℤ). pos 0 <ℤ z) (side_turns c d e ∙ sym (opposite_bend c d e d)) (bends_side s sound i h);
      holds = λ i k h l.
          let c = corner s i in
          let d = corner s (next (length s) i) in
          subst (λ (z : ℤ). pos 0 ≤ℤ z) (side_from c d (corner s k) ∙ sym (opposite_bend c d (corner s k) c)) (convex_side s sound i k h l);
    }

module _ (load thing : Shape) (a b : ℕ) where
  abbrev e : ℕ → Corner
  e i = leg (length thing) a (corner thing) i

  abbrev f : ℕ → Corner
  f j = leg (length load) b (turned load) j

  abbrev there : ℕ → ℕ → Corner
  there i j = add (stop (length thing) a (corner thing) i) (stop (length load) b (turned load) j)

  load_leg : (j : ℕ) → load_way load thing a b j ≡ f j
  load_leg j = minus_opposite (load_corner load thing a b j) (load_corner load thing a b (suc j))

  move : {i j h k : ℕ} → Step load thing a b i j h k → Move e f (length thing) (length load) (minus (there h k) (there i j)) i j h k
  move {i} {j} (of_thing l c) =
      one l (λ n. ⊎_elim (λ d. absurd (omega arith)) (λ d. subst (λ (z : Corner). Before (e i) z) (load_leg j) d) c)
      (minus_first (stop (length thing) a (corner thing) i) (stop (length thing) a (corner thing) (suc i)) (stop (length load) b (turned load) j))
  move {i} {j} (of_load l c) =
      other l (λ n. ⊎_elim (λ d. absurd (omega arith)) (λ d. subst (λ (z : Corner). Before z (e i)) (load_leg j) d) c)
      (minus_second (stop (length load) b (turned load) j) (stop (length load) b (turned load) (suc j)) (stop (length thing) a (corner thing) i))
  move {i} {j} (of_both l m c) =
      both l m (subst (λ (z : Corner). Alike (e i) z) (load_leg j) c)
      (minus_both (stop (length thing) a (corner thing) i) (stop (length thing) a (corner thing) (suc i)) (stop (length load) b (turned load) j) (stop (length load) b (turned load) (suc j)))

-- ---- the shape that is met
module _ (load thing g : Shape) (a b : ℕ) (i j : ℕ → ℕ) (sl : Sound load) (st : Sound thing) (low : Lowest thing a) (high : Highest load b)
    (merged : Merged load thing a b (length g) i j)
    (is : (k : ℕ) → k < length g → corner g k ≡ minus (thing_corner load thing a b (i k)) (load_corner load thing a b (j k))) where
  abbrev N : ℕ
  N = length thing

  abbrev M : ℕ
  M = length load

  abbrev P : ℕ → Corner
  P k = place N a (corner thing) M b (turned load) i j k

  abbrev D : ℕ → Corner
  D k = go N a (corner thing) M b (turned load) i j k

  rt : Round N a (corner thing)
  rt = thing_round thing a st low

  rl : Round M b (turned load)
  rl = load_round load b sl high

  walk : Walk N a (corner thing) M b (turned load) i j (length g)
  walk = record { start = merged.start; finish = merged.finish; moves = λ k h. move load thing a b (merged.steps k h) }

  next_place : (k : ℕ) → k < length g → corner g (next (length g) k) ≡ P (suc k)
  next_place k h =
      ⊎_elim
      (λ s. let c : next (length g) k ≡ suc k = omega arith in ap (corner g) c ∙ is (suc k) (omega arith))
      (λ s. ap (corner g) s.1 ∙ is 0 (omega arith) ∙ sym (place_round rt rl walk (suc k) (omega arith)))
      (steps (length g) k h)

  way_is : (k : ℕ) → k < length g → way g k ≡ D k
  way_is k h = ap₂ minus (next_place k h) (is k h)

  bends_next : (k : ℕ) → k < length g → pos 0 <ℤ turn (D k) (D (next (length g) k))
  bends_next k h =
      ⊎_elim
      (λ s. let c : suc k ≡ next (length g) k = omega arith in subst (λ (x : ℕ). pos 0 <ℤ turn (D k) (D x)) c (bends_on rt rl walk k (omega arith)))
      (λ s. subst (λ (x : ℕ). pos 0 <ℤ turn (D k) (D x)) (sym s.1) (bends_round rt rl walk k (omega arith)))
      (steps (length g) k h)

  bends_way : (k : ℕ) → k < length g → pos 0 <ℤ turn (way g k) (way g (next (length g) k))
  bends_way k h =
      subst (λ (z : Corner). pos 0 <ℤ turn z (way g (next (length g) k))) (sym (way_is k h))
      (subst (λ (z : Corner). pos 0 <ℤ turn (D k) z) (sym (way_is (next (length g) k) (next_below (length g) k h))) (bends_next k h))

  met_bends : (k : ℕ) → k < length g → pos 0 <ℤ edge g k (at (corner g (next (length g) (next (length g) k))))
  unfolding edge
  met_bends k h = subst (λ (z : ℤ). pos 0 <ℤ z) (sym (side_turns (corner g k) (corner g (next (length g) k)) (corner g (next (length g) (next (length g) k))))) (bends_way k h)

  met_load : (k : ℕ) → k < length g → (x : ℕ) → x < M → turn (D k) (minus (corner load x) (load_corner load thing a b (j k))) ≤ℤ pos 0
  met_load k h x l =
      omega (arith, ints, opposite_side (D k) (corner load x) (load_corner load thing a b (j k)), other_fits rt rl walk k h x l)

  met : GrowsFrom load thing g
  met =
      record {
        many = many rt rl walk;
        v = λ k. onward N a (i k);
        u = λ k. onward M b (j k);
        v_within = λ k h. onward_below N a (i k) low.within;
        u_within = λ k h. onward_below M b (j k) high.within;
        corners = is;
        thing_side = λ k h x l. subst (λ (z : Corner). pos 0 ≤ℤ turn z (minus (corner thing x) (thing_corner load thing a b (i k)))) (sym (way_is k h)) (one_fits rt rl walk k h x l);
        load_side = λ k h x l. subst (λ (z : Corner). turn z (minus (corner load x) (load_corner load thing a b (j k))) ≤ℤ pos 0) (sym (way_is k h)) (met_load k h x l);
        bends = met_bends;
        once = λ k h l s. once rt rl walk k h l (sym (is k l) ∙ s ∙ is 0 (omega arith));
      }

pub merging : Merging
merging load thing g a b i j sl st low high merged is =
    (met load thing g a b i j sl st low high merged is, few (thing_round thing a st low) (load_round load b sl high) (walk load thing g a b i j sl st low high merged is))
