-- The corners that are lowest and highest, by their heights. Assumes nothing.
use Rattle.std.proofs.Common.{◌≡◌, ℕ, ◌+◌, ◌<◌, ◌⊎◌, true, false, Option, Some, None, IfSome, IsSomeAnd, ℤ, ◌<ℤ◌, Ordering, Less, Equal, Greater, refl, ap, ◌∙◌, subst, inl, inr, arith}
use borrow.Author.Differences.{ints}
use Rattle.std.specs.Iterator.Runs.{Run, AnyItem, AllItems}
use Rattle.std.specs.Option.{option_map}
use Rattle.std.specs.Ordering.{MatchOrdering, int_cmp, is_lt, is_gt, ordering_then}
use Rattle.std.specs.declared.ops.Range.{Range}
use Rattle.std.proofs.iter.Yields.{nat_range_steps}
use Rattle.std.proofs.iter.runs.Sources.{range_runs}
use Rattle.std.proofs.lemmas.Cmp.{int_ranked}
use Rattle.algebra.specs.Hall.{Corner, Shape, corner}
use Rattle.obstacle.specs.Growing.{HeightAt}
use Rattle.obstacle.specs.Growth.{minus}
use Rattle.obstacle.specs.Merging.{Up, Down}
use Rattle.obstacle.proofs.Strict.{corner_same}

-- by height, and on a level from the left
abbrev by_height : ℤ × ℤ → ℤ × ℤ → Ordering
by_height j k = ordering_then (int_cmp j.0 k.0) (int_cmp j.1 k.1)

abbrev Ranked : Ordering → ℤ → ℤ → Type 0
Ranked r x y = MatchOrdering r (x <ℤ y) (x ≡ y) (y <ℤ x)

module _ (a b : Corner) where
  above : (r q : Ordering) → Ranked r b.y a.y → Ranked q b.x a.x → is_lt (ordering_then r q) ≡ false → (b ≡ a) ⊎ Up (minus b a)
  above Less q h k e = absurd cc
  above Greater q h k e = inr (inl (omega (arith, ints)))
  above Equal Less h k e = absurd cc
  above Equal Equal h k e = inl (corner_same k h)
  above Equal Greater h k e = inr (inr (omega (arith, ints), omega (arith, ints)))

  below : (r q : Ordering) → Ranked r b.y a.y → Ranked q b.x a.x → is_gt (ordering_then r q) ≡ false → (b ≡ a) ⊎ Down (minus b a)
  below Greater q h k e = absurd cc
  below Less q h k e = inr (inl (omega (arith, ints)))
  below Equal Greater h k e = absurd cc
  below Equal Equal h k e = inl (corner_same k h)
  below Equal Less h k e = inr (inr (omega (arith, ints), omega (arith, ints)))

module _ (s : Shape) (i m : ℕ) (j k : ℤ × ℤ) (h : HeightAt s i j) (l : HeightAt s m k) where
  pub not_lower : is_lt (by_height j k) ≡ false → (corner s i ≡ corner s m) ⊎ Up (minus (corner s i) (corner s m))
  not_lower e =
      let b = corner s i in
      let a = corner s m in
      above a b (int_cmp b.y a.y) (int_cmp b.x a.x) (int_ranked b.y a.y _ refl) (int_ranked b.x a.x _ refl) (rw (h.0, h.1, l.0, l.1) at e)

  pub not_higher : is_gt (by_height j k) ≡ false → (corner s i ≡ corner s m) ⊎ Down (minus (corner s i) (corner s m))
  not_higher e =
      let b = corner s i in
      let a = corner s m in
      below a b (int_cmp b.y a.y) (int_cmp b.x a.x) (int_ranked b.y a.y _ refl) (int_ranked b.x a.x _ refl) (rw (h.0, h.1, l.0, l.1) at e)

-- ---- what was picked out of a range from 0, and what holds of each of its items
at_place : (o : Option ℕ) (k : ℕ) → option_map (λ y. y) o ≡ Some k → (P : ℕ → Type 0) → IfSome o P → P k
at_place None k e P h = absurd cc
at_place (Some x) k e P h = let f : x ≡ k = cc in subst P f h

some_place : (o : Option ℕ) (k m : ℕ) → option_map (λ y. y) o ≡ Some k → IsSomeAnd o (λ x. x ≡ m) → m ≡ k
some_place None k m e h = elim h [ ]
some_place (Some x) k m e h = cc

pub picked_of_all : (p : Run nat_range_steps) (n m : ℕ) → p.from ≡ record { start = 0; end = n } → p.whole ≡ true → AnyItem p (λ x. x ≡ m) → (P : ℕ → Type 0) → AllItems p P →
    (m < n) × ((k : ℕ) → k < n → P k)
picked_of_all p n m from whole w P h =
    let r = range_runs p p.seen in
    let a : p.from.start ≡ 0 = ap (λ (s : Range ℕ). s.start) from in
    let b : p.from.end ≡ n = ap (λ (s : Range ℕ). s.end) from in
    let l : p.len ≡ n = omega (arith, r.1 whole) in
    let at : (k : ℕ) → k < p.len → option_map (λ y. y) (p.at k) ≡ Some k = λ k i. let e : p.from.start + k ≡ k = omega arith in r.3 k i ∙ ap Some e in (
      let e : m ≡ w.0 = some_place (p.at w.0) w.0 m (at w.0 w.1) w.2 in omega (arith, w.1),
      λ k i. at_place (p.at k) k (at k (omega arith)) P (h k),
    )
