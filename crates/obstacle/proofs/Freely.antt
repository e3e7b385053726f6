-- Free places by obstacles. Assumes nothing.
use Rattle.std.proofs.Common.{◌≡◌, ℕ, ◌<◌, ◌≤◌, Bool, true, false, T, List, [], ◌∷◌, map, length, get_or, ℤ, pos, ◌<ℤ◌, Decides, refl, sym, ap, ◌∙◌, subst, arith, Option, Some, None, IfSome, IsSomeAnd, Bor}
use borrow.Author.Differences.{ints}
use Rattle.std.specs.Option.{option_map}
use Rattle.std.proofs.lemmas.List.{length-map, get_or-map}
use Rattle.std.specs.Prelude.{MatchBool}
use Rattle.std.proofs.lemmas.List.Sums.{AllPass-from_list_all}
use Rattle.std.proofs.lemmas.Bool.{false≢true, and_parts, and_from}
use Rattle.std.specs.List.{list_all, AllWithin, HoldsAt}
use Rattle.algebra.specs.Hall.{Place, Shape, Sound, Inside, side, edge, corner}
use Rattle.algebra.specs.Near.{Near}
use Rattle.hall.specs.declared.shapes.Shape.{Shape as Shaped}
use Rattle.hall.specs.Outlines.{within}
use Rattle.hall.specs.Shapes.{shape_of}
use Rattle.hall.specs.Sides.{CornerPair, sides_of}
use Rattle.hall.proofs.Walks.{side_pair, length_sides}
use Rattle.hall.proofs.Drawings.{holds}
use Rattle.hall.proofs.Faults.{all_at, all_from}
use Rattle.hall.proofs.Kept.{true_from_holds, sound_kept}
use Rattle.hall.proofs.Taken.{near_from_test, test_from_near}
use Rattle.obstacle.specs.Freedom.{Apart, GrownTo, FreeExactly}
use Rattle.obstacle.specs.Growth.{Grown}

pub free_exactly : FreeExactly
unfolding Apart
free_exactly h gs p o r = (
  λ f. record {
    walls = f.walls;
    apart = λ k l i. let m : k < length h.things = omega (arith, o.count) in f.things k m ((o.grown k m).inside_meets p r i);
  },
  λ c. record { real = r; walls = c.walls; things = λ k l m. c.apart k (omega (arith, o.count)) ((o.grown k l).meets_inside p r m) },
)

-- a shape of the code, among several
pub shape_item : {n : ℕ} (ss : List (Shaped n)) (i : ℕ) (x : Shaped n) → i < length ss → x ≡ get_or ss i x → get_or (map shape_of ss) i [] ≡ shape_of x
shape_item ss i x h e = get_or-map shape_of ss i x [] h ∙ ap shape_of (sym e)

-- each shape of gs is grown of the one in its place, if the one is said of the other where each is told off by its place
module _ {m n : ℕ} (load : Shape) (ts : List (Shaped m)) (gs : List (Shaped n)) (R : Bor (Shaped m) → Shaped n → Type 0) (grows : (x : Bor (Shaped m)) (y : Shaped n) → R x y → Grown load (shape_of x.now) (shape_of y)) where
  grown_at : (k : ℕ) → k < length ts → k < length gs → (o : Option (Bor (Shaped m))) (r : Option (Shaped n)) → Shaped m →
      ((d : Shaped m) → option_map (λ x. x.now) o ≡ Some (get_or ts k d)) → ((d : Shaped n) → option_map (λ y. y) r ≡ Some (get_or gs k d)) → IfSome o (λ x. IsSomeAnd r (R x)) →
      Sound (get_or (map shape_of gs) k []) × Grown load (get_or (map shape_of ts) k []) (get_or (map shape_of gs) k [])
  grown_at k h i None r d e f w = let z = e d in absurd cc
  grown_at k h i (Some x) None d e f w = elim w [ ]
  grown_at k h i (Some x) (Some y) d e f w =
      let t : x.now ≡ get_or ts k x.now = let z = e x.now in cc in
      let g : y ≡ get_or gs k y = let z = f y in cc in
      rw (shape_item ts k x.now h t, shape_item gs k y i g) (sound_kept (shape_of y) y.sound, grows x y w)

  pub grown_all : (o : ℕ → Option (Bor (Shaped m))) (r : ℕ → Option (Shaped n)) → Shaped m → length gs ≡ length ts →
      ((k : ℕ) (d : Shaped m) → k < length ts → option_map (λ x. x.now) (o k) ≡ Some (get_or ts k d)) → ((k : ℕ) (d : Shaped n) → k < length gs → option_map (λ y. y) (r k) ≡ Some (get_or gs k d)) →
      ((k : ℕ) → IfSome (o k) (λ x. IsSomeAnd (r k) (R x))) → GrownTo load (map shape_of ts) (map shape_of gs) (length ts)
  grown_all o r d l e f w =
      let here : (k : ℕ) → k < length ts → Sound (get_or (map shape_of gs) k []) × Grown load (get_or (map shape_of ts) k []) (get_or (map shape_of gs) k []) =
      λ k h. let i : k < length gs = omega arith in grown_at k h i (o k) (r k) d (λ c. e k c h) (λ c. f k c i) (w k) in
      record { count = length-map gs shape_of ∙ l; sound = λ k h. (here k h).0; grown = λ k h. (here k h).1 }

near_wider : (m l : ℕ) → m ≤ l → {z : ℤ} → Near m z → Near l z
near_wider m l h n = record { low = omega (arith, ints); high = omega (arith, ints) }

-- what holds of each of several holds of one
pub all_pass_at : {X : Type 0} (t : X → Bool) (xs : List X) (i : ℕ) (x : X) → i < length xs → x ≡ get_or xs i x → T (list_all t xs) → T (t x)
all_pass_at t xs i x h e a = holds (ap t e ∙ AllPass-from_list_all t xs (true_from_holds _ a) i x h)

-- what a test of one side after another comes to
pub inside_decided : (r : Bool) (s : Shape) (p : Place) →
    MatchBool r (AllWithin (λ (a : CornerPair). pos 0 <ℤ side a.0 a.1 p) (sides_of s) 0 (length (sides_of s))) ((k : ℕ) × (k < length (sides_of s)) × HoldsAt (λ (a : CornerPair). pos 0 <ℤ side a.0 a.1 p → ⊥) (sides_of s) k) →
    Decides r (Inside s p)
unfolding Inside edge
inside_decided true s p h = (
  λ _ i l.
      let d : CornerPair = (corner s i, corner s i) in
      subst (λ (a : CornerPair). pos 0 <ℤ side a.0 a.1 p) (side_pair s i d l) (h i d (omega arith) (omega (arith, length_sides s (length s) 0))),
  λ _. refl,
)
inside_decided false s p h =
    let l : h.0 < length s = omega (arith, h.1, length_sides s (length s) 0) in
    let d : CornerPair = (corner s h.0, corner s h.0) in
    (λ e. absurd (false≢true e), λ i. absurd (subst (λ (a : CornerPair). pos 0 <ℤ side a.0 a.1 p → ⊥) (side_pair s h.0 d l) (h.2 d) (i h.0 l)))

-- what an item-by-item test of several shapes comes to
pub apart_decided : {n : ℕ} (r : Bool) (ss : List (Shaped n)) (p : Place) →
    MatchBool r (AllWithin (λ x. Inside (shape_of x) p → ⊥) ss 0 (length ss)) ((k : ℕ) × (k < length ss) × HoldsAt (λ x. Inside (shape_of x) p) ss k) → Decides r (Apart (map shape_of ss) p)
unfolding Apart
apart_decided true [] p h = (λ _ k l i. absurd (omega arith), λ _. refl)
apart_decided true (s ∷ ss) p h = (
  λ _ k l. let m : k < length (s ∷ ss) = omega (arith, length-map (s ∷ ss) shape_of) in subst (λ (a : Shape). Inside a p → ⊥) (sym (get_or-map shape_of (s ∷ ss) k s [] m)) (h k s (omega arith) m),
  λ _. refl,
)
apart_decided false [] p h = absurd (omega (arith, h.1))
apart_decided false (s ∷ ss) p h = (
  λ e. absurd (false≢true e),
  λ a. absurd (a h.0 (omega (arith, h.1, length-map (s ∷ ss) shape_of)) (subst (λ (a : Shape). Inside a p) (sym (get_or-map shape_of (s ∷ ss) h.0 s [] h.1)) (h.2 s))),
)

-- a wider bound
pub within_wider : (m l : ℕ) (s : Shape) → m ≤ l → T (within m s) → T (within l s)
unfolding within
within_wider m l s h t =
    holds (all_from (length s) _ (λ i k.
    let p = and_parts _ _ (all_at (length s) _ (true_from_holds _ t) i k) in
    and_from _ _ (test_from_near l (corner s i).x (near_wider m l h (near_from_test m _ p.0))) (test_from_near l (corner s i).y (near_wider m l h (near_from_test m _ p.1)))))
