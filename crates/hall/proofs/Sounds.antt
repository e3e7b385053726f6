-- Shapes: the test decides whether one is sound, and where shapes and places stand among bytes. Assumes nothing.
use Rattle.std.proofs.Common.{◌≡◌, ℕ, zero, suc, ◌+◌, ◌*◌, ◌<◌, ◌≤◌, true, not, ◌&&◌, eqb, leb, List, [], ◌∷◌, ◌++◌, length, get_or, map, ℤ, pos, ◌≤ℤ◌, ◌<ℤ◌, None, Option, refl, ap, ◌∙◌, ap₂, ⊎_elim, arith}
use lib.Signed.{lt_z, le_z}
use borrow.Author.Differences.{ints}
use Rattle.std.proofs.ByRecursion.{All-get_or}
use Rattle.std.proofs.lemmas.List.{get_or_past}
use Rattle.std.proofs.lemmas.Bool.{and_parts, and_from, or_cases, or_left, or_right, not-true, not_from_false, both_ways, eqb-true, eq-eqb, leb-true, le-leb, cases_eq, cases_lt, cases_Bool}
use Rattle.algebra.specs.Hall.{Corner, Place, Shape, Sound, Covers, at, corner, next, edge}
use Rattle.std.specs.List.{range_with_len}
use Rattle.hall.specs.declared.refusals.Refusal.{Refusal}
use Rattle.hall.specs.declared.refusals.Refusal.TheVariants.{Bend}
use Rattle.hall.specs.Format.{first_below, unless, bends_left, right_of_none, same_corner, not_again, sound, bend_fault, corner_at, corners_at, shape_at, shapes_at, place_at, places_at, past}
use Rattle.hall.specs.Bytes.{byte}
use Rattle.hall.specs.Laws.{Bytes, SoundDecided}
use Rattle.hall.proofs.Faults.{all_at, all_from}
use Rattle.hall.proofs.Questions.{asked_none, none_asked, below_tests, tests_below}

-- ---- tests of integers
pub lt_from_lt_z : (a b : ℤ) → lt_z a b ≡ true → a <ℤ b
lt_from_lt_z a b h = grind (arith, ints)

pub lt_z_from_lt : (a b : ℤ) → a <ℤ b → lt_z a b ≡ true
lt_z_from_lt a b h = grind (arith, ints)

pub le_from_le_z : (a b : ℤ) → le_z a b ≡ true → a ≤ℤ b
le_from_le_z a b h = grind (arith, ints)

pub le_z_from_le : (a b : ℤ) → a ≤ℤ b → le_z a b ≡ true
le_z_from_le a b h = grind (arith, ints)

both_le_z : (a b : ℤ) → (le_z a b && le_z b a) ≡ true → a ≡ b
both_le_z a b h =
    let p = and_parts (le_z a b) (le_z b a) h in
    let s : a ≤ℤ b = le_from_le_z a b p.0 in
    let t : b ≤ℤ a = le_from_le_z b a p.1 in
    omega (arith, ints)

le_z_both : (a b : ℤ) → a ≡ b → (le_z a b && le_z b a) ≡ true
le_z_both a b h = and_from (le_z a b) (le_z b a) (le_z_from_le a b (omega (arith, ints))) (le_z_from_le b a (omega (arith, ints)))

-- ---- tests of corners
pub same_from_test : (c d : Corner) → same_corner c d ≡ true → c ≡ d
same_from_test c d h =
    let p = and_parts _ _ h in
    ap₂ {A = ℤ} {B = ℤ} {C = Corner} (λ a b. record { x = a; y = b }) (both_le_z c.x d.x p.0) (both_le_z c.y d.y p.1)

pub test_from_same : (c d : Corner) → c ≡ d → same_corner c d ≡ true
test_from_same c d h = and_from _ _ (le_z_both c.x d.x (ap (λ (e : Corner). e.x) h)) (le_z_both c.y d.y (ap (λ (e : Corner). e.y) h))

pub again_from_test : (s : Shape) (i : ℕ) → not_again s i ≡ true → 0 < i → corner s i ≡ corner s 0 → ⊥
again_from_test s i h l e =
    ⊎_elim
    (λ z. let k = eqb-true i 0 z in omega arith)
    (λ n. both_ways (same_corner (corner s i) (corner s 0)) (not-true _ n) (test_from_same (corner s i) (corner s 0) e))
    (or_cases (eqb i 0) (not (same_corner (corner s i) (corner s 0))) h)

pub test_from_again : (s : Shape) (i : ℕ) → (0 < i → corner s i ≡ corner s 0 → ⊥) → not_again s i ≡ true
test_from_again s i h =
    ⊎_elim
    (λ z. or_left (eqb i 0) _ (eq-eqb i 0 z))
    (λ z. or_right (eqb i 0) _ (⊎_elim
    (λ t. absurd (h (omega arith) (same_from_test (corner s i) (corner s 0) t)))
    (λ f. not_from_false (same_corner (corner s i) (corner s 0)) f)
    (cases_Bool (same_corner (corner s i) (corner s 0)))))
    (cases_eq i 0)

-- ---- the four parts of the test, and what they say
pub sound_from_tests : (s : Shape) → 3 ≤ length s → ((i : ℕ) → i < length s → bends_left s i ≡ true) → ((j : ℕ) → j < length s → right_of_none s j ≡ true) → ((j : ℕ) → j < length s → not_again s j ≡ true) → sound s ≡ true
unfolding sound
sound_from_tests s m b r n =
    and_from _ _ (le-leb 3 (length s) m) (and_from _ _ (all_from (length s) (bends_left s) b) (and_from _ _ (all_from (length s) (right_of_none s) r) (all_from (length s) (not_again s) n)))

pub sound_true : (s : Shape) → sound s ≡ true → Sound s
unfolding sound Covers
sound_true s h =
    let p = and_parts (leb 3 (length s)) _ h in
    let q = and_parts _ _ p.1 in
    let r = and_parts _ _ q.1 in
    record {
      many = leb-true 3 (length s) p.0;
      bends = λ i l. lt_from_lt_z (pos 0) (edge s i (at (corner s (next (length s) (next (length s) i))))) (all_at (length s) (bends_left s) q.0 i l);
      convex = λ j l i k. le_from_le_z (pos 0) (edge s i (at (corner s j))) (all_at (length s) (λ n. le_z (pos 0) (edge s n (at (corner s j)))) (all_at (length s) (right_of_none s) r.0 j l) i k);
      once = λ i z l e. again_from_test s i (all_at (length s) (not_again s) r.1 i l) z e;
    }

pub true_sound : (s : Shape) → Sound s → sound s ≡ true
unfolding Covers
true_sound s h =
    sound_from_tests s h.many
    (λ i l. lt_z_from_lt (pos 0) _ (h.bends i l))
    (λ j l. all_from (length s) (λ i. le_z (pos 0) (edge s i (at (corner s j)))) (λ i k. le_z_from_le (pos 0) _ (h.convex j l i k)))
    (λ j l. test_from_again s j (λ z e. h.once j z l e))

pub sound_decided : SoundDecided
sound_decided s = (sound_true s, true_sound s)

-- ---- a shape of three corners or more is sound where its bends have no fault
after : Shape → ℕ → ℕ → Refusal
after s i k = Bend (i + 4 * next (length s) k)

here : ℕ → ℕ → Refusal
here i k = Bend (i + 4 * k)

abbrev bend_questions : Shape → ℕ → List (Option Refusal)
bend_questions s i =
    first_below (length s) (λ k. unless (bends_left s k) (after s i k))
    ∷ first_below (length s) (λ k. unless (right_of_none s k) (here i k))
    ∷ first_below (length s) (λ k. unless (not_again s k) (here i k))
    ∷ []

pub sound_from_fault : (s : Shape) (i : ℕ) → 3 ≤ length s → bend_fault s i ≡ None → sound s ≡ true
unfolding bend_fault after here
sound_from_fault s i m e =
    let p = asked_none (bend_questions s i) e in
    sound_from_tests s m
    (below_tests (length s) (bends_left s) (after s i) p.0)
    (below_tests (length s) (right_of_none s) (here i) p.1.0)
    (below_tests (length s) (not_again s) (here i) p.1.1.0)

pub fault_from_sound : (s : Shape) (i : ℕ) → sound s ≡ true → bend_fault s i ≡ None
unfolding bend_fault sound after here
fault_from_sound s i h =
    let p = and_parts (leb 3 (length s)) _ h in
    let q = and_parts _ _ p.1 in
    let r = and_parts _ _ q.1 in
    none_asked (bend_questions s i) (
      tests_below (length s) (bends_left s) (after s i) (all_at (length s) (bends_left s) q.0),
      (
        tests_below (length s) (right_of_none s) (here i) (all_at (length s) (right_of_none s) r.0),
        (tests_below (length s) (not_again s) (here i) (all_at (length s) (not_again s) r.1), tt),
      ),
    )

-- ---- what stands where: corners, shapes and places, one after the other
pub length_corners_at : (n : ℕ) (bs : List ℕ) (i : ℕ) → length (corners_at n bs i) ≡ n
length_corners_at zero bs i = refl
length_corners_at (suc n) bs i = ap suc (length_corners_at n bs (i + 4))

pub corner_corners_at : (n : ℕ) (bs : List ℕ) (i k : ℕ) → k < n → corner (corners_at n bs i) k ≡ corner_at bs (i + 4 * k)
corner_corners_at zero bs i k h = absurd (omega arith)
corner_corners_at (suc n) bs i zero h = ap (corner_at bs) (omega arith)
corner_corners_at (suc n) bs i (suc k) h = corner_corners_at n bs (i + 4) k (omega arith) ∙ ap (corner_at bs) (omega arith)

pub length_shapes_at : (n : ℕ) (bs : List ℕ) (i : ℕ) → length (shapes_at n bs i) ≡ n
length_shapes_at zero bs i = refl
length_shapes_at (suc n) bs i = ap suc (length_shapes_at n bs (i + 1 + 4 * byte bs i))

pub item_shapes_at : (n : ℕ) (bs : List ℕ) (i k : ℕ) → k < n → get_or (shapes_at n bs i) k [] ≡ shape_at bs (past k bs i)
item_shapes_at zero bs i k h = absurd (omega arith)
item_shapes_at (suc n) bs i zero h = refl
item_shapes_at (suc n) bs i (suc k) h = item_shapes_at n bs (i + 1 + 4 * byte bs i) k (omega arith)

-- one shape more
pub shapes_at_more : (k : ℕ) (bs : List ℕ) (i : ℕ) → shapes_at (k + 1) bs i ≡ shapes_at k bs i ++ shape_at bs (past k bs i) ∷ []
shapes_at_more zero bs i = refl
shapes_at_more (suc k) bs i =
    let e : suc k + 1 ≡ suc (k + 1) = omega arith in
    ap (λ (n : ℕ). shapes_at n bs i) e ∙ ap (λ (ss : List Shape). shape_at bs i ∷ ss) (shapes_at_more k bs (i + 1 + 4 * byte bs i))

pub length_places_at : (n : ℕ) (bs : List ℕ) (i : ℕ) → length (places_at n bs i) ≡ n
length_places_at zero bs i = refl
length_places_at (suc n) bs i = ap suc (length_places_at n bs (i + 24))

pub places_at_each : (n : ℕ) (bs : List ℕ) (i a : ℕ) → map (λ k. place_at bs (i + 24 * k)) (range_with_len a n) ≡ places_at n bs (i + 24 * a)
places_at_each zero bs i a = refl
places_at_each (suc n) bs i a =
    let j : i + 24 * (a + 1) ≡ i + 24 * a + 24 = omega arith in
    ap (λ (ps : List Place). place_at bs (i + 24 * a) ∷ ps) (places_at_each n bs i (a + 1) ∙ ap (places_at n bs) j)

pub item_places_at : (n : ℕ) (bs : List ℕ) (i k : ℕ) (d : Place) → k < n → get_or (places_at n bs i) k d ≡ place_at bs (i + 24 * k)
item_places_at zero bs i k d h = absurd (omega arith)
item_places_at (suc n) bs i zero d h = ap (place_at bs) (omega arith)
item_places_at (suc n) bs i (suc k) d h = item_places_at n bs (i + 24) k d (omega arith) ∙ ap (place_at bs) (omega arith)

-- ---- where shapes end
pub past_more : (k : ℕ) (bs : List ℕ) (i : ℕ) → past (k + 1) bs i ≡ past k bs i + 1 + 4 * byte bs (past k bs i)
past_more zero bs i = refl
past_more (suc k) bs i = let e : suc k + 1 ≡ suc (k + 1) = omega arith in ap (λ (n : ℕ). past n bs i) e ∙ past_more k bs (i + 1 + 4 * byte bs i)

pub past_after : (k : ℕ) (bs : List ℕ) (i : ℕ) → i ≤ past k bs i
past_after zero bs i = omega arith
past_after (suc k) bs i = omega (arith, past_after k bs (i + 1 + 4 * byte bs i))

pub past_monotone : (j k : ℕ) (bs : List ℕ) (i : ℕ) → j ≤ k → past j bs i ≤ past k bs i
past_monotone zero k bs i h = past_after k bs i
past_monotone (suc j) zero bs i h = absurd (omega arith)
past_monotone (suc j) (suc k) bs i h = past_monotone j k bs (i + 1 + 4 * byte bs i) (omega arith)

pub byte_below : (bs : List ℕ) (i : ℕ) → Bytes bs → byte bs i < 256
byte_below bs i h =
    ⊎_elim (λ l. All-get_or (λ b. b < 256) bs i 0 l h) (λ l. let e = get_or_past bs i 0 l in omega arith) (cases_lt i (length bs))

pub past_below : (k : ℕ) (bs : List ℕ) (i : ℕ) → Bytes bs → past k bs i ≤ i + 1021 * k
past_below zero bs i h = omega arith
past_below (suc k) bs i h = omega (arith, past_below k bs (i + 1 + 4 * byte bs i) h, byte_below bs i h)
