-- Bytes without a fault are those in which what is read fits, and that end where it ends. Assumes nothing.
use Rattle.std.proofs.Common.{◌≡◌, ℕ, ◌+◌, ◌-◌, ◌*◌, ◌/◌, ◌%◌, ◌^◌, ◌<◌, true, ◌&&◌, leb, List, [], ◌∷◌, length, get_or, ℤ, pos, neg_ℤ, None, Option, sym, subst, ⊎_elim, arith}
use lib.Signed.{le_z}
use Rattle.std.proofs.lemmas.Bool.{and_parts, and_from, leb-true, le-leb, cases_eq}
use Rattle.algebra.specs.Hall.{Corner, Place, Shape, Sound, corner}
use Rattle.algebra.specs.Near.{Near}
use Rattle.hall.specs.declared.refusals.Refusal.{Refusal}
use Rattle.hall.specs.declared.refusals.Refusal.TheVariants.{Length, Number, Count}
use Rattle.hall.specs.Bytes.{byte, little, signed_2, signed_8}
use Rattle.hall.specs.Format.{unless, first_below, near, corners_at, shape_at, shapes_at, place_at, places_at, past, count_from, thing_count, things_from, start_from, goal_from, task_due, task_at, way_due, way_at, bend_fault, shape_fault, place_fault, task_fault, way_fault}
use Rattle.hall.specs.Tasks.{Sized, Bounded, Fit}
use Rattle.hall.proofs.Faults.{test_from_none, unless_true, below_none, none_below}
use Rattle.hall.proofs.Questions.{asked_none, none_asked, below_tests, tests_below}
use Rattle.hall.proofs.Sounds.{le_from_le_z, le_z_from_le, sound_true, true_sound, sound_from_fault, fault_from_sound, length_corners_at, corner_corners_at, length_shapes_at, item_shapes_at, length_places_at, item_places_at}

-- ---- numbers
pub near_from_test : (m : ℕ) (z : ℤ) → near m z ≡ true → Near m z
near_from_test m z h =
    let p = and_parts (le_z (neg_ℤ (pos m)) z) (le_z z (pos m)) h in
    record { low = le_from_le_z (neg_ℤ (pos m)) z p.0; high = le_from_le_z z (pos m) p.1 }

pub test_from_near : (m : ℕ) (z : ℤ) → Near m z → near m z ≡ true
test_from_near m z h = and_from (le_z (neg_ℤ (pos m)) z) (le_z z (pos m)) (le_z_from_le (neg_ℤ (pos m)) z h.low) (le_z_from_le z (pos m) h.high)

-- ---- places
abbrev place_questions : ℕ → List ℕ → ℕ → List (Option Refusal)
place_questions m bs i =
    unless (near m (signed_8 bs i)) (Number i)
    ∷ unless (near m (signed_8 bs (i + 8))) (Number (i + 8))
    ∷ unless (leb 1 (little 8 bs (i + 16)) && leb (little 8 bs (i + 16)) m) (Number (i + 16))
    ∷ []

pub bounded_from_fault : (m : ℕ) (bs : List ℕ) (i : ℕ) → place_fault m bs i ≡ None → Bounded m (place_at bs i)
unfolding place_fault
bounded_from_fault m bs i e =
    let p = asked_none (place_questions m bs i) e in
    let w : ℕ = little 8 bs (i + 16) in
    let q = and_parts (leb 1 w) (leb w m) (test_from_none _ _ p.1.1.0) in
    record {
      x = near_from_test m (signed_8 bs i) (test_from_none _ _ p.0);
      y = near_from_test m (signed_8 bs (i + 8)) (test_from_none _ _ p.1.0);
      real = leb-true 1 w q.0;
      w = leb-true w m q.1;
    }

pub fault_from_bounded : (m : ℕ) (bs : List ℕ) (i : ℕ) → Bounded m (place_at bs i) → place_fault m bs i ≡ None
unfolding place_fault
fault_from_bounded m bs i h =
    let w : ℕ = little 8 bs (i + 16) in
    none_asked (place_questions m bs i) (
      unless_true _ _ (test_from_near m (signed_8 bs i) h.x),
      (
        unless_true _ _ (test_from_near m (signed_8 bs (i + 8)) h.y),
        (unless_true _ _ (and_from (leb 1 w) (leb w m) (le-leb 1 w h.real) (le-leb w m h.w)), tt),
      ),
    )

-- ---- the numbers of n corners, one by one
each_corner : (P : ℤ → Type 0) (n : ℕ) (bs : List ℕ) (i : ℕ) → ((k : ℕ) → k < 2 * n → P (signed_2 bs (i + 2 * k)))
    → (j : ℕ) → j < n → P (corner (corners_at n bs i) j).x × P (corner (corners_at n bs i) j).y
each_corner P n bs i h j l =
    let e = sym (corner_corners_at n bs i j l) in
    let a : i + 2 * (2 * j) ≡ i + 4 * j = omega arith in
    let b : i + 2 * (2 * j + 1) ≡ i + 4 * j + 2 = omega arith in (
      subst (λ (c : Corner). P c.x) e (subst (λ (k : ℕ). P (signed_2 bs k)) a (h (2 * j) (omega arith))),
      subst (λ (c : Corner). P c.y) e (subst (λ (k : ℕ). P (signed_2 bs k)) b (h (2 * j + 1) (omega arith))),
    )

each_number : (P : ℤ → Type 0) (n : ℕ) (bs : List ℕ) (i : ℕ) → ((j : ℕ) → j < n → P (corner (corners_at n bs i) j).x × P (corner (corners_at n bs i) j).y)
    → (k : ℕ) → k < 2 * n → P (signed_2 bs (i + 2 * k))
each_number P n bs i h k l =
    let m : k / 2 < n = omega arith in
    let e = corner_corners_at n bs i (k / 2) m in
    ⊎_elim
    (λ z. let a : i + 4 * (k / 2) ≡ i + 2 * k = omega arith in subst (λ (t : ℕ). P (signed_2 bs t)) a (subst (λ (c : Corner). P c.x) e (h (k / 2) m).0))
    (λ z. let b : i + 4 * (k / 2) + 2 ≡ i + 2 * k = omega arith in subst (λ (t : ℕ). P (signed_2 bs t)) b (subst (λ (c : Corner). P c.y) e (h (k / 2) m).1))
    (cases_eq (k % 2) 0)

-- ---- shapes
abbrev shape_questions : ℕ → List ℕ → ℕ → List (Option Refusal)
shape_questions m bs i =
    unless (leb 3 (byte bs i) && leb (byte bs i) 8) (Count i)
    ∷ first_below (2 * byte bs i) (λ k. unless (near m (signed_2 bs (i + 1 + 2 * k))) (Number (i + 1 + 2 * k)))
    ∷ bend_fault (shape_at bs i) (i + 1)
    ∷ []

pub sized_from_fault : (m : ℕ) (bs : List ℕ) (i : ℕ) → shape_fault m bs i ≡ None → Sized m (shape_at bs i) × Sound (shape_at bs i)
unfolding shape_fault
sized_from_fault m bs i e =
    let p = asked_none (shape_questions m bs i) e in
    let c = and_parts (leb 3 (byte bs i)) (leb (byte bs i) 8) (test_from_none _ _ p.0) in
    let many = leb-true 3 (byte bs i) c.0 in
    let few = leb-true (byte bs i) 8 c.1 in
    let l = length_corners_at (byte bs i) bs (i + 1) in
    let t = below_tests (2 * byte bs i) (λ k. near m (signed_2 bs (i + 1 + 2 * k))) (λ k. Number (i + 1 + 2 * k)) p.1.0 in (
      record {
        few = omega arith;
        near = λ j h. each_corner (Near m) (byte bs i) bs (i + 1) (λ k h. near_from_test m (signed_2 bs (i + 1 + 2 * k)) (t k h)) j (omega arith);
      },
      sound_true (shape_at bs i) (sound_from_fault (shape_at bs i) (i + 1) (omega arith) p.1.1.0),
    )

pub fault_from_sized : (m : ℕ) (bs : List ℕ) (i : ℕ) → Sized m (shape_at bs i) → Sound (shape_at bs i) → shape_fault m bs i ≡ None
unfolding shape_fault
fault_from_sized m bs i h s =
    let l = length_corners_at (byte bs i) bs (i + 1) in
    none_asked (shape_questions m bs i) (
      unless_true _ _ (and_from (leb 3 (byte bs i)) (leb (byte bs i) 8) (le-leb 3 (byte bs i) (omega (arith, s.many))) (le-leb (byte bs i) 8 (omega (arith, h.few)))),
      (
        tests_below (2 * byte bs i) (λ k. near m (signed_2 bs (i + 1 + 2 * k))) (λ k. Number (i + 1 + 2 * k))
            (λ k b. test_from_near m (signed_2 bs (i + 1 + 2 * k)) (each_number (Near m) (byte bs i) bs (i + 1) (λ j b. h.near j (omega arith)) k b)),
        (fault_from_sound (shape_at bs i) (i + 1) (true_sound (shape_at bs i) s), tt),
      ),
    )

-- ---- several shapes and several places
pub sized_things : (m n : ℕ) (bs : List ℕ) (i : ℕ) → first_below n (λ k. shape_fault m bs (past k bs i)) ≡ None
    → (k : ℕ) → k < length (shapes_at n bs i) → Sized m (get_or (shapes_at n bs i) k []) × Sound (get_or (shapes_at n bs i) k [])
sized_things m n bs i e k h =
    let l : k < n = omega (arith, length_shapes_at n bs i) in
    subst (λ (s : Shape). Sized m s × Sound s) (sym (item_shapes_at n bs i k l))
    (sized_from_fault m bs (past k bs i) (below_none n (λ j. shape_fault m bs (past j bs i)) e k l))

pub things_sized : (m n : ℕ) (bs : List ℕ) (i : ℕ) → ((k : ℕ) → k < length (shapes_at n bs i) → Sized m (get_or (shapes_at n bs i) k []) × Sound (get_or (shapes_at n bs i) k []))
    → first_below n (λ k. shape_fault m bs (past k bs i)) ≡ None
things_sized m n bs i h =
    none_below n (λ k. shape_fault m bs (past k bs i)) (λ k l.
    let p = subst (λ (s : Shape). Sized m s × Sound s) (item_shapes_at n bs i k l) (h k (omega (arith, length_shapes_at n bs i))) in
    fault_from_sized m bs (past k bs i) p.0 p.1)

pub bounded_places : (m n : ℕ) (bs : List ℕ) (i : ℕ) → first_below n (λ k. place_fault m bs (i + 24 * k)) ≡ None
    → (k : ℕ) (d : Place) → k < length (places_at n bs i) → Bounded m (get_or (places_at n bs i) k d)
bounded_places m n bs i e k d h =
    let l : k < n = omega (arith, length_places_at n bs i) in
    subst (Bounded m) (sym (item_places_at n bs i k d l)) (bounded_from_fault m bs (i + 24 * k) (below_none n (λ j. place_fault m bs (i + 24 * j)) e k l))

pub places_bounded : (m n : ℕ) (bs : List ℕ) (i : ℕ) → ((k : ℕ) (d : Place) → k < length (places_at n bs i) → Bounded m (get_or (places_at n bs i) k d))
    → first_below n (λ k. place_fault m bs (i + 24 * k)) ≡ None
places_bounded m n bs i h =
    none_below n (λ k. place_fault m bs (i + 24 * k)) (λ k l.
    let d : Place = place_at bs i in
    fault_from_bounded m bs (i + 24 * k) (subst (Bounded m) (item_places_at n bs i k d l) (h k d (omega (arith, length_places_at n bs i)))))

-- ---- tasks
abbrev task_questions : List ℕ → List (Option Refusal)
task_questions bs =
    unless (leb (task_due bs) (length bs)) (Length (length bs))
    ∷ unless (leb (little 2 bs 0) 1000) (Number 0)
    ∷ unless (leb (little 2 bs 2) 1000) (Number 2)
    ∷ shape_fault 200 bs 4
    ∷ unless (leb (thing_count bs) 40) (Count (count_from bs))
    ∷ first_below (thing_count bs) (λ k. shape_fault 1000 bs (past k bs (things_from bs)))
    ∷ place_fault (2 ^ 20) bs (start_from bs)
    ∷ place_fault (2 ^ 20) bs (goal_from bs)
    ∷ unless (leb (length bs) (task_due bs)) (Length (task_due bs))
    ∷ []

pub fit_from_fault : (bs : List ℕ) → task_fault bs ≡ None → (length bs ≡ task_due bs) × Fit (task_at bs)
unfolding task_fault task_at
fit_from_fault bs e =
    let p = asked_none (task_questions bs) e in
    let due = leb-true (task_due bs) (length bs) (test_from_none _ _ p.0) in
    let q = p.1.1.1 in
    let load = sized_from_fault 200 bs 4 q.0 in
    let few = leb-true (thing_count bs) 40 (test_from_none _ _ q.1.0) in
    let things = sized_things 1000 (thing_count bs) bs (things_from bs) q.1.1.0 in
    let r = q.1.1.1 in
    let end = leb-true (length bs) (task_due bs) (test_from_none _ _ r.1.1.0) in (
      omega arith,
      record {
        wide = leb-true (little 2 bs 0) 1000 (test_from_none _ _ p.1.0);
        high = leb-true (little 2 bs 2) 1000 (test_from_none _ _ p.1.1.0);
        load = load.0;
        few = omega (arith, few, length_shapes_at (thing_count bs) bs (things_from bs));
        things = λ k h. (things k h).0;
        start = bounded_from_fault (2 ^ 20) bs (start_from bs) r.0;
        goal = bounded_from_fault (2 ^ 20) bs (goal_from bs) r.1.0;
        proper = record { load = load.1; things = λ k h. (things k h).1 };
      },
    )

pub fault_from_fit : (bs : List ℕ) → length bs ≡ task_due bs → Fit (task_at bs) → task_fault bs ≡ None
unfolding task_fault task_at
fault_from_fit bs e h =
    none_asked (task_questions bs) (
      unless_true _ _ (le-leb (task_due bs) (length bs) (omega arith)),
      (
        unless_true _ _ (le-leb (little 2 bs 0) 1000 h.wide),
        (
          unless_true _ _ (le-leb (little 2 bs 2) 1000 h.high),
          (
            fault_from_sized 200 bs 4 h.load h.proper.load,
            (
              unless_true _ _ (le-leb (thing_count bs) 40 (omega (arith, h.few, length_shapes_at (thing_count bs) bs (things_from bs)))),
              (
                things_sized 1000 (thing_count bs) bs (things_from bs) (λ k l. (h.things k l, h.proper.things k l)),
                (
                  fault_from_bounded (2 ^ 20) bs (start_from bs) h.start,
                  (
                    fault_from_bounded (2 ^ 20) bs (goal_from bs) h.goal,
                    (unless_true _ _ (le-leb (length bs) (task_due bs) (omega arith)), tt),
                  ),
                ),
              ),
            ),
          ),
        ),
      ),
    )

-- ---- ways
abbrev way_questions : List ℕ → List (Option Refusal)
way_questions bs =
    unless (leb (way_due bs) (length bs)) (Length (length bs))
    ∷ first_below (little 2 bs 0) (λ k. place_fault (2 ^ 60 - 1) bs (2 + 24 * k))
    ∷ unless (leb (length bs) (way_due bs)) (Length (way_due bs))
    ∷ []

pub bounded_from_way_fault : (bs : List ℕ) → way_fault bs ≡ None → (length bs ≡ way_due bs) × ((k : ℕ) (d : Place) → k < length (way_at bs) → Bounded (2 ^ 60 - 1) (get_or (way_at bs) k d))
unfolding way_fault way_at
bounded_from_way_fault bs e =
    let p = asked_none (way_questions bs) e in
    let due = leb-true (way_due bs) (length bs) (test_from_none _ _ p.0) in
    let end = leb-true (length bs) (way_due bs) (test_from_none _ _ p.1.1.0) in
    (omega arith, bounded_places (2 ^ 60 - 1) (little 2 bs 0) bs 2 p.1.0)

pub way_fault_from_bounded : (bs : List ℕ) → length bs ≡ way_due bs → ((k : ℕ) (d : Place) → k < length (way_at bs) → Bounded (2 ^ 60 - 1) (get_or (way_at bs) k d)) → way_fault bs ≡ None
unfolding way_fault way_at
way_fault_from_bounded bs e h =
    none_asked (way_questions bs) (
      unless_true _ _ (le-leb (way_due bs) (length bs) (omega arith)),
      (
        places_bounded (2 ^ 60 - 1) (little 2 bs 0) bs 2 h,
        (unless_true _ _ (le-leb (length bs) (way_due bs) (omega arith)), tt),
      ),
    )
