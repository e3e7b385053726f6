-- The values of a shape's sides at the two ends of a stretch, as the code finds them. Assumes nothing.
use Rattle.std.proofs.Common.{◌≡◌, ℕ, zero, suc, ◌+◌, ◌<◌, ◌≤◌, ◌≢◌, ◌⊎◌, List, [], ◌∷◌, length, take, set, get_or, ℤ, ◌≤ℤ◌, ◌<ℤ◌, Decides, Ordering, Less, Equal, Greater, ⊎_elim, sym, refl, ◌∙◌, subst, ap₂, inl, inr, arith, below_more}
use borrow.Author.Differences.{ints}
use Rattle.std.specs.List.{Any}
use Rattle.std.specs.Ordering.{MatchOrdering, is_le}
use Rattle.std.proofs.lemmas.List.{get_or-set_same, get_or-set_other, get_or-take, length-map, length-take-le}
use Rattle.std.proofs.lemmas.Bool.{false≢true, cases_eq}
use Rattle.algebra.specs.Hall.{Corner, Place, Shape, corner, next, side, edge}
use Rattle.exact.specs.Points.{corner_of, place_of}
use Rattle.hall.specs.declared.shapes.Shape as code
use Rattle.hall.specs.Shapes.{shape_of}
use Rattle.motion.specs.declared.ends.Ends.{Ends}
use Rattle.motion.specs.declared.stretches.Stretch.{Stretch}
use Rattle.motion.proofs.Judging.{bounded_holds}
use Rattle.motion.specs.Ends.{EndsOf, LatePair, Low}
use Rattle.motion.specs.Stretch.{Enters, Passes, Outside, Parted, Settled}
use Rattle.motion.proofs.Settle.{stretch_settled}

-- what `is_le` says of two numbers in order
pub le_decides : (o : Ordering) (x y : ℤ) → MatchOrdering o (x <ℤ y) (x ≡ y) (y <ℤ x) → Decides (is_le o) (x ≤ℤ y)
le_decides Less x y h = (λ e. omega (arith, ints), λ e. refl)
le_decides Equal x y h = (λ e. omega (arith, ints), λ e. refl)
le_decides Greater x y h = (λ e. absurd (false≢true e), λ e. absurd (omega (arith, ints)))

-- an element is the same whatever stands past the end
item_at : {X : Type 0} (xs : List X) (i : ℕ) → i < length xs → (x : X) × ((d : X) → get_or xs i d ≡ x)
item_at [] i h = absurd (omega arith)
item_at (x ∷ xs) zero h = (x, λ d. refl)
item_at (x ∷ xs) (suc i) h = item_at xs i (omega arith)

module _ (g : Shape) (p q : Place) where
  -- the values at a side from corner i to the next
  pub ends_found : (i : ℕ) (a b : Corner) (e : Ends) → a ≡ corner g i → b ≡ corner g (next (length g) i) → e.from ≡ side a b p → e.to ≡ side a b q → EndsOf g p q i e
  unfolding edge
  ends_found i a b e c d x y =
      record {
        from = x ∙ ap₂ (λ (c : Corner) (d : Corner). side c d p) c d;
        to = y ∙ ap₂ (λ (c : Corner) (d : Corner). side c d q) c d;
      }

  -- the values of the first sides, none of which shows alone that the stretch passes
  pub record Found (n : ℕ) (es : List Ends) : Type 0 where
    pub each : (i : ℕ) (e : Ends) → i < n → EndsOf g p q i (get_or es i e)
    pub none : (o : Outside g p q) → o.i < n → ⊥

  pub found_none : (es : List Ends) → Found 0 es
  found_none es = record { each = λ i e l. absurd (omega arith); none = λ o l. absurd (omega arith) }

  -- one more of them is put into the array
  pub found_more : (es : List Ends) (i : ℕ) (f : Ends) → i < length es → Found i es → EndsOf g p q i f → (Low f → ⊥) → Found (i + 1) (set es i f)
  found_more es i f l before new high =
      record {
        each = λ k e.
            below_more _ _ (λ m b. let ne : m ≢ i = omega arith in subst (EndsOf g p q m) (sym (get_or-set_other es i m f e ne)) (before.each m e b))
            (subst (EndsOf g p q i) (sym (get_or-set_same es i f e l)) new) k;
        none = λ o h.
            ⊎_elim (λ (x : o.i ≡ i). high (record { from = rw (new.from, ← x) o.from; to = rw (new.to, ← x) o.to })) (λ x. before.none o (omega arith)) (cases_eq o.i i);
      }

  -- as many values as the shape has sides, in their order
  pub record Valued (es : List Ends) : Type 0 where
    pub same : length es ≡ length g
    pub all : (i : ℕ) (e : Ends) → i < length g → EndsOf g p q i (get_or es i e)

  -- the first ones of an array
  pub valued : {room : ℕ} (n : ℕ) (es : List Ends) → length es ≡ room → n ≤ room → n ≡ length g → ((i : ℕ) (e : Ends) → i < length g → EndsOf g p q i (get_or es i e)) → Valued (take n es)
  valued {room} n es k h e all =
      record {
        same = length-take-le n es (omega arith) ∙ e;
        all = λ i x l. subst (EndsOf g p q i) (sym (get_or-take n es i x (omega arith))) (all i x l);
      }

  -- they settle the stretch
  module _ (es : List Ends) (v : Valued es) (wp : 0 < p.w) (wq : 0 < q.w) where
    at_edges : (i : ℕ) (e : Ends) → i < length es → get_or es i e ≡ e → EndsOf g p q i e
    at_edges i e h x = subst (EndsOf g p q i) x (v.all i e (omega (arith, v.same)))

    -- the values at a side are there
    found_at : (i : ℕ) → i < length g → (e : Ends) × (get_or es i e ≡ e) × EndsOf g p q i e
    found_at i l =
        let a = item_at es i (omega (arith, v.same)) in
        (a.0, a.1 a.0, at_edges i a.0 (omega (arith, v.same)) (a.1 a.0))

    late_passes : Any (λ e. Any (LatePair e) es) es → Passes g p q
    late_passes h =
        let k = h.4 in
        let e = at_edges h.0 h.1 h.2 h.3 in
        let f = at_edges k.0 k.1 k.2 k.3 in
        (stretch_settled g p q wp wq).parted (record {
          i = h.0;
          j = k.0;
          i_within = omega (arith, v.same, h.2);
          j_within = omega (arith, v.same, k.2);
          i_from = rw e.from at k.4.first_from;
          i_to = rw e.to at k.4.first_to;
          j_from = rw f.from at k.4.second_from;
          j_to = rw f.to at k.4.second_to;
          late = rw (e.from, e.to, f.from, f.to) at k.4.late;
        })

    late_shown : Parted g p q → Any (λ e. Any (LatePair e) es) es
    late_shown h =
        let a = found_at h.i h.i_within in
        let b = found_at h.j h.j_within in
        let e = a.2 in
        let f = b.2 in
        let late : LatePair a.0 b.0 = record { first_from = rw e.from h.i_from; first_to = rw e.to h.i_to; second_from = rw f.from h.j_from; second_to = rw f.to h.j_to; late = rw (e.from, e.to, f.from, f.to) h.late } in
        (h.i, a.0, omega (arith, v.same, h.i_within), a.1, (h.j, b.0, omega (arith, v.same, h.j_within), b.1, late))

    -- a stretch that passes is shown to do so by one side or by two
    shown : Passes g p q → Enters g p q ⊎ (Outside g p q ⊎ Parted g p q) → (Outside g p q → ⊥) → Any (λ e. Any (LatePair e) es) es
    shown h (inl e) n = absurd (h e)
    shown h (inr (inl o)) n = absurd (n o)
    shown h (inr (inr d)) n = late_shown d

    pub passes_shown : Passes g p q → (Outside g p q → ⊥) → Any (λ e. Any (LatePair e) es) es
    passes_shown h = shown h (stretch_settled g p q wp wq).cases

-- ---- the values that a stretch of the code has at a shape of the code
pub few_sides : {n : ℕ} (s : code.Shape n) → length (shape_of s) ≤ n
few_sides s = omega (arith, length-map (take s.count s.corners) corner_of, length-take-le s.count s.corners (omega (arith, s.few)), s.few)

pub passed : (g : Shape) (t : Stretch) → Settled g (place_of t.from) (place_of t.to)
passed g t = stretch_settled g (place_of t.from) (place_of t.to) (bounded_holds _ _ t.near.0).real (bounded_holds _ _ t.near.1).real

pub record Told (g : Shape) (p q : Place) (es : List Ends) : Type 0 where
  pub late : Any (λ e. Any (LatePair e) es) es → Passes g p q
  pub shown : Passes g p q → (Outside g p q → ⊥) → Any (λ e. Any (LatePair e) es) es

pub told : {room : ℕ} (s : code.Shape room) (t : Stretch) (n : ℕ) (es : List Ends) → length es ≡ room → n ≡ length (shape_of s) →
    ((i : ℕ) (e : Ends) → i < length (shape_of s) → EndsOf (shape_of s) (place_of t.from) (place_of t.to) i (get_or es i e)) → Told (shape_of s) (place_of t.from) (place_of t.to) (take n es)
told s t n es k e all =
    let v = valued (shape_of s) (place_of t.from) (place_of t.to) n es k (omega (arith, few_sides s)) e all in
    let wp = (bounded_holds _ _ t.near.0).real in
    let wq = (bounded_holds _ _ t.near.1).real in
    record { late = late_passes _ _ _ _ v wp wq; shown = passes_shown _ _ _ _ v wp wq }
