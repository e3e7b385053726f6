-- Two sides that lie in one line, and two that are parallel and don't. Assumes nothing.
use Rattle.std.proofs.Common.{◌≡◌, ℕ, ◌+◌, ◌*◌, ◌<◌, [], ◌∷◌, ℤ, pos, ◌+ℤ◌, ◌-ℤ◌, ◌*ℤ◌, nat_abs, ◌≤ℤ◌, ◌<ℤ◌, sym, refl, ap, ◌∙◌, subst, ap₂, inl, inr, ⊎_elim, arith}
use borrow.Author.Differences.{ints}
use Rattle.algebra.specs.Hall.{Corner, Place, at, side, between}
use Rattle.algebra.proofs.Ring.{zero-*ℤ}
use Rattle.algebra.proofs.Polynomial.{forms, by_ring}
use Rattle.algebra.proofs.Order.{signs, by-≡, untimes-≡, pos>0}
use Rattle.exact.specs.declared.points.Side.{Side}
use Rattle.exact.specs.Points.{corner_of}
use Rattle.exact.specs.Sides.{turning}
use Rattle.exact.specs.Meets.{Among, Unmet}
use Rattle.exact.proofs.Crossings.{among_side, among_line, gap, gaps, size_up}
use Rattle.ledge.specs.Contacts.{Segment, segment, OnSegment, RunsRight, IsInLine, Over, LiesInLine}

-- ---- a place between two corners, and a line on which both have one value
-- on the line, if that value is 0
line_through : (a b c d : Corner) (q : Place) → side c d (at a) ≡ pos 0 → side c d (at b) ≡ pos 0 → Among a b q → side c d q ≡ pos 0
line_through a b c d q e f h =
    untimes-≡ (side c d q) (pos 0) (pos (h.t + h.u)) (pos>0 (h.t + h.u) h.some)
    (among_side a b c d q h
    ∙ ap₂ (λ (y z : ℤ). ((y *ℤ pos h.u) +ℤ (z *ℤ pos h.t)) *ℤ pos q.w) e f
    ∙ by_ring (pos q.w ∷ pos h.t ∷ pos h.u ∷ []) (search forms depth 60 fits 99999) refl)

-- and only then
ends_on : (a b c d : Corner) (q : Place) → side c d (at a) ≡ side c d (at b) → 0 < q.w → Among a b q → side c d q ≡ pos 0 → side c d (at a) ≡ pos 0
ends_on a b c d q e w h z =
    let n : ℤ = pos (h.t + h.u) *ℤ pos q.w in
    untimes-≡ (side c d (at a)) (pos 0) n (search signs)
    (by_ring (side c d (at a) ∷ pos q.w ∷ pos h.t ∷ pos h.u ∷ []) (search forms depth 60 fits 99999) refl
    ∙ ap (λ (y : ℤ). ((side c d (at a) *ℤ pos h.u) +ℤ (y *ℤ pos h.t)) *ℤ pos q.w) e
    ∙ sym (among_side a b c d q h)
    ∙ ap (λ (y : ℤ). y *ℤ pos (h.t + h.u)) z
    ∙ zero-*ℤ (pos (h.t + h.u))
    ∙ sym (zero-*ℤ n))

-- ---- a place on the line of two corners and between them from left to right is between them
within : (c d : Corner) (q : Place) → c.x <ℤ d.x → 0 < q.w → side c d q ≡ pos 0 → (c.x *ℤ pos q.w) ≤ℤ q.x → q.x ≤ℤ (d.x *ℤ pos q.w) → Among c d q
unfolding side between
within c d q r w z h k =
    let t : ℕ = nat_abs (q.x -ℤ (c.x *ℤ pos q.w)) in
    let u : ℕ = nat_abs ((d.x *ℤ pos q.w) -ℤ q.x) in
    let et : pos t ≡ q.x -ℤ (c.x *ℤ pos q.w) = size_up (q.x -ℤ (c.x *ℤ pos q.w)) (omega (arith, ints)) in
    let eu : pos u ≡ (d.x *ℤ pos q.w) -ℤ q.x = size_up ((d.x *ℤ pos q.w) -ℤ q.x) (omega (arith, ints)) in
    let s : pos 0 <ℤ ((d.x -ℤ c.x) *ℤ pos q.w) = search signs in
    let p : (d.x -ℤ c.x) *ℤ pos q.w ≡ (q.x -ℤ (c.x *ℤ pos q.w)) +ℤ ((d.x *ℤ pos q.w) -ℤ q.x) = by_ring (c.x ∷ d.x ∷ q.x ∷ pos q.w ∷ []) (search forms depth 60 fits 99999) refl in
    let n : pos 0 <ℤ (pos t +ℤ pos u) = subst (λ (y : ℤ). pos 0 <ℤ y) (p ∙ sym (ap₂ ◌+ℤ◌ et eu)) s in
    record {
      t = t;
      u = u;
      some = omega (arith, ints, n);
      same = record {
        x =
            ap₂ (λ (y z : ℤ). q.x *ℤ (pos (1 * 1) *ℤ (y +ℤ z))) et eu
            ∙ by_ring (c.x ∷ d.x ∷ q.x ∷ pos q.w ∷ []) (search forms depth 60 fits 99999) refl
            ∙ sym (ap₂ (λ (y z : ℤ). (((c.x *ℤ pos 1) *ℤ z) +ℤ ((d.x *ℤ pos 1) *ℤ y)) *ℤ pos q.w) et eu);
        y =
            ap₂ (λ (y z : ℤ). q.y *ℤ (pos (1 * 1) *ℤ (y +ℤ z))) et eu
            ∙ by-≡ (side c d q *ℤ pos q.w) (pos 0 *ℤ pos q.w) (ap (λ (y : ℤ). y *ℤ pos q.w) z) (by_ring (c.x ∷ c.y ∷ d.x ∷ d.y ∷ q.x ∷ q.y ∷ pos q.w ∷ []) (search forms depth 60 fits 99999) refl)
            ∙ sym (ap₂ (λ (y z : ℤ). (((c.y *ℤ pos 1) *ℤ z) +ℤ ((d.y *ℤ pos 1) *ℤ y)) *ℤ pos q.w) et eu);
      };
    }

-- a corner of a line that runs to the right is the place of that line at its abscissa
at_corner : (a b c : Corner) (q : Place) → a.x <ℤ b.x → side a b (at c) ≡ pos 0 → side a b q ≡ pos 0 → q.x ≡ c.x *ℤ pos q.w → Among c c q
unfolding side between
at_corner a b c q r e f x =
    let n : ℤ = b.x -ℤ a.x in
    let y : q.y ≡ c.y *ℤ pos q.w =
    untimes-≡ q.y (c.y *ℤ pos q.w) n (search signs)
    (by-≡ ((side a b q +ℤ ((b.y -ℤ a.y) *ℤ q.x)) +ℤ (pos 0 *ℤ pos q.w)) ((pos 0 +ℤ ((b.y -ℤ a.y) *ℤ (c.x *ℤ pos q.w))) +ℤ (side a b (at c) *ℤ pos q.w))
    (ap₂ ◌+ℤ◌ (ap₂ (λ (i j : ℤ). i +ℤ ((b.y -ℤ a.y) *ℤ j)) f x) (ap (λ (i : ℤ). i *ℤ pos q.w) (sym e)))
    (by_ring (a.x ∷ a.y ∷ b.x ∷ b.y ∷ c.x ∷ c.y ∷ q.x ∷ q.y ∷ pos q.w ∷ []) (search forms depth 60 fits 99999) refl)) in
    record {
      t = 0;
      u = 1;
      some = omega arith;
      same = record {
        x = ap (λ (i : ℤ). i *ℤ pos 1) x ∙ by_ring (c.x ∷ pos q.w ∷ []) (search forms depth 60 fits 99999) refl;
        y = ap (λ (i : ℤ). i *ℤ pos 1) y ∙ by_ring (c.y ∷ pos q.w ∷ []) (search forms depth 60 fits 99999) refl;
      };
    }

-- ---- sides of the code
turned : (a b : Segment) → RunsRight a b → RunsRight b a
turned a b r = record { first = r.second; second = r.first; one = ⊎_elim inr inl r.one }

swapped : (a b : Segment) → IsInLine a b → IsInLine b a
swapped a b l = record { first_from = l.second_from; first_to = l.second_to; second_from = l.first_from; second_to = l.first_to }

-- in one line, what is on the one and over the other is on the other
carried : (a b : Segment) → RunsRight a b → IsInLine a b → (q : Place) → 0 < q.w → OnSegment a q → Over b q → OnSegment b q
carried a b r l q w h o = ⊎_elim (λ i. ⊎_elim runs (single i) r.second) runs r.one
  where
    runs : b.from.x <ℤ b.to.x → OnSegment b q
    runs i = within (corner_of b.from) (corner_of b.to) q i w (line_through (corner_of a.from) (corner_of a.to) (corner_of b.from) (corner_of b.to) q l.first_from l.first_to h) o.from o.to

    single : a.from.x <ℤ a.to.x → corner_of b.from ≡ corner_of b.to → OnSegment b q
    single i e =
        subst (λ (d : Corner). Among (corner_of b.from) d q) e
        (at_corner (corner_of a.from) (corner_of a.to) (corner_of b.from) q i l.second_from (among_line (corner_of a.from) (corner_of a.to) q h)
        (omega (arith, ints, o.from, o.to, ap (λ (d : Corner). d.x *ℤ pos q.w) e)))

pub lines_up : (a b : Segment) → RunsRight a b → IsInLine a b → LiesInLine a b
lines_up a b r l = record { to_second = carried a b r l; to_first = carried b a (turned a b r) (swapped a b l) }

-- parallel sides with a place in common are in one line
parallel : (a b : Side) → turning a b ≡ pos 0 → (q : Place) → 0 < q.w → OnSegment (segment a) q → OnSegment (segment b) q → IsInLine (segment a) (segment b)
parallel a b z q w h k =
    let s = corner_of a.from in
    let t = corner_of a.to in
    let u = corner_of b.from in
    let v = corner_of b.to in
    let e : side u v (at s) ≡ side u v (at t) = omega (arith, ints, gap s t u v, z) in
    let f : side s t (at u) ≡ side s t (at v) = omega (arith, ints, gaps s t u v, e) in
    let i = ends_on s t u v q e w h (among_line u v q k) in
    let j = ends_on u v s t q f w k (among_line s t q h) in
    record { first_from = i; first_to = sym e ∙ i; second_from = j; second_to = sym f ∙ j }

pub out_of_line : (a b : Side) → Unmet a b → (IsInLine (segment a) (segment b) → ⊥) → (q : Place) → 0 < q.w → OnSegment (segment a) q → OnSegment (segment b) q → ⊥
out_of_line a b m n q w h k = ⊎_elim (λ z. n (parallel a b z q w h k)) (λ f. f q w h k) m
