-- A stretch against a shape: the sides' values at a place of it are forms in the parts gone and to go. Assumes nothing.
use Rattle.std.proofs.Common.{◌≡◌, ℕ, ◌*◌, ◌<◌, ◌⊎◌, [], ◌∷◌, length, ℤ, pos, negsuc, ◌+ℤ◌, ◌*ℤ◌, ◌≤ℤ◌, ◌<ℤ◌, refl, ◌∙◌, inl, inr, mul-pos, arith}
use borrow.Author.Differences.{ints}
use Rattle.algebra.specs.Hall.{Place, Shape, Inside, corner, next, edge, between}
use Rattle.algebra.specs.Forms.{line}
use Rattle.algebra.proofs.Polynomial.{forms, by_ring}
use Rattle.algebra.proofs.Order.{signs, pos≥0}
use Rattle.algebra.proofs.Forms.{side_is_form, interpolation}
use Rattle.algebra.proofs.Places.{edge_along}
use Rattle.motion.specs.Stretch.{Enters, Passes, Outside, Parted, StretchSettled}
use Rattle.motion.proofs.Wedges.{Nowhere, Apart, on, Wedge, Outcome, outcome, never_both}

-- a side's value on a stretch, from those at its ends
edge_on : (g : Shape) (i : ℕ) (p q : Place) (t u : ℕ) → edge g i (between p q t u) ≡ on (edge g i p) (edge g i q) (pos (q.w * u)) (pos (p.w * t))
unfolding edge
edge_on g i p q t u =
    let c = corner g i in
    let d = corner g (next (length g) i) in
    rw (side_is_form c d p, side_is_form c d q, side_is_form c d (between p q t u)) (interpolation (line c d) p q t u)

whole : (z : ℤ) → pos 0 ≤ℤ z → (n : ℕ) × (z ≡ pos n)
whole (pos n) h = (n, refl)
whole (negsuc n) h = absurd (omega (arith, ints))

-- in as many parts as make both weights the same
module _ (g : Shape) (p q : Place) (wp : 0 < p.w) (wq : 0 < q.w) where
  edge_scaled : (i t u : ℕ) → edge g i (between p q (q.w * t) (p.w * u)) ≡ (pos p.w *ℤ pos q.w) *ℤ on (edge g i p) (edge g i q) (pos u) (pos t)
  edge_scaled i t u =
      edge_on g i p q (q.w * t) (p.w * u) ∙ by_ring (edge g i p ∷ edge g i q ∷ pos p.w ∷ pos q.w ∷ pos t ∷ pos u ∷ []) (search forms depth 60 fits 99999) refl

  enters : Wedge (λ i. edge g i p) (λ i. edge g i q) (length g) → Enters g p q
  unfolding Inside
  enters w =
      let x = whole (w.u +ℤ w.v) (omega (arith, ints, w.u>0, w.v≥0)) in
      let y = whole (w.t +ℤ w.s) (omega (arith, ints, w.t≥0, w.s>0)) in
      let n : 0 < x.0 = omega (arith, ints, x.1, w.u>0, w.v≥0) in
      record {
        t = q.w * y.0;
        u = p.w * x.0;
        some = let m = mul-pos wp n in omega arith;
        inside = λ i h.
            let k = (w.above i h).between in
            let e : on (edge g i p) (edge g i q) w.u w.t +ℤ on (edge g i p) (edge g i q) w.v w.s ≡ on (edge g i p) (edge g i q) (w.u +ℤ w.v) (w.t +ℤ w.s) =
            by_ring (edge g i p ∷ edge g i q ∷ w.u ∷ w.t ∷ w.v ∷ w.s ∷ []) (search forms depth 60 fits 99999) refl in
            let m : pos 0 <ℤ on (edge g i p) (edge g i q) (pos x.0) (pos y.0) = rw (e, x.1, y.1) at k in
            rw edge_scaled (search signs);
      }

  -- what one or two sides show, by their values at the ends
  outside_of : Nowhere (λ i. edge g i p) (λ i. edge g i q) (length g) → Outside g p q
  outside_of h = record { i = h.i; within = h.within; from = h.from; to = h.to }

  parted_of : Apart (λ i. edge g i p) (λ i. edge g i q) (length g) → Parted g p q
  parted_of h =
      record {
        i = h.i;
        j = h.j;
        i_within = h.i_within;
        j_within = h.j_within;
        i_from = h.pair.first_from;
        i_to = h.pair.first_to;
        j_from = h.pair.second_from;
        j_to = h.pair.second_to;
        late = h.pair.late;
      }

  of_parted : Parted g p q → Apart (λ i. edge g i p) (λ i. edge g i q) (length g)
  of_parted h =
      record {
        i = h.i;
        j = h.j;
        i_within = h.i_within;
        j_within = h.j_within;
        pair = record { first_from = h.i_from; first_to = h.i_to; second_from = h.j_from; second_to = h.j_to; late = h.late };
      }

  settled_cases : Outcome (λ i. edge g i p) (λ i. edge g i q) (length g) → Enters g p q ⊎ (Outside g p q ⊎ Parted g p q)
  settled_cases (inl w) = inl (enters w)
  settled_cases (inr (inl h)) = inr (inl (outside_of h))
  settled_cases (inr (inr h)) = inr (inr (parted_of h))

  outside_passes : Outside g p q → Passes g p q
  unfolding Inside
  outside_passes o e = let a = (edge_along g o.i p q e.t e.u wp wq).stays≤0 o.from o.to in omega (arith, ints, e.inside o.i o.within)

  parted_passes : Parted g p q → Passes g p q
  unfolding Inside of_parted
  parted_passes d e =
      let f = e.inside d.i d.i_within in
      let h = e.inside d.j d.j_within in
      never_both (edge g d.i p) (edge g d.i q) (edge g d.j p) (edge g d.j q) (pos (q.w * e.u)) (pos (p.w * e.t)) (pos≥0 _) (of_parted d).pair
      (rw edge_on at f) (rw edge_on at h)

pub stretch_settled : StretchSettled
stretch_settled g p q wp wq =
    record {
      cases = settled_cases g p q wp wq (outcome (λ i. edge g i p) (λ i. edge g i q) (length g));
      outside = outside_passes g p q wp wq;
      parted = parted_passes g p q wp wq;
    }
