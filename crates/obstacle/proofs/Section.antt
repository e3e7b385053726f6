-- The cross_section of a sound shape by an upright line: a lower and an upper side over each abscissa between the least and the greatest. Assumes nothing.
use Rattle.std.proofs.Common.{◌≡◌, ℕ, ◌<◌, ◌⊎◌, [], length, ℤ, pos, ◌+ℤ◌, ◌-ℤ◌, ◌*ℤ◌, neg_ℤ, ◌≤ℤ◌, ◌<ℤ◌, refl, subst, inl, inr, arith}
use mathlib.Core.Logic.{⊎_swap}
use borrow.Author.Differences.{ints}
use Rattle.std.proofs.lemmas.Int.{by_lt_z}
use Rattle.algebra.specs.Hall.{Corner, Place, Shape, Sound, Inside, at, side, corner, next, edge}
use Rattle.algebra.specs.Forms.{Form, value, negated, line}
use Rattle.algebra.proofs.Polynomial.{forms, by_ring}
use Rattle.algebra.proofs.Order.{signs, pos≥0, product>0, factor>0, untimes-<}
use Rattle.algebra.proofs.Forms.{of_corner, of_place, of_form, side_is_form, negation}
use Rattle.obstacle.specs.Section.{LeftOf, RightOf, LowerAt, UpperAt, CrossSection, InsideSpans}
use Rattle.obstacle.proofs.Cycle.{turns, find_one, next_below}
use Rattle.obstacle.proofs.Mixed.{side_back}
use Rattle.obstacle.proofs.Strict.{convex_side, corner_same, ends_apart}
use Rattle.obstacle.proofs.Signs.{by_sign, none_times, both_below}
use Rattle.obstacle.proofs.Open.{side_form, values_inside, supports_strictly}

-- ---- a form at a place p

-- from its values at two corners, and how far p is above their line
pub over_line : (a b : Corner) (f : Form) (p : Place) →
    (b.x -ℤ a.x) *ℤ value f p ≡ ((((b.x *ℤ pos p.w) -ℤ p.x) *ℤ value f (at a)) +ℤ ((p.x -ℤ (a.x *ℤ pos p.w)) *ℤ value f (at b))) +ℤ (f.b *ℤ side a b p)
unfolding side value
over_line a b f p = by_ring (of_corner a (of_corner b (of_form f (of_place p [])))) (search forms depth 60 fits 99999) refl

-- so it is above 0 if the abscissa is between those of the corners, and the form grows from their line to p
pub grows>0 : (a b : Corner) (f : Form) (p : Place) → (a.x *ℤ pos p.w) ≤ℤ p.x → p.x ≤ℤ (b.x *ℤ pos p.w) → a.x <ℤ b.x →
    pos 0 ≤ℤ value f (at a) → pos 0 ≤ℤ value f (at b) → pos 0 <ℤ (f.b *ℤ side a b p) → pos 0 <ℤ value f p
grows>0 a b f p left right l at_a at_b grows = factor>0 (b.x -ℤ a.x) (value f p) (search signs) (rw over_line (search signs depth 12 fits 5000))

-- from its value at one corner
beside : (q : Corner) (f : Form) (p : Place) → value f p ≡ ((value f (at q) *ℤ pos p.w) +ℤ (f.a *ℤ (p.x -ℤ (q.x *ℤ pos p.w)))) +ℤ (f.b *ℤ (p.y -ℤ (q.y *ℤ pos p.w)))
unfolding value
beside q f p = by_ring (of_corner q (of_form f (of_place p []))) (search forms depth 60 fits 99999) refl

-- so an upright one is above 0 if it grows from there
pub upright>0 : (q : Corner) (f : Form) (p : Place) → f.b ≡ pos 0 → pos 0 ≤ℤ value f (at q) → pos 0 <ℤ (f.a *ℤ (p.x -ℤ (q.x *ℤ pos p.w))) → pos 0 <ℤ value f p
upright>0 q f p e at_q grows =
    let z = none_times f.b (p.y -ℤ (q.y *ℤ pos p.w)) e in
    rw (beside q f p, z) (search signs depth 12 fits 5000)

-- p is above the line from a to b and below that from c to d, with its abscissa between them: a form that is not below 0 there is above 0 at p
module _ (a b c d : Corner) (f : Form) (p : Place)
    (a_left : (a.x *ℤ pos p.w) ≤ℤ p.x) (b_right : p.x <ℤ (b.x *ℤ pos p.w)) (c_right : p.x ≤ℤ (c.x *ℤ pos p.w)) (d_left : (d.x *ℤ pos p.w) <ℤ p.x)
    (at_a : pos 0 ≤ℤ value f (at a)) (at_b : pos 0 ≤ℤ value f (at b)) (at_c : pos 0 ≤ℤ value f (at c)) (at_d : pos 0 ≤ℤ value f (at d))
    (above : pos 0 <ℤ side a b p) (below : pos 0 <ℤ side c d p) where
  rising : pos 0 <ℤ f.b → pos 0 <ℤ value f p
  rising h =
      let l : a.x <ℤ b.x = untimes-< a.x b.x (pos p.w) (pos≥0 p.w) (omega (arith, ints)) in
      grows>0 a b f p a_left (omega (arith, ints)) l at_a at_b (product>0 f.b (side a b p) h above)

  falling : f.b <ℤ pos 0 → pos 0 <ℤ value f p
  falling h =
      let l : d.x <ℤ c.x = untimes-< d.x c.x (pos p.w) (pos≥0 p.w) (omega (arith, ints)) in
      grows>0 d c f p (omega (arith, ints)) c_right l at_d at_c (both_below f.b (side d c p) h (omega (arith, ints, side_back d c p)))

  upright : f.b ≡ pos 0 → (f.a ≡ pos 0 → ⊥) → pos 0 <ℤ value f p
  upright e n =
      by_sign f.a
      (λ h. upright>0 b f p e at_b (both_below f.a (p.x -ℤ (b.x *ℤ pos p.w)) h (omega (arith, ints))))
      (λ z. absurd (n z))
      (λ h. upright>0 d f p e at_d (product>0 f.a (p.x -ℤ (d.x *ℤ pos p.w)) h (omega (arith, ints))))

  left_of_all : (f.a ≡ pos 0 → f.b ≡ pos 0 → ⊥) → pos 0 <ℤ value f p
  left_of_all n = by_sign f.b falling (λ e. upright e (λ z. n z e)) rising

-- ---- shapes

-- the form of a side is not the same everywhere, and not below 0 at a corner
pub not_flat : (s : Shape) → Sound s → (i : ℕ) → i < length s → (side_form s i).a ≡ pos 0 → (side_form s i).b ≡ pos 0 → ⊥
unfolding line
not_flat s sound i h ea eb = ends_apart s sound i h (corner_same (omega (arith, ints)) (omega (arith, ints)))

pub at_corner : (s : Shape) → Sound s → (i j : ℕ) → i < length s → j < length s → pos 0 ≤ℤ value (side_form s i) (at (corner s j))
at_corner s sound i j hi hj = subst (λ (v : ℤ). pos 0 ≤ℤ v) (side_is_form (corner s i) (corner s (next (length s) i)) (at (corner s j))) (convex_side s sound i j hi hj)

within_section : (s : Shape) (p : Place) → Sound s → (l u : ℕ) → LowerAt s l p → UpperAt s u p → pos 0 <ℤ edge s l p → pos 0 <ℤ edge s u p → Inside s p
unfolding edge
within_section s p sound l u low up above below =
    let ln = next_below (length s) l low.within in
    let un = next_below (length s) u up.within in
    values_inside s p (λ i h. left_of_all (corner s l) (corner s (next (length s) l)) (corner s u) (corner s (next (length s) u)) (side_form s i) p
    low.from low.to up.from up.to
    (at_corner s sound i l h low.within) (at_corner s sound i (next (length s) l) h ln) (at_corner s sound i u h up.within) (at_corner s sound i (next (length s) u) h un)
    above below (not_flat s sound i h))

-- a corner is strictly on one side of the upright line, or not
module _ (s : Shape) (p : Place) where
  abbrev NotLeft : ℕ → Type 0
  NotLeft i = p.x ≤ℤ ((corner s i).x *ℤ pos p.w)

  abbrev NotRight : ℕ → Type 0
  NotRight i = ((corner s i).x *ℤ pos p.w) ≤ℤ p.x

  left_or_not : (i : ℕ) → LeftOf s i p ⊎ NotLeft i
  left_or_not i = by_lt_z ((corner s i).x *ℤ pos p.w) p.x inl inr

  right_or_not : (i : ℕ) → RightOf s i p ⊎ NotRight i
  right_or_not i = by_lt_z p.x ((corner s i).x *ℤ pos p.w) inl inr

pub cross_section : CrossSection
cross_section s p sound real spans =
    let n = length s in
    let low = turns n (NotRight s p) (λ i. RightOf s i p) (λ i. ⊎_swap (right_or_not s p i)) spans.j spans.j_within (λ h. omega (arith, ints, spans.right)) spans.i spans.i_within (omega (arith, ints, spans.left)) in
    let up = turns n (NotLeft s p) (λ i. LeftOf s i p) (λ i. ⊎_swap (left_or_not s p i)) spans.i spans.i_within (λ h. omega (arith, ints, spans.left)) spans.j spans.j_within (omega (arith, ints, spans.right)) in
    let below : LowerAt s low.it p = record { within = low.within; from = low.from; to = low.to } in
    let above : UpperAt s up.it p = record { within = up.within; from = up.from; to = up.to } in
    record {
      lower = low.it;
      upper = up.it;
      below = below;
      above = above;
      inside = within_section s p sound low.it up.it below above;
    }

-- ---- the form that is 0 on the upright line through p, and above 0 to the right of it
unfoldable abscissa : Place → Form
abscissa p = record { a = pos p.w; b = pos 0; c = neg_ℤ p.x }

abscissa_zero : (p : Place) → value (abscissa p) p ≡ pos 0
unfolding value abscissa
abscissa_zero p = by_ring (of_place p []) (search forms depth 60 fits 99999) refl

abscissa_at : (c : Corner) (p : Place) → value (abscissa p) (at c) ≡ (c.x *ℤ pos p.w) -ℤ p.x
unfolding value abscissa
abscissa_at c p = by_ring (of_corner c (of_place p [])) (search forms depth 60 fits 99999) refl

module _ (s : Shape) (p : Place) (sound : Sound s) (real : 0 < p.w) (inside : Inside s p) where
  some_left : ((i : ℕ) → i < length s → NotLeft s p i) → ⊥
  unfolding abscissa
  some_left none =
      omega (
        arith,
        ints,
        abscissa_zero p,
        supports_strictly s (abscissa p) p sound real (λ e. omega (arith, ints, e.0)) (λ i h. omega (arith, ints, abscissa_at (corner s i) p, none i h)) inside,
      )

  some_right : ((i : ℕ) → i < length s → NotRight s p i) → ⊥
  unfolding abscissa negated
  some_right none =
      omega (
        arith,
        ints,
        abscissa_zero p,
        negation (abscissa p) p,
        supports_strictly s (negated (abscissa p)) p sound real (λ e. omega (arith, ints, e.0)) (λ i h. omega (arith, ints, abscissa_at (corner s i) p, negation (abscissa p) (at (corner s i)), none i h)) inside,
      )

pub inside_spans : InsideSpans
inside_spans s p sound real inside =
    let l = find_one (length s) (λ i. LeftOf s i p) (NotLeft s p) (left_or_not s p) (some_left s p sound real inside) in
    let r = find_one (length s) (λ i. RightOf s i p) (NotRight s p) (right_or_not s p) (some_right s p sound real inside) in
    record { i = l.it; j = r.it; i_within = l.within; j_within = r.within; left = l.is; right = r.is }
