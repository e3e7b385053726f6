-- A stretch that passes a sound shape doesn't change from above it to below it, while it is over a lower and an upper side. Assumes nothing.
use Rattle.std.proofs.Common.{◌≡◌, ℕ, zero, suc, ◌+◌, ◌<◌, [], length, ℤ, pos, ◌-ℤ◌, ◌*ℤ◌, ◌≤ℤ◌, ◌<ℤ◌, refl, arith}
use borrow.Author.Differences.{ints}
use Rattle.std.proofs.lemmas.Int.{by_lt_z}
use Rattle.algebra.specs.Hall.{Corner, Place, Shape, corner, edge, between}
use Rattle.algebra.specs.Forms.{Form, value, Along}
use Rattle.algebra.proofs.Polynomial.{forms, by_ring}
use Rattle.algebra.proofs.Order.{pos≥0, times-≤}
use Rattle.algebra.proofs.Forms.{of_corner, of_place, of_form, sign_along, stretch, crossing}
use Rattle.obstacle.specs.Section.{LeftOf, RightOf, Spans}
use Rattle.obstacle.proofs.Open.{side_form, edge_value}
use Rattle.ledge.specs.Heights.{upright}
use Rattle.ledge.specs.Sides.{LowerOver, UpperOver, KeepsSide, end}
use Rattle.ledge.proofs.Sections.{between_sides}
use Rattle.ledge.proofs.Thickness.{thick}

-- ---- what is over a stretch's ends is over its places

-- a form that is above 0, or below, at both ends
module _ {v w m : ℤ} where
  both>0 : (t u : ℕ) → Along v w m t u → 0 < t + u → pos 0 <ℤ v → pos 0 <ℤ w → pos 0 <ℤ m
  both>0 t zero a n h k = a.ends>0 (omega (arith, ints)) k (omega arith)
  both>0 t (suc u) a n h k = a.starts>0 h (omega (arith, ints)) (omega arith)

  both<0 : (t u : ℕ) → Along v w m t u → 0 < t + u → v <ℤ pos 0 → w <ℤ pos 0 → m <ℤ pos 0
  both<0 t zero a n h k = a.ends<0 (omega (arith, ints)) k (omega arith)
  both<0 t (suc u) a n h k = a.starts<0 h (omega (arith, ints)) (omega arith)

upright_value : (c : Corner) (p : Place) → value (upright c) p ≡ p.x -ℤ (c.x *ℤ pos p.w)
unfolding value upright
upright_value c p = by_ring (of_corner c (of_place p [])) (search forms depth 60 fits 99999) refl

-- of two corners, one to the left of p and one of q, the left one is to the left of both; and so to the right
record Shared (g : Shape) (P Q : ℕ → Type 0) : Type 0 where
  it : ℕ
  within : it < length g
  p : P it
  q : Q it

module _ (g : Shape) (p q : Place) (a : Spans g p) (b : Spans g q) where
  shared_left : Shared g (λ i. LeftOf g i p) (λ i. LeftOf g i q)
  shared_left =
      let x = (corner g a.i).x in
      let y = (corner g b.i).x in
      by_lt_z x y
      (λ h. record { it = a.i; within = a.i_within; p = a.left; q = omega (arith, ints, b.left, times-≤ x y (pos q.w) (omega (arith, ints)) (pos≥0 q.w)) })
      (λ h. record { it = b.i; within = b.i_within; p = omega (arith, ints, a.left, times-≤ y x (pos p.w) h (pos≥0 p.w)); q = b.left })

  shared_right : Shared g (λ i. RightOf g i p) (λ i. RightOf g i q)
  shared_right =
      let x = (corner g a.j).x in
      let y = (corner g b.j).x in
      by_lt_z x y
      (λ h. record { it = b.j; within = b.j_within; p = omega (arith, ints, a.right, times-≤ x y (pos p.w) (omega (arith, ints)) (pos≥0 p.w)); q = b.right })
      (λ h. record { it = a.j; within = a.j_within; p = a.right; q = omega (arith, ints, b.right, times-≤ y x (pos q.w) h (pos≥0 q.w)) })

module _ (p q : Place) (t u : ℕ) (wp : 0 < p.w) (wq : 0 < q.w) (some : 0 < t + u) where
  abbrev m : Place
  m = between p q t u

  module _ (c : Corner) where
    abbrev along : Along (value (upright c) p) (value (upright c) q) (value (upright c) m) t u
    along = sign_along (upright c) p q t u wp wq

    stays_from : (c.x *ℤ pos p.w) ≤ℤ p.x → (c.x *ℤ pos q.w) ≤ℤ q.x → (c.x *ℤ pos m.w) ≤ℤ m.x
    stays_from h k = omega (arith, ints, upright_value c m, along.stays≥0 (omega (arith, ints, upright_value c p)) (omega (arith, ints, upright_value c q)))

    stays_to : p.x ≤ℤ (c.x *ℤ pos p.w) → q.x ≤ℤ (c.x *ℤ pos q.w) → m.x ≤ℤ (c.x *ℤ pos m.w)
    stays_to h k = omega (arith, ints, upright_value c m, along.stays≤0 (omega (arith, ints, upright_value c p)) (omega (arith, ints, upright_value c q)))

    stays_left : (c.x *ℤ pos p.w) <ℤ p.x → (c.x *ℤ pos q.w) <ℤ q.x → (c.x *ℤ pos m.w) <ℤ m.x
    stays_left h k = omega (arith, ints, upright_value c m, both>0 t u along some (omega (arith, ints, upright_value c p)) (omega (arith, ints, upright_value c q)))

    stays_right : p.x <ℤ (c.x *ℤ pos p.w) → q.x <ℤ (c.x *ℤ pos q.w) → m.x <ℤ (c.x *ℤ pos m.w)
    stays_right h k = omega (arith, ints, upright_value c m, both<0 t u along some (omega (arith, ints, upright_value c p)) (omega (arith, ints, upright_value c q)))

  module _ (g : Shape) where
    pub lower_between : (i : ℕ) → LowerOver g i p → LowerOver g i q → LowerOver g i m
    lower_between i a b = record { within = a.within; runs = a.runs; from = stays_from (corner g i) a.from b.from; to = stays_to (end g i) a.to b.to }

    pub upper_between : (i : ℕ) → UpperOver g i p → UpperOver g i q → UpperOver g i m
    upper_between i a b = record { upper = a.upper; from = stays_from (end g i) a.from b.from; to = stays_to (corner g i) a.to b.to }

    pub spans_between : Spans g p → Spans g q → Spans g m
    spans_between a b =
        let l = shared_left g p q a b in
        let r = shared_right g p q a b in
        record { i = l.it; j = r.it; i_within = l.within; j_within = r.within; left = stays_left (corner g l.it) l.p l.q; right = stays_right (corner g r.it) r.p r.q }

-- ---- from above to below
unfoldable less : Form → Form → Form
less f h = record { a = f.a -ℤ h.a; b = f.b -ℤ h.b; c = f.c -ℤ h.c }

less_value : (f h : Form) (p : Place) → value (less f h) p ≡ value f p -ℤ value h p
unfolding less value
less_value f h p = by_ring (of_form f (of_form h (of_place p []))) (search forms depth 60 fits 99999) refl

-- how much more a place is above side l than below side u
module _ (g : Shape) (l u : ℕ) where
  abbrev more : Form
  more = less (side_form g l) (side_form g u)

  more_value : (p : Place) → value more p ≡ edge g l p -ℤ edge g u p
  more_value p = omega (arith, ints, less_value (side_form g l) (side_form g u) p, edge_value g l p, edge_value g u p)

  -- the upper side is above the lower one: so p is below the upper, if it is not above the lower one or no more above that than below the upper
  below_upper : (p : Place) → (edge g u p ≤ℤ pos 0 → pos 0 <ℤ edge g l p) → (pos 0 <ℤ edge g l p → edge g l p ≤ℤ edge g u p) → pos 0 <ℤ edge g u p
  below_upper p thick_there h = by_lt_z (pos 0) (edge g u p) (λ k. k) (λ k. let a = thick_there k in absurd (omega (arith, ints, h a)))

-- where it is as much above the lower side as below the upper one, the stretch is inside
pub keeps_side : KeepsSide
keeps_side g p q l u sound wp wq spans_p spans_q low_p low_q up_p up_q passes above below =
    let high = thick g p l u sound wp spans_p low_p up_p above in
    let deep = below_upper g l u q (thick g q l u sound wq spans_q low_q up_q) (λ h. absurd (omega (arith, ints))) in
    let c = crossing.down (more g l u) p q wp wq (omega (arith, ints, more_value g l u p)) (omega (arith, ints, more_value g l u q)) (λ e. omega (arith, ints, e.0, more_value g l u p)) in
    let m = between p q c.t c.u in
    let real = stretch.real p q c.t c.u wp wq c.some in
    let spans = spans_between p q c.t c.u wp wq c.some g spans_p spans_q in
    let low = lower_between p q c.t c.u wp wq c.some g l low_p low_q in
    let up = upper_between p q c.t c.u wp wq c.some g u up_p up_q in
    let even : edge g l m ≡ edge g u m = omega (arith, ints, c.zero, more_value g l u m) in
    let under = below_upper g l u m (thick g m l u sound real spans low up) (λ h. omega (arith, ints, even)) in
    passes (record { t = c.t; u = c.u; some = c.some; inside = between_sides g m l u sound real spans low up (omega (arith, ints, even, under)) under })
