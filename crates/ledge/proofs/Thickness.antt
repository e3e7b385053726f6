-- A sound shape is thick: over an abscissa that it spans, its upper sides lie above its lower ones. Assumes nothing.
use Rattle.std.proofs.Common.{◌≡◌, ◌<◌, [], pos, ◌+ℤ◌, ◌-ℤ◌, ◌*ℤ◌, ◌≤ℤ◌, ◌<ℤ◌, refl, arith}
use borrow.Author.Differences.{ints}
use Rattle.algebra.specs.Hall.{Corner, Place, Inside, at, side, corner, edge}
use Rattle.algebra.specs.Forms.{Form, value, line}
use Rattle.algebra.proofs.Polynomial.{forms, by_ring}
use Rattle.algebra.proofs.Order.{signs, product≤0, factor>0, gap>0}
use Rattle.algebra.proofs.Forms.{of_corner, of_place, of_form, same_sign}
use Rattle.obstacle.proofs.Signs.{none_times}
use Rattle.obstacle.proofs.Strict.{convex_side}
use Rattle.obstacle.proofs.Middle.{has_inside}
use Rattle.ledge.specs.Heights.{gap}
use Rattle.ledge.specs.Sides.{Thick, end}
use Rattle.ledge.proofs.Sections.{spanned>0}

-- a form that is the same everywhere
flat_scaled : (f : Form) (p m : Place) → f.a ≡ pos 0 → f.b ≡ pos 0 → value f m *ℤ pos p.w ≡ value f p *ℤ pos m.w
unfolding value
flat_scaled f p m ea eb =
    let x = (p.x *ℤ pos m.w) -ℤ (m.x *ℤ pos p.w) in
    let y = (p.y *ℤ pos m.w) -ℤ (m.y *ℤ pos p.w) in
    let e : value f p *ℤ pos m.w ≡ (value f m *ℤ pos p.w) +ℤ ((f.a *ℤ x) +ℤ (f.b *ℤ y)) = by_ring (of_form f (of_place p (of_place m []))) (search forms depth 60 fits 99999) refl in
    omega (arith, ints, none_times f.a x ea, none_times f.b y eb)

-- how far the line from c to d lies above that from a to b, from how far p is above the one and below the other
thickness : (a b c d : Corner) (p : Place) → value (gap (line d c) (line a b)) p ≡ ((c.x -ℤ d.x) *ℤ side a b p) +ℤ ((b.x -ℤ a.x) *ℤ side c d p)
unfolding gap value line side
thickness a b c d p = by_ring (of_corner a (of_corner b (of_corner c (of_corner d (of_place p []))))) (search forms depth 60 fits 99999) refl

gap_upright : (f g : Form) → (gap f g).b ≡ pos 0
unfolding gap
gap_upright f g = refl

-- the corners l and r, to the left and to the right of p, are on the inner sides of both lines, and a place m is so without being on them
module _ (a b c d l r : Corner) (m p : Place) (ab : a.x <ℤ b.x) (dc : d.x <ℤ c.x)
    (l_left : (l.x *ℤ pos p.w) <ℤ p.x) (r_right : p.x <ℤ (r.x *ℤ pos p.w)) (real : 0 < p.w) (m_real : 0 < m.w)
    (l_above : pos 0 ≤ℤ side a b (at l)) (l_below : pos 0 ≤ℤ side c d (at l)) (r_above : pos 0 ≤ℤ side a b (at r)) (r_below : pos 0 ≤ℤ side c d (at r))
    (m_above : pos 0 <ℤ side a b m) (m_below : pos 0 <ℤ side c d m) where
  thick>0 : pos 0 <ℤ value (gap (line d c) (line a b)) p
  thick>0 =
      let f = gap (line d c) (line a b) in
      let at_l : pos 0 ≤ℤ value f (at l) = rw thickness (search signs) in
      let at_r : pos 0 ≤ℤ value f (at r) = rw thickness (search signs) in
      let at_m : pos 0 <ℤ value f m = rw thickness (search signs) in
      spanned>0 l r f p l_left r_right at_l at_r (gap_upright (line d c) (line a b))
      (λ z. (same_sign (value f m) (value f p) m.w p.w m_real real (flat_scaled f p m z (gap_upright (line d c) (line a b)))).above at_m)

  above_line : side c d p ≤ℤ pos 0 → pos 0 <ℤ side a b p
  above_line h =
      factor>0 (c.x -ℤ d.x) (side a b p) (gap>0 d.x c.x dc)
      (omega (arith, ints, thick>0, thickness a b c d p, product≤0 (b.x -ℤ a.x) (side c d p) (search signs) h))

pub thick : Thick
unfolding edge Inside
thick g p l u sound real spans low up =
    let m = has_inside g sound in
    let i = spans.i in
    let j = spans.j in
    above_line (corner g l) (end g l) (corner g u) (end g u) (corner g i) (corner g j) m.spot p low.runs up.upper.runs spans.left spans.right real m.real
    (convex_side g sound l i low.within spans.i_within) (convex_side g sound u i up.upper.within spans.i_within)
    (convex_side g sound l j low.within spans.j_within) (convex_side g sound u j up.upper.within spans.j_within)
    (m.inside l low.within) (m.inside u up.upper.within)
