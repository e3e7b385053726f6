-- A place, put together from the corners of a triangle, seen by a form: the form's value is put together from those at the corners. Assumes nothing.
use Rattle.std.proofs.Common.{◌≡◌, [], pos, ◌+ℤ◌, ◌-ℤ◌, ◌*ℤ◌, neg_ℤ, refl}
use Rattle.algebra.specs.Hall.{Corner, Place, at, side}
use Rattle.algebra.specs.Forms.{Form, value, line}
use Rattle.algebra.proofs.Polynomial.{forms, by_ring}
use Rattle.algebra.proofs.Forms.{of_corner, of_place, of_form, side_is_form}

pub mixed : (a b c : Corner) (f : Form) (p : Place) → side a b (at c) *ℤ value f p ≡ ((side b c p *ℤ value f (at a)) +ℤ (side c a p *ℤ value f (at b))) +ℤ (side a b p *ℤ value f (at c))
unfolding side value
mixed a b c f p = by_ring (of_corner a (of_corner b (of_corner c (of_form f (of_place p []))))) (search forms depth 60 fits 99999) refl

pub mixed_side : (a b c u v : Corner) (p : Place) →
    side a b (at c) *ℤ side u v p ≡ ((side b c p *ℤ side u v (at a)) +ℤ (side c a p *ℤ side u v (at b))) +ℤ (side a b p *ℤ side u v (at c))
mixed_side a b c u v p = rw (side_is_form u v p, side_is_form u v (at a), side_is_form u v (at b), side_is_form u v (at c)) (mixed a b c (line u v) p)

-- ---- a side at its own ends, in turn, and the other way
pub side_start : (a b : Corner) → side a b (at a) ≡ pos 0
unfolding side
side_start a b = by_ring (of_corner a (of_corner b [])) (search forms depth 60 fits 99999) refl

pub side_end : (a b : Corner) → side a b (at b) ≡ pos 0
unfolding side
side_end a b = by_ring (of_corner a (of_corner b [])) (search forms depth 60 fits 99999) refl

pub side_point : (a : Corner) (p : Place) → side a a p ≡ pos 0
unfolding side
side_point a p = by_ring (of_corner a (of_place p [])) (search forms depth 60 fits 99999) refl

pub side_turn : (a b c : Corner) → side a b (at c) ≡ side b c (at a)
unfolding side
side_turn a b c = by_ring (of_corner a (of_corner b (of_corner c []))) (search forms depth 60 fits 99999) refl

pub side_back : (a b : Corner) (p : Place) → side a b p ≡ neg_ℤ (side b a p)
unfolding side
side_back a b p = by_ring (of_corner a (of_corner b (of_place p []))) (search forms depth 60 fits 99999) refl

-- what two bends have to do with each other: four sides, at both ends of a third
pub two_bends : (a b c g q f : Corner) →
    side g q (at f) *ℤ side a b (at c)
    ≡ ((side g q (at b) -ℤ side g q (at a)) *ℤ (side q f (at c) -ℤ side q f (at b))) +ℤ ((side q f (at a) -ℤ side q f (at b)) *ℤ (side g q (at c) -ℤ side g q (at b)))
unfolding side
two_bends a b c g q f = by_ring (of_corner a (of_corner b (of_corner c (of_corner g (of_corner q (of_corner f [])))))) (search forms depth 60 fits 99999) refl
