-- Lower and upper sides of a sound shape over an abscissa that it spans: there are some, and what is between them is inside. Assumes nothing.
use Rattle.std.proofs.Common.{◌≡◌, length, pos, ◌-ℤ◌, ◌*ℤ◌, ◌≤ℤ◌, ◌<ℤ◌, arith}
use borrow.Author.Differences.{ints}
use Rattle.algebra.specs.Hall.{Corner, Place, at, side, corner, next, edge}
use Rattle.algebra.specs.Forms.{Form, value}
use Rattle.algebra.proofs.Order.{pos≥0, product>0, untimes-<}
use Rattle.obstacle.proofs.Cycle.{next_below}
use Rattle.obstacle.proofs.Mixed.{side_back}
use Rattle.obstacle.proofs.Signs.{by_sign, both_below}
use Rattle.obstacle.proofs.Open.{side_form, values_inside}
use Rattle.obstacle.proofs.Section.{grows>0, upright>0, not_flat, at_corner, cross_section}
use Rattle.ledge.specs.Sides.{HasSides, BetweenSides, end}

pub has_sides : HasSides
has_sides g p sound real spans =
    let s = cross_section g p sound real spans in
    let l = s.lower in
    let u = s.upper in
    let low = s.below in
    let up = s.above in
    record {
      lower = l;
      upper = u;
      below =
          record {
            within = low.within;
            runs = untimes-< (corner g l).x (end g l).x (pos p.w) (pos≥0 p.w) (omega (arith, ints, low.from, low.to));
            from = low.from;
            to = omega (arith, ints, low.to);
          };
      above =
          record {
            upper =
                record {
                  within = up.within;
                  runs = untimes-< (end g u).x (corner g u).x (pos p.w) (pos≥0 p.w) (omega (arith, ints, up.from, up.to));
                };
            from = omega (arith, ints, up.to);
            to = up.from;
          };
    }

-- an upright form, not below 0 at a corner to the left of p and at one to the right, is above 0 at p; where it is the same everywhere, that is left to show
module _ (l r : Corner) (f : Form) (p : Place) (l_left : (l.x *ℤ pos p.w) <ℤ p.x) (r_right : p.x <ℤ (r.x *ℤ pos p.w))
    (at_l : pos 0 ≤ℤ value f (at l)) (at_r : pos 0 ≤ℤ value f (at r)) where
  pub spanned>0 : f.b ≡ pos 0 → (f.a ≡ pos 0 → pos 0 <ℤ value f p) → pos 0 <ℤ value f p
  spanned>0 e flat =
      by_sign f.a
      (λ h. upright>0 r f p e at_r (both_below f.a (p.x -ℤ (r.x *ℤ pos p.w)) h (omega (arith, ints))))
      flat
      (λ h. upright>0 l f p e at_l (product>0 f.a (p.x -ℤ (l.x *ℤ pos p.w)) h (omega (arith, ints))))

  -- p is above the line from a to b and below that from c to d, with its abscissa between them: a form that is not below 0 there is above 0 at p
  module _ (a b c d : Corner) (ab : a.x <ℤ b.x) (dc : d.x <ℤ c.x)
      (a_left : (a.x *ℤ pos p.w) ≤ℤ p.x) (b_right : p.x ≤ℤ (b.x *ℤ pos p.w)) (c_right : p.x ≤ℤ (c.x *ℤ pos p.w)) (d_left : (d.x *ℤ pos p.w) ≤ℤ p.x)
      (at_a : pos 0 ≤ℤ value f (at a)) (at_b : pos 0 ≤ℤ value f (at b)) (at_c : pos 0 ≤ℤ value f (at c)) (at_d : pos 0 ≤ℤ value f (at d))
      (above : pos 0 <ℤ side a b p) (below : pos 0 <ℤ side c d p) where
    between>0 : (f.a ≡ pos 0 → f.b ≡ pos 0 → ⊥) → pos 0 <ℤ value f p
    between>0 n =
        by_sign f.b
        (λ h. grows>0 d c f p d_left c_right dc at_d at_c (both_below f.b (side d c p) h (omega (arith, ints, side_back d c p))))
        (λ e. spanned>0 e (λ z. absurd (n z e)))
        (λ h. grows>0 a b f p a_left b_right ab at_a at_b (product>0 f.b (side a b p) h above))

pub between_sides : BetweenSides
unfolding edge
between_sides g p l u sound real spans low up above below =
    let ln = next_below (length g) l low.within in
    let un = next_below (length g) u up.upper.within in
    values_inside g p (λ i h. between>0 (corner g spans.i) (corner g spans.j) (side_form g i) p spans.left spans.right
    (at_corner g sound i spans.i h spans.i_within) (at_corner g sound i spans.j h spans.j_within)
    (corner g l) (end g l) (corner g u) (end g u) low.runs up.upper.runs low.from low.to up.to up.from
    (at_corner g sound i l h low.within) (at_corner g sound i (next (length g) l) h ln) (at_corner g sound i u h up.upper.within) (at_corner g sound i (next (length g) u) h un)
    above below (not_flat g sound i h))
