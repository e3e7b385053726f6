-- Upper sides of a sound shape over one abscissa have one height there. Assumes nothing.
use Rattle.std.proofs.Common.{ℕ, ◌<◌, length, ℤ, pos, ◌-ℤ◌, ◌*ℤ◌, ◌≤ℤ◌, ap, arith}
use borrow.Author.Differences.{ints}
use Rattle.algebra.specs.Hall.{Corner, Place, Shape, Sound, at, corner, next}
use Rattle.algebra.specs.Forms.{Form, value, line}
use Rattle.algebra.proofs.Order.{product≤0, gap≥0}
use Rattle.algebra.proofs.Forms.{side_is_form}
use Rattle.obstacle.proofs.Cycle.{next_below}
use Rattle.obstacle.proofs.Open.{edge_value}
use Rattle.obstacle.proofs.Section.{over_line, at_corner}
use Rattle.ledge.specs.Heights.{Feet}
use Rattle.ledge.specs.Sides.{Upper, UpperOver, OneHeight, end, roof}
use Rattle.ledge.proofs.Standing.{roof_rises, roof_edge}

-- a form that is not above 0 at two corners, over an abscissa between theirs: it is not above 0 on their line
not_over : (a b : Corner) (f : Form) (p : Place) → (a.x *ℤ pos p.w) ≤ℤ p.x → p.x ≤ℤ (b.x *ℤ pos p.w) →
    value f (at a) ≤ℤ pos 0 → value f (at b) ≤ℤ pos 0 → (((line a b).b *ℤ value f p) -ℤ (f.b *ℤ value (line a b) p)) ≤ℤ pos 0
unfolding line
not_over a b f p left right at_a at_b =
    omega (
      arith,
      ints,
      over_line a b f p,
      ap (λ (v : ℤ). f.b *ℤ v) (side_is_form a b p),
      product≤0 ((b.x *ℤ pos p.w) -ℤ p.x) (value f (at a)) (gap≥0 p.x (b.x *ℤ pos p.w) right) at_a,
      product≤0 (p.x -ℤ (a.x *ℤ pos p.w)) (value f (at b)) (gap≥0 (a.x *ℤ pos p.w) p.x left) at_b,
    )

-- so no upper side over p's abscissa is higher than another there
module _ (g : Shape) (p : Place) (sound : Sound g) where
  roof_corner : (i j : ℕ) → i < length g → j < length g → value (roof g i) (at (corner g j)) ≤ℤ pos 0
  roof_corner i j hi hj = omega (arith, ints, roof_edge g i (at (corner g j)), edge_value g i (at (corner g j)), at_corner g sound i j hi hj)

  not_higher : (u v : ℕ) → UpperOver g u p → Upper g v → (((roof g u).b *ℤ value (roof g v) p) -ℤ ((roof g v).b *ℤ value (roof g u) p)) ≤ℤ pos 0
  not_higher u v over up =
      let h = over.upper.within in
      not_over (end g u) (corner g u) (roof g v) p over.from over.to (roof_corner v (next (length g) u) up.within (next_below (length g) u h)) (roof_corner v u up.within h)

pub one_height : Feet → OneHeight
one_height feet g p u v sound real over_u over_v =
    omega (
      arith,
      ints,
      feet.values (roof g u) (roof g v) p (roof_rises g u over_u.upper),
      not_higher g p sound u v over_u over_v.upper,
      not_higher g p sound v u over_v over_u.upper,
    )
