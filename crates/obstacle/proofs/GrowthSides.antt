-- The sides of a grown shape, parted into the thing's share and the load's: what grows is sound. Assumes nothing.
use Rattle.std.proofs.Common.{◌≡◌, ℕ, ◌<◌, [], length, ℤ, pos, ◌-ℤ◌, ◌*ℤ◌, neg_ℤ, ◌≤ℤ◌, ◌<ℤ◌, refl, ap, arith}
use borrow.Author.Differences.{ints}
use Rattle.algebra.specs.Hall.{Corner, Place, Shape, Sound, Covers, at, side, corner, next, edge, plus}
use Rattle.algebra.specs.Forms.{Form, value}
use Rattle.algebra.proofs.Polynomial.{forms, by_ring}
use Rattle.algebra.proofs.Forms.{of_corner, of_place}
use Rattle.obstacle.specs.Growth.{GrowsFrom, minus, turn}

-- the form of the line through c that goes along d: above 0 to the left of it
unfoldable pub through : Corner → Corner → Form
through d c = record { a = neg_ℤ d.y; b = d.x; c = (d.y *ℤ c.x) -ℤ (d.x *ℤ c.y) }

pub through_at : (d c z : Corner) → value (through d c) (at z) ≡ turn d (minus z c)
unfolding value through
through_at d c z = by_ring (of_corner d (of_corner c (of_corner z []))) (search forms depth 60 fits 99999) refl

-- a side that begins at v less u, at a place p: the value at p moved by r, of the line through v, less the value at r, of that through u
pub parted : (a b v u : Corner) (p r : Place) → a ≡ minus v u →
    pos r.w *ℤ side a b p ≡ value (through (minus b a) v) (plus p r) -ℤ (pos p.w *ℤ value (through (minus b a) u) r)
unfolding side value through plus
parted a b v u p r e = rw e (by_ring (of_corner b (of_corner v (of_corner u (of_place p (of_place r []))))) (search forms depth 60 fits 99999) refl)

-- and at a difference of two corners
parted_at : (a b v u c w z : Corner) → a ≡ minus v u → c ≡ minus w z → side a b (at c) ≡ turn (minus b a) (minus w v) -ℤ turn (minus b a) (minus z u)
unfolding side
parted_at a b v u c w z e f = rw (e, f) (by_ring (of_corner b (of_corner v (of_corner u (of_corner w (of_corner z []))))) (search forms depth 60 fits 99999) refl)

-- a side with a place to the left of it has a length
pub has_length : (a b c : Corner) (p : Place) → pos 0 <ℤ side a b p → ((through (minus b a) c).a ≡ pos 0) × ((through (minus b a) c).b ≡ pos 0) → ⊥
unfolding side through
has_length a b c p h e =
    let x : (b.x -ℤ a.x) *ℤ (p.y -ℤ (a.y *ℤ pos p.w)) ≡ pos 0 *ℤ (p.y -ℤ (a.y *ℤ pos p.w)) = ap (λ (d : ℤ). d *ℤ (p.y -ℤ (a.y *ℤ pos p.w))) e.1 in
    let f : b.y -ℤ a.y ≡ pos 0 = omega (arith, ints, e.0) in
    let y : (b.y -ℤ a.y) *ℤ (p.x -ℤ (a.x *ℤ pos p.w)) ≡ pos 0 *ℤ (p.x -ℤ (a.x *ℤ pos p.w)) = ap (λ (d : ℤ). d *ℤ (p.x -ℤ (a.x *ℤ pos p.w))) f in
    omega (arith, ints)

module _ {load thing g : Shape} (s : GrowsFrom load thing g) where
  left : (i j : ℕ) → i < length g → j < length g → pos 0 ≤ℤ edge g j (at (corner g i))
  unfolding edge
  left i j m n =
      let t : ℕ → Corner = λ k. corner thing (s.v k) in
      let l : ℕ → Corner = λ k. corner load (s.u k) in
      let e = parted_at (corner g j) (corner g (next (length g) j)) (t j) (l j) (corner g i) (t i) (l i) (s.corners j n) (s.corners i m) in
      omega (arith, ints, s.thing_side j n (s.v i) (s.v_within i m), s.load_side j n (s.u i) (s.u_within i m))

  pub grown_sound : Sound g
  unfolding Covers
  grown_sound = record { many = s.many; bends = s.bends; convex = λ i m j n. left i j m n; once = s.once }
