-- Where the load meets a thing is the inside of one shape: the thing, grown by the load. Assumes nothing: these are definitions and a statement,
-- proved in proofs/.
use Rattle.std.specs.Prelude.{◌≡◌, ℕ, ◌<◌, ◌≤◌, length, ℤ, pos, ◌-ℤ◌, ◌≤ℤ◌, ◌<ℤ◌, ◌≢◌}
use Rattle.algebra.specs.Hall.{Corner, Place, Shape, Sound, Inside, Meets, at, corner, next, edge}
use Rattle.algebra.specs.Forms.{cross}

-- the difference of two corners, as a vector
abbrev pub minus : Corner → Corner → Corner
minus a b = record { x = a.x -ℤ b.x; y = a.y -ℤ b.y }

-- above 0 where the vector e points to the left of d
abbrev pub turn : Corner → Corner → ℤ
turn d e = cross d.x d.y e.x e.y

-- a shape's side number k, as a vector
abbrev pub way : Shape → ℕ → Corner
way s k = minus (corner s (next (length s) k)) (corner s k)

-- g grows out of pairs: its corner k is a corner of the thing less a corner of the load. Along the side that begins there no corner of the thing
-- lies to the right of the pair's, and none of the load to the left.
pub record GrowsFrom (load thing g : Shape) : Type 0 where
  pub many : 3 ≤ length g
  pub v : ℕ → ℕ
  pub u : ℕ → ℕ
  pub v_within : (k : ℕ) → k < length g → v k < length thing
  pub u_within : (k : ℕ) → k < length g → u k < length load
  pub corners : (k : ℕ) → k < length g → corner g k ≡ minus (corner thing (v k)) (corner load (u k))
  pub thing_side : (k : ℕ) → k < length g → (i : ℕ) → i < length thing → pos 0 ≤ℤ turn (way g k) (minus (corner thing i) (corner thing (v k)))
  pub load_side : (k : ℕ) → k < length g → (i : ℕ) → i < length load → turn (way g k) (minus (corner load i) (corner load (u k))) ≤ℤ pos 0
  pub bends : (k : ℕ) → k < length g → pos 0 <ℤ edge g k (at (corner g (next (length g) (next (length g) k))))
  pub once : (k : ℕ) → 0 < k → k < length g → corner g k ≢ corner g 0

-- the load at p meets the thing exactly if p is inside g
pub record Grown (load thing g : Shape) : Type 0 where
  pub inside_meets : (p : Place) → 0 < p.w → Inside g p → Meets load thing p
  pub meets_inside : (p : Place) → 0 < p.w → Meets load thing p → Inside g p

-- what grows out of pairs of two sound shapes is sound, and it is where they meet
abbrev pub Growth : Type 0
Growth = (load thing g : Shape) → Sound load → Sound thing → GrowsFrom load thing g → Sound g × Grown load thing g
