-- How the corners of a grown shape are found: both shapes are walked round from their extreme corners, and their sides are merged by direction.
-- Assumes nothing: these are definitions and a statement, proved in proofs/.
use Rattle.std.specs.Prelude.{◌≡◌, ℕ, zero, suc, ◌+◌, ◌<◌, ◌≤◌, ◌⊎◌, length, pos, ◌<ℤ◌}
use Rattle.algebra.specs.Hall.{Corner, Shape, Sound, corner, next}
use Rattle.obstacle.specs.Growth.{minus, turn, GrowsFrom}

-- ---- directions, in the order in which one turns left from the one to the right

-- a vector that points up, or level to the right; and one that points down, or level to the left
abbrev pub Up : Corner → Type 0
Up d = (pos 0 <ℤ d.y) ⊎ ((d.y ≡ pos 0) × (pos 0 <ℤ d.x))

abbrev pub Down : Corner → Type 0
Down d = (d.y <ℤ pos 0) ⊎ ((d.y ≡ pos 0) × (d.x <ℤ pos 0))

abbrev pub SameHalf : Corner → Corner → Type 0
SameHalf d e = (Up d × Up e) ⊎ (Down d × Down e)

abbrev pub Before : Corner → Corner → Type 0
Before d e = (Up d × Down e) ⊎ (SameHalf d e × (pos 0 <ℤ turn d e))

abbrev pub Alike : Corner → Corner → Type 0
Alike d e = SameHalf d e × (turn d e ≡ pos 0)

-- ---- the walk

-- corner a is the lowest, and of those the leftmost; or the highest, and of those the rightmost
pub record Lowest (s : Shape) (a : ℕ) : Type 0 where
  pub within : a < length s
  pub least : (i : ℕ) → i < length s → (corner s i ≡ corner s a) ⊎ Up (minus (corner s i) (corner s a))

pub record Highest (s : Shape) (a : ℕ) : Type 0 where
  pub within : a < length s
  pub most : (i : ℕ) → i < length s → (corner s i ≡ corner s a) ⊎ Down (minus (corner s i) (corner s a))

-- the corner i sides on from corner a, among n
abbrev pub onward : ℕ → ℕ → ℕ → ℕ
onward n a zero = a
onward n a (suc i) = next n (onward n a i)

module _ (load thing : Shape) (a b : ℕ) where
  -- the corners reached after i sides of the thing and j of the load
  abbrev pub thing_corner : ℕ → Corner
  thing_corner i = corner thing (onward (length thing) a i)

  abbrev pub load_corner : ℕ → Corner
  load_corner j = corner load (onward (length load) b j)

  -- the thing's side there, and the load's turned round
  abbrev pub thing_way : ℕ → Corner
  thing_way i = minus (thing_corner (suc i)) (thing_corner i)

  abbrev pub load_way : ℕ → Corner
  load_way j = minus (load_corner j) (load_corner (suc j))

  -- one step takes the side that comes first, or both where they are alike
  pub data Step : ℕ → ℕ → ℕ → ℕ → Type 0 where
    of_thing : {i j : ℕ} → i < length thing → (j ≡ length load) ⊎ Before (thing_way i) (load_way j) → Step i j (suc i) j
    of_load : {i j : ℕ} → j < length load → (i ≡ length thing) ⊎ Before (load_way j) (thing_way i) → Step i j i (suc j)
    of_both : {i j : ℕ} → i < length thing → j < length load → Alike (thing_way i) (load_way j) → Step i j (suc i) (suc j)

  -- n steps, after k of which i k sides of the thing and j k of the load have been taken: at the end all of both
  pub record Merged (n : ℕ) (i j : ℕ → ℕ) : Type 0 where
    pub start : (i 0 ≡ 0) × (j 0 ≡ 0)
    pub finish : (i n ≡ length thing) × (j n ≡ length load)
    pub steps : (k : ℕ) → k < n → Step (i k) (j k) (i (suc k)) (j (suc k))

-- THE LAW OF MERGING: the corners met on the way make a shape that grows out of both
abbrev pub Merging : Type 0
Merging =
    (load thing g : Shape) (a b : ℕ) (i j : ℕ → ℕ) → Sound load → Sound thing → Lowest thing a → Highest load b → Merged load thing a b (length g) i j →
    ((k : ℕ) → k < length g → corner g k ≡ minus (thing_corner load thing a b (i k)) (load_corner load thing a b (j k))) →
    GrowsFrom load thing g × (length g ≤ length load + length thing)
