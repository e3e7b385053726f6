-- The theory of sound shapes: what the definitions of inside, covered and sound come to. Assumes nothing: these are definitions and statements, the
-- latter proved in proofs/ and named by the contracts of src/convex.rt.
use Rattle.std.specs.Prelude.{◌≡◌, ℕ, ◌+◌, ◌<◌, length, pos, ◌≤ℤ◌, ◌<ℤ◌, ◌≢◌}
use Rattle.algebra.specs.Hall.{Place, Shape, Sound, Inside, Covers, at, side, corner, next, edge, between}
use Rattle.algebra.specs.Forms.{Form, Same, value}

-- a corner that is no end of a side lies to the left of it; so each corner of a sound shape comes once
abbrev pub Strictly : Type 0
Strictly = (s : Shape) → Sound s → (i j : ℕ) → i < length s → j < length s → (j ≢ i) → (j ≢ next (length s) i) → pos 0 <ℤ edge s i (at (corner s j))

abbrev pub EachOnce : Type 0
EachOnce = (s : Shape) → Sound s → (i j : ℕ) → i < length s → j < length s → corner s i ≡ corner s j → i ≡ j

-- p is in the triangle of corners 0, k and k + 1, whose area is above 0
pub record InFan (s : Shape) (p : Place) : Type 0 where
  pub k : ℕ
  pub first : 0 < k
  pub last : k + 1 < length s
  pub area : pos 0 <ℤ side (corner s 0) (corner s k) (at (corner s (k + 1)))
  pub out : pos 0 ≤ℤ side (corner s 0) (corner s k) p
  pub far : pos 0 ≤ℤ side (corner s k) (corner s (k + 1)) p
  pub back : pos 0 ≤ℤ side (corner s (k + 1)) (corner s 0) p

-- the triangles from corner 0 cover all that the shape covers
abbrev pub Fan : Type 0
Fan = (s : Shape) (p : Place) → Sound s → 0 < p.w → Covers s p → InFan s p

-- so a form that is not below 0 at any corner is not below 0 at any covered place, and above 0 at any inside place unless it is the same everywhere
abbrev pub Supports : Type 0
Supports = (s : Shape) (f : Form) (p : Place) → Sound s → 0 < p.w → ((i : ℕ) → i < length s → pos 0 ≤ℤ value f (at (corner s i))) → Covers s p → pos 0 ≤ℤ value f p

abbrev pub SupportsStrictly : Type 0
SupportsStrictly =
    (s : Shape) (f : Form) (p : Place) → Sound s → 0 < p.w → ((f.a ≡ pos 0) × (f.b ≡ pos 0) → ⊥) → ((i : ℕ) → i < length s → pos 0 ≤ℤ value f (at (corner s i))) → Inside s p → pos 0 <ℤ value f p

-- an inside place can be moved a little towards any other and stays inside
pub record Opens (s : Shape) (p q : Place) : Type 0 where
  pub u : ℕ
  pub some : 0 < u
  pub stays : Inside s (between p q 1 u)

abbrev pub Open : Type 0
Open = (s : Shape) (p q : Place) → 0 < p.w → 0 < q.w → Inside s p → Opens s p q

-- and a little away from it
pub record Beyond (s : Shape) (p q : Place) : Type 0 where
  pub spot : Place
  pub real : 0 < spot.w
  pub inside : Inside s spot
  pub t : ℕ
  pub u : ℕ
  pub near : 0 < t
  pub far : 0 < u
  pub same : Same (between spot q t u) p

abbrev pub Away : Type 0
Away = (s : Shape) (p q : Place) → 0 < p.w → 0 < q.w → Inside s p → Beyond s p q

-- if all places of a stretch short of its end are not inside, neither is its end
abbrev pub Closed : Type 0
Closed = (s : Shape) (p q : Place) → 0 < p.w → 0 < q.w → ((t u : ℕ) → 0 < t → 0 < u → Inside s (between p q t u) → ⊥) → Inside s q → ⊥

-- every sound shape has an inside place
pub record Middle (s : Shape) : Type 0 where
  pub spot : Place
  pub real : 0 < spot.w
  pub inside : Inside s spot

abbrev pub HasInside : Type 0
HasInside = (s : Shape) → Sound s → Middle s

-- inside is covered
abbrev pub InsideCovers : Type 0
InsideCovers = (s : Shape) (p : Place) → Inside s p → Covers s p
