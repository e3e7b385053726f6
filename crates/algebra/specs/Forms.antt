-- Linear forms of the plane and what is said of them at places. Assumes nothing: these are definitions.
use Rattle.std.specs.Prelude.{◌≡◌, ℕ, ◌+◌, ◌<◌, ◌⊎◌, ℤ, pos, ◌+ℤ◌, ◌-ℤ◌, ◌*ℤ◌, neg_ℤ, ◌≤ℤ◌, ◌<ℤ◌, ◌≢◌}
use Rattle.algebra.specs.Hall.{Corner, Place, between}

-- a x + b y + c
pub record Form : Type 0 where
  pub a : ℤ
  pub b : ℤ
  pub c : ℤ

-- the form's value at a place, times the place's w: it has the same sign, and it is whole
unfoldable pub value : Form → Place → ℤ
value f p = ((f.a *ℤ p.x) +ℤ (f.b *ℤ p.y)) +ℤ (f.c *ℤ pos p.w)

unfoldable pub negated : Form → Form
negated f = record { a = neg_ℤ f.a; b = neg_ℤ f.b; c = neg_ℤ f.c }

-- above 0 where the vector v points to the left of u, 0 where they are parallel
abbrev pub cross : ℤ → ℤ → ℤ → ℤ → ℤ
cross ux uy vx vy = (ux *ℤ vy) -ℤ (uy *ℤ vx)

-- the form of the line from a to b: above 0 to the left of it
unfoldable pub line : Corner → Corner → Form
line a b = record { a = a.y -ℤ b.y; b = b.x -ℤ a.x; c = cross a.x a.y b.x b.y }

-- the same place, as 2/2 is 1/1
pub record Same (p q : Place) : Type 0 where
  pub x : p.x *ℤ pos q.w ≡ q.x *ℤ pos p.w
  pub y : p.y *ℤ pos q.w ≡ q.y *ℤ pos p.w

-- b has the sign that a has
pub record SameSign (a b : ℤ) : Type 0 where
  pub above : pos 0 <ℤ a → pos 0 <ℤ b
  pub not_below : pos 0 ≤ℤ a → pos 0 ≤ℤ b
  pub level : a ≡ pos 0 → b ≡ pos 0
  pub not_above : a ≤ℤ pos 0 → b ≤ℤ pos 0
  pub below : a <ℤ pos 0 → b <ℤ pos 0

-- what the values v and w of a form at the ends of a stretch say of its value m at t parts of t + u, and back
pub record Along (v w m : ℤ) (t u : ℕ) : Type 0 where
  pub stays≥0 : pos 0 ≤ℤ v → pos 0 ≤ℤ w → pos 0 ≤ℤ m
  pub starts>0 : pos 0 <ℤ v → pos 0 ≤ℤ w → 0 < u → pos 0 <ℤ m
  pub ends>0 : pos 0 ≤ℤ v → pos 0 <ℤ w → 0 < t → pos 0 <ℤ m
  pub stays≡0 : v ≡ pos 0 → w ≡ pos 0 → m ≡ pos 0
  pub stays≤0 : v ≤ℤ pos 0 → w ≤ℤ pos 0 → m ≤ℤ pos 0
  pub starts<0 : v <ℤ pos 0 → w ≤ℤ pos 0 → 0 < u → m <ℤ pos 0
  pub ends<0 : v ≤ℤ pos 0 → w <ℤ pos 0 → 0 < t → m <ℤ pos 0
  pub comes>0 : pos 0 <ℤ m → (pos 0 <ℤ v) ⊎ (pos 0 <ℤ w)
  pub comes<0 : m <ℤ pos 0 → (v <ℤ pos 0) ⊎ (w <ℤ pos 0)

-- a place of the stretch from p to q where the form is 0; it is not p unless the form is 0 there, nor q
pub record Crosses (f : Form) (p q : Place) : Type 0 where
  pub t : ℕ
  pub u : ℕ
  pub some : 0 < t + u
  pub zero : value f (between p q t u) ≡ pos 0
  pub leaves : (value f p ≢ pos 0) → 0 < t
  pub arrives : (value f q ≢ pos 0) → 0 < u

-- the weights of a place p in the triangle a b c are the sides that it lies on; with them it is put together from the corners
pub record Weights (side_bc side_ca side_ab area : ℤ) (a b c : Corner) (p : Place) : Type 0 where
  pub sum : (side_bc +ℤ side_ca) +ℤ side_ab ≡ pos p.w *ℤ area
  pub x : area *ℤ p.x ≡ ((side_bc *ℤ a.x) +ℤ (side_ca *ℤ b.x)) +ℤ (side_ab *ℤ c.x)
  pub y : area *ℤ p.y ≡ ((side_bc *ℤ a.y) +ℤ (side_ca *ℤ b.y)) +ℤ (side_ab *ℤ c.y)
