-- Heights over an abscissa, by linear forms. A form that rises is above 0 above its line. Assumes nothing: these are definitions and statements, proved in proofs/.
use Rattle.std.specs.Prelude.{◌≡◌, ℕ, ◌*◌, ◌<◌, pos, ◌+ℤ◌, ◌-ℤ◌, ◌*ℤ◌, neg_ℤ, ◌≤ℤ◌, ◌<ℤ◌, unsigned_abs}
use Rattle.algebra.specs.Hall.{Corner, Place, between}
use Rattle.algebra.specs.Forms.{Form, value, Same}

-- its value grows with the ordinate
abbrev pub Rises : Form → Type 0
Rises f = pos 0 <ℤ f.b

-- the place over the abscissa of p where a form that rises is 0
unfoldable pub foot : Form → Place → Place
foot f p = record { x = f.b *ℤ p.x; y = neg_ℤ ((f.a *ℤ p.x) +ℤ (f.c *ℤ pos p.w)); w = unsigned_abs f.b * p.w }

-- how far the line of g lies below that of f, whatever the ordinate: it is the value of g at the foot of f
unfoldable pub gap : Form → Form → Form
gap f g = record { a = (f.b *ℤ g.a) -ℤ (g.b *ℤ f.a); b = pos 0; c = (f.b *ℤ g.c) -ℤ (g.b *ℤ f.c) }

-- the upright line through a corner: above 0 to the right of it
unfoldable pub upright : Corner → Form
upright c = record { a = pos 1; b = pos 0; c = neg_ℤ c.x }

-- the same abscissa
abbrev pub Abreast : Place → Place → Type 0
Abreast p q = p.x *ℤ pos q.w ≡ q.x *ℤ pos p.w

pub record Feet : Type 0 where
  pub real : (f : Form) (p : Place) → Rises f → 0 < p.w → 0 < (foot f p).w
  pub level : (f : Form) (p : Place) → Rises f → value f (foot f p) ≡ pos 0
  pub abreast : (f : Form) (p : Place) → Rises f → Abreast (foot f p) p
  pub values : (f g : Form) (p : Place) → Rises f → value g (foot f p) ≡ (f.b *ℤ value g p) -ℤ (g.b *ℤ value f p)
  pub spread : (f : Form) (p q : Place) (t u : ℕ) → Rises f → Same (between (foot f p) (foot f q) t u) (foot f (between p q t u))
  pub same : (f : Form) (p q : Place) → Rises f → Same p q → Same (foot f p) (foot f q)
  -- a place on the line is its own foot
  pub own : (f : Form) (p : Place) → Rises f → value f p ≡ pos 0 → Same (foot f p) p

-- the lines of two forms over one abscissa
pub record Gaps : Type 0 where
  pub values : (f g : Form) (p : Place) → Rises f → value (gap f g) p ≡ value g (foot f p)
  pub back : (f g : Form) (p : Place) → Rises f → Rises g → value g (foot f p) ≡ neg_ℤ (value f (foot g p))
  pub on : (f g h : Form) (p : Place) → Rises f → Rises g → Rises h → 0 < p.w →
      pos 0 ≤ℤ value g (foot f p) → pos 0 ≤ℤ value h (foot g p) → pos 0 ≤ℤ value h (foot f p)
  -- where neither is above the other, the feet are one place; p and q have one abscissa
  pub meet : (f g : Form) (p q : Place) → Rises f → Rises g → 0 < p.w → 0 < q.w → Abreast p q →
      pos 0 ≤ℤ value g (foot f p) → pos 0 ≤ℤ value f (foot g q) → Same (foot f p) (foot g q)

pub record Uprights : Type 0 where
  pub values : (c : Corner) (p : Place) → value (upright c) p ≡ p.x -ℤ (c.x *ℤ pos p.w)
