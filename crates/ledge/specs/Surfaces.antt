-- What can hold a place up: the bottom wall, and the upper sides of obstacles. Assumes nothing: these are definitions and statements, proved in proofs/.
use Rattle.std.specs.Prelude.{◌≡◌, ℕ, ◌*◌, ◌<◌, List, [], length, pos, ◌≤ℤ◌, slice_index_or}
use Rattle.algebra.specs.Hall.{Place, Shape, Sound, Hall, Within, Free, Straight, corner}
use Rattle.algebra.specs.Forms.{Form, value}
use Rattle.obstacle.specs.Section.{Spans}
use Rattle.obstacle.specs.Freedom.{Obstacles}
use Rattle.ledge.specs.Heights.{foot, gap, upright}
use Rattle.ledge.specs.Sides.{Upper, UpperOver, roof}

-- the bottom wall, or side i of obstacle k
pub data Surface : Type 0 where
  bottom : Surface
  top : ℕ → ℕ → Surface

abbrev pub obstacle : List Shape → ℕ → Shape
obstacle gs k = slice_index_or gs k []

-- above 0 above a surface, 0 on its line
abbrev pub above : List Shape → Surface → Form
above gs bottom = record { a = pos 0; b = pos 1; c = pos 0 }
above gs (top k i) = roof (obstacle gs k) i

-- there is such a surface: the side is an upper one
abbrev pub Stands : List Shape → Surface → Type 0
Stands gs bottom = Unit {0}
Stands gs (top k i) = (k < length gs) × Upper (obstacle gs k) i

-- it is over or under p: p's abscissa is among those of the surface, ends included
abbrev pub Reaches : Hall → List Shape → Surface → Place → Type 0
Reaches h gs bottom p = (pos 0 ≤ℤ p.x) × (p.x ≤ℤ pos (h.wide * p.w))
Reaches h gs (top k i) p = (k < length gs) × UpperOver (obstacle gs k) i p

-- the place p is on the surface
pub record On (h : Hall) (gs : List Shape) (s : Surface) (p : Place) : Type 0 where
  pub real : 0 < p.w
  pub reaches : Reaches h gs s p
  pub level : value (above gs s) p ≡ pos 0

-- the obstacle whose surface it is spans p's abscissa
abbrev pub Spanned : List Shape → Surface → Place → Type 0
Spanned gs bottom p = Unit {0}
Spanned gs (top k i) p = Spans (obstacle gs k) p

-- the surface can hold up what is above it at p's abscissa
pub record Holds (h : Hall) (gs : List Shape) (s : Surface) (p : Place) : Type 0 where
  pub reaches : Reaches h gs s p
  pub spans : Spanned gs s p
  pub not_above : pos 0 ≤ℤ value (above gs s) p

-- the floor of p: of the surfaces that hold p up, none is higher there
pub record Floor (h : Hall) (gs : List Shape) (p : Place) : Type 0 where
  pub surface : Surface
  pub holds : Holds h gs surface p
  pub highest : (s : Surface) → Holds h gs s p → pos 0 ≤ℤ value (above gs s) (foot (above gs surface) p)

-- where p comes down
abbrev pub landing : {h : Hall} {gs : List Shape} {p : Place} → Floor h gs p → Place
landing {h} {gs} {p} f = foot (above gs f.surface) p

abbrev pub AllSound : List Shape → Type 0
AllSound gs = (k : ℕ) → k < length gs → Sound (obstacle gs k)

-- every place of the hall has a floor
abbrev pub HasFloor : Type 0
HasFloor = (h : Hall) (gs : List Shape) (p : Place) → AllSound gs → 0 < p.w → Within h p → Floor h gs p

-- the floor is a place on its surface, and the fall to it is free
abbrev pub Falls : Type 0
Falls = (h : Hall) (gs : List Shape) (p : Place) → Obstacles h gs → Free h p → (f : Floor h gs p) → On h gs f.surface (landing f) × Straight h (landing f) p

-- ---- stretches on which nothing changes

-- a form that is not below 0 at m is not below 0 at p, nor above where it isn't at m
pub record Steady (f : Form) (m p : Place) : Type 0 where
  pub up : pos 0 ≤ℤ value f m → pos 0 ≤ℤ value f p
  pub down : value f m ≤ℤ pos 0 → value f p ≤ℤ pos 0

-- from m to p no corner is passed, and no surface passes another
pub record AllSteady (gs : List Shape) (m p : Place) : Type 0 where
  pub corners : (k : ℕ) → k < length gs → (j : ℕ) → j < length (obstacle gs k) → Steady (upright (corner (obstacle gs k) j)) m p
  pub gaps : (s t : Surface) → Stands gs s → Stands gs t → Steady (gap (above gs s) (above gs t)) m p

-- what steady free stretches carry on, both ways, every free stretch carries on
abbrev pub Cutting : Type 1
Cutting =
    (h : Hall) (gs : List Shape) (P : Place → Type 0) → ((m p : Place) → Straight h m p → AllSteady gs m p → (P m → P p) × (P p → P m)) →
    (p q : Place) → Straight h p q → P p → P q
