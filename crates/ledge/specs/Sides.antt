-- Lower and upper sides of a sound shape over an abscissa that it spans. Assumes nothing: these are definitions and statements, proved in proofs/.
use Rattle.std.specs.Prelude.{◌≡◌, ℕ, ◌<◌, length, pos, ◌*ℤ◌, ◌≤ℤ◌, ◌<ℤ◌}
use Rattle.algebra.specs.Hall.{Corner, Place, Shape, Sound, Inside, corner, next, edge}
use Rattle.algebra.specs.Forms.{Form, value, line}
use Rattle.obstacle.specs.Section.{Spans}
use Rattle.motion.specs.Stretch.{Passes}
use Rattle.ledge.specs.Heights.{foot}

-- where a side ends
abbrev pub end : Shape → ℕ → Corner
end g i = corner g (next (length g) i)

-- a lower side runs to the right and has the inside above it; p's abscissa lies over it, ends included
pub record LowerOver (g : Shape) (i : ℕ) (p : Place) : Type 0 where
  pub within : i < length g
  pub runs : (corner g i).x <ℤ (end g i).x
  pub from : ((corner g i).x *ℤ pos p.w) ≤ℤ p.x
  pub to : p.x ≤ℤ ((end g i).x *ℤ pos p.w)

-- an upper side runs to the left and has the inside below it
pub record Upper (g : Shape) (i : ℕ) : Type 0 where
  pub within : i < length g
  pub runs : (end g i).x <ℤ (corner g i).x

pub record UpperOver (g : Shape) (i : ℕ) (p : Place) : Type 0 where
  pub upper : Upper g i
  pub from : ((end g i).x *ℤ pos p.w) ≤ℤ p.x
  pub to : p.x ≤ℤ ((corner g i).x *ℤ pos p.w)

-- above 0 above an upper side, where the side itself has its right
abbrev pub roof : Shape → ℕ → Form
roof g i = line (end g i) (corner g i)

-- a side of each kind is over each spanned abscissa
pub record Sectioned (g : Shape) (p : Place) : Type 0 where
  pub lower : ℕ
  pub upper : ℕ
  pub below : LowerOver g lower p
  pub above : UpperOver g upper p

abbrev pub HasSides : Type 0
HasSides = (g : Shape) (p : Place) → Sound g → 0 < p.w → Spans g p → Sectioned g p

-- what is above a lower and below an upper side is inside
abbrev pub BetweenSides : Type 0
BetweenSides =
    (g : Shape) (p : Place) (l u : ℕ) → Sound g → 0 < p.w → Spans g p → LowerOver g l p → UpperOver g u p →
    pos 0 <ℤ edge g l p → pos 0 <ℤ edge g u p → Inside g p

-- the upper side lies above the lower one: what is not below the upper is above the lower
abbrev pub Thick : Type 0
Thick =
    (g : Shape) (p : Place) (l u : ℕ) → Sound g → 0 < p.w → Spans g p → LowerOver g l p → UpperOver g u p →
    edge g u p ≤ℤ pos 0 → pos 0 <ℤ edge g l p

-- a stretch that passes a shape doesn't change from above it to below it, while it is over a lower and an upper side
abbrev pub KeepsSide : Type 0
KeepsSide =
    (g : Shape) (p q : Place) (l u : ℕ) → Sound g → 0 < p.w → 0 < q.w → Spans g p → Spans g q →
    LowerOver g l p → LowerOver g l q → UpperOver g u p → UpperOver g u q → Passes g p q →
    edge g u p ≤ℤ pos 0 → edge g l q ≤ℤ pos 0 → ⊥

-- two upper sides over one abscissa have one height there
abbrev pub OneHeight : Type 0
OneHeight =
    (g : Shape) (p : Place) (u v : ℕ) → Sound g → 0 < p.w → UpperOver g u p → UpperOver g v p → value (roof g v) (foot (roof g u) p) ≡ pos 0
