-- The falls from the ends of upper chains. Assumes nothing: these are definitions.
use Rattle.std.specs.Prelude.{◌≡◌, ℕ, ◌+◌, ◌*◌, ◌<◌, List, length, pos, ◌*ℤ◌, ◌≤ℤ◌, ◌<ℤ◌, None, Option, MatchOption, slice_index_or}
use Rattle.algebra.specs.Hall.{Corner, Place, Shape, Hall, at, corner}
use Rattle.exact.specs.Points.{corner_of}
use Rattle.exact.specs.Sides.{CornerNear}
use Rattle.hall.specs.Sides.{CornerPair}
use Rattle.ledge.specs.declared.descents.Descent.{Descent}
use Rattle.ledge.specs.declared.descents.Hand.{Hand}
use Rattle.ledge.specs.declared.descents.Hand.TheVariants as hand
use Rattle.ledge.specs.Heights.{foot}
use Rattle.ledge.specs.Graph.{Tip}
use Rattle.ledge.specs.Landings.{Floors}
use Rattle.ledge.specs.Lines.{surface_of}
use Rattle.ledge.specs.Sides.{Upper, end}
use Rattle.ledge.specs.Surfaces.{top, obstacle, above}

-- a corner lies farther out than p on one hand
abbrev pub Farther : Corner → Hand → Place → Type 0
Farther c hand.Left p = (c.x *ℤ pos p.w) <ℤ p.x
Farther c hand.Right p = p.x <ℤ (c.x *ℤ pos p.w)

-- no corner of g does
abbrev pub Outermost : Shape → Hand → Place → Type 0
Outermost g hand.Left p = (j : ℕ) → j < length g → p.x ≤ℤ ((corner g j).x *ℤ pos p.w)
Outermost g hand.Right p = (j : ℕ) → j < length g → ((corner g j).x *ℤ pos p.w) ≤ℤ p.x

abbrev pub end_at : Shape → ℕ → Hand → Corner
end_at g i hand.Left = end g i
end_at g i hand.Right = corner g i

-- an upper side that ends farthest out
pub record TipSide (g : Shape) (side : Hand) (i : ℕ) : Type 0 where
  pub upper : Upper g i
  pub outermost : Outermost g side (at (end_at g i side))

-- the same of a side by its ends: it runs to the left, and no corner lies farther out than where it ends on that hand
abbrev pub pair_end : CornerPair → Hand → Corner
pair_end r hand.Left = r.1
pair_end r hand.Right = r.0

pub record TipPair (g : Shape) (side : Hand) (r : CornerPair) : Type 0 where
  pub runs : r.1.x <ℤ r.0.x
  pub outermost : Outermost g side (at (pair_end r side))

abbrev pub NoTipSide : Shape → Hand → Type 0
NoTipSide g side = (i : ℕ) → TipSide g side i → ⊥

-- d is the fall from the tip of obstacle k on one hand
pub record FallsFrom (h : Hall) (gs : List Shape) (k : ℕ) (side : Hand) (d : Descent) : Type 0 where
  pub within : k < length gs
  pub i : ℕ
  pub surface : surface_of d.surface ≡ top k i
  pub near : CornerNear 2047 d.tip
  pub tip : Tip h gs k i (at (corner_of d.tip))
  pub outermost : Outermost (obstacle gs k) side (at (corner_of d.tip))
  pub floor : Floors h gs (at (corner_of d.tip)) (surface_of d.floor)

-- there is no tip there
abbrev pub NoTip : Hall → List Shape → ℕ → Hand → Type 0
NoTip h gs k side = (i : ℕ) (e : Place) → Tip h gs k i e → Outermost (obstacle gs k) side e → ⊥

abbrev pub DescentIs : Hall → List Shape → ℕ → Hand → Option Descent → Type 0
DescentIs h gs k side r = MatchOption r (NoTip h gs k side) (FallsFrom h gs k side)

-- the falls of every obstacle, by their places in a list
pub record AllDescents (h : Hall) (gs : List Shape) (ds : List (Option Descent)) : Type 0 where
  pub count : length ds ≡ 80
  pub left : (k : ℕ) → k < length gs → DescentIs h gs k hand.Left (slice_index_or ds (2 * k) None)
  pub right : (k : ℕ) → k < length gs → DescentIs h gs k hand.Right (slice_index_or ds (2 * k + 1) None)

-- where a fall ends
abbrev pub landing_of : List Shape → Descent → Place
landing_of gs d = foot (above gs (surface_of d.floor)) (at (corner_of d.tip))
