-- How places and sides lie to each other, left to right and low to high. Assumes nothing: these are definitions.
use Rattle.std.specs.Prelude.{◌≡◌, ◌^◌, ◌<◌, ℤ, pos, ◌-ℤ◌, ◌*ℤ◌, ◌<ℤ◌}
use Rattle.algebra.specs.Hall as hall
use Rattle.algebra.specs.Hall.{side}
use Rattle.algebra.specs.Near.{Near}
use Rattle.exact.specs.declared.orders.Fall.{Fall}
use Rattle.exact.specs.declared.points.Place.{Place}
use Rattle.exact.specs.declared.points.Side.{Side}
use Rattle.exact.specs.Points.{corner_of}

-- p lies left of q, or right over or under it
abbrev pub LeftOf : Place → Place → Type 0
LeftOf p q = (p.x *ℤ pos q.w) <ℤ (q.x *ℤ pos p.w)

abbrev pub InLine : Place → Place → Type 0
InLine p q = p.x *ℤ pos q.w ≡ q.x *ℤ pos p.w

-- a place on the line of s, at the abscissa of another
pub record Over (s : Side) (here : Place) (p : hall.Place) : Type 0 where
  pub real : 0 < p.w
  pub line : side (corner_of s.from) (corner_of s.to) p ≡ pos 0
  pub above : p.x *ℤ pos here.w ≡ here.x *ℤ pos p.w

-- there the line of s is lower than that of t, or as high
unfoldable pub Lower : Side → Side → Place → Type 0
Lower s t here = (p q : hall.Place) → Over s here p → Over t here q → (p.y *ℤ pos q.w) <ℤ (q.y *ℤ pos p.w)

unfoldable pub Level : Side → Side → Place → Type 0
Level s t here = (p q : hall.Place) → Over s here p → Over t here q → p.y *ℤ pos q.w ≡ q.y *ℤ pos p.w

-- a side's value at height 0 and its run, both with the sign by which the run is above 0
pub record FallOf (s : Side) (here : Place) (f : Fall) : Type 0 where
  pub sign : ℤ
  pub foot : f.foot ≡ sign *ℤ side (corner_of s.from) (corner_of s.to) (record { x = here.x; y = pos 0; w = here.w })
  pub run : f.run ≡ sign *ℤ (s.to.x -ℤ s.from.x)
  pub right : pos 0 <ℤ f.run
  pub near_foot : Near (2 ^ 50) f.foot
  pub near_run : Near 4094 f.run
