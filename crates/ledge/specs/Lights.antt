-- What bars the places of a surface: the walls of the hall, and the obstacles. Assumes nothing: these are definitions.
use Rattle.std.specs.Prelude.{◌≡◌, ℕ, zero, suc, ◌+◌, ◌-◌, ◌*◌, ◌<◌, ◌≤◌, List, length, ℤ, pos, ◌-ℤ◌, neg_ℤ, ◌<ℤ◌, Some, None, Option, MatchOption, ◌≢◌, slice_index_or}
use Rattle.algebra.specs.Hall.{Corner, Place, Shape, Hall, Inside, at, between}
use Rattle.obstacle.specs.Freedom.{Clear}
use Rattle.hall.specs.Shapes.{shape_of}
use Rattle.ledge.specs.declared.lights.Wall.{Wall}
use Rattle.ledge.specs.declared.lights.Wall.TheVariants.{Left, Right, Lower, Upper}
use Rattle.ledge.specs.declared.lights.Bar.{Bar}
use Rattle.ledge.specs.declared.lights.Bar.TheVariants as bar
use Rattle.ledge.specs.declared.shadows.Shadow.{Shadow}
use Rattle.ledge.specs.Coverage.{AllOpen}
use Rattle.ledge.specs.Runs.{Lit}
use Rattle.ledge.specs.Shadows.{Dark, Opens}
use Rattle.ledge.specs.Surfaces.{obstacle}

-- how far a place is beyond a wall, times the place's w
abbrev pub past : Hall → Wall → Place → ℤ
past h Left p = neg_ℤ p.x
past h Right p = p.x -ℤ pos (h.wide * p.w)
past h Lower p = neg_ℤ p.y
past h Upper p = p.y -ℤ pos (h.high * p.w)

-- the numbers of the bars: the four walls come first, then the obstacles
abbrev pub wall_number : Wall → ℕ
wall_number Left = 0
wall_number Right = 1
wall_number Lower = 2
wall_number Upper = 3

abbrev pub IsBar : List Shape → ℕ → Bar → Type 0
IsBar gs j (bar.Wall w) = j ≡ wall_number w
IsBar gs j (bar.Obstacle g) = (4 ≤ j) × (j < 4 + length gs) × (obstacle gs (j - 4) ≡ shape_of g.now)

-- the place is beyond the wall with that number, or inside the obstacle
abbrev pub Barred : Hall → List Shape → ℕ → Place → Type 0
Barred h gs zero p = pos 0 <ℤ past h Left p
Barred h gs (suc zero) p = pos 0 <ℤ past h Right p
Barred h gs (suc (suc zero)) p = pos 0 <ℤ past h Lower p
Barred h gs (suc (suc (suc zero))) p = pos 0 <ℤ past h Upper p
Barred h gs (suc (suc (suc (suc k)))) p = Inside (obstacle gs k) p

-- the shadow of bar number j: exactly the spots that it bars
pub record BarsAll (h : Hall) (gs : List Shape) (a b : Corner) (j : ℕ) (s : Shadow) : Type 0 where
  pub barred : (t u : ℕ) → 0 < t + u → Dark s t u → Barred h gs j (between (at a) (at b) t u)
  pub dark : (t u : ℕ) → 0 < t + u → Barred h gs j (between (at a) (at b) t u) → Dark s t u
  pub opens : Opens s

abbrev pub Bars : Hall → List Shape → Corner → Corner → ℕ → Option Shadow → Type 0
Bars h gs a b j r = MatchOption r ((t u : ℕ) → 0 < t + u → Barred h gs j (between (at a) (at b) t u) → ⊥) (BarsAll h gs a b j)

-- a spot is lit exactly if its place is in the hall and inside no obstacle
pub record Lights (h : Hall) (gs : List Shape) (a b : Corner) (ss : List (Option Shadow)) : Type 0 where
  pub count : length ss ≡ 44
  pub opens : AllOpen ss
  pub clear : (t u : ℕ) → 0 < t + u → Lit ss t u → Clear h gs (between (at a) (at b) t u)
  pub lit : (t u : ℕ) → 0 < t + u → Clear h gs (between (at a) (at b) t u) → Lit ss t u
  -- the list is empty past the bars
  pub none : (j : ℕ) → 4 + length gs ≤ j → j < 44 → (s : Shadow) → slice_index_or ss j None ≢ Some s
