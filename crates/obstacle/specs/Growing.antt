-- The walk of the code round a thing and a load. Assumes nothing: these are definitions.
use Rattle.std.specs.Prelude.{◌≡◌, ℕ, ◌+◌, ◌-◌, ◌<◌, ◌⊎◌, length, ℤ, Option, MatchOption}
use Rattle.std.specs.declared.cmp.Ordering.{Ordering}
use Rattle.std.specs.Ordering.{MatchOrdering}
use Rattle.algebra.specs.Hall.{Corner, Shape, corner, next}
use Rattle.exact.specs.declared.points.Corner as code
use Rattle.exact.specs.declared.points.Direction.{Direction}
use Rattle.exact.specs.Points.{corner_of}
use Rattle.exact.specs.Sides.{CornerNear}
use Rattle.hall.specs.Shapes.{shape_of}
use Rattle.obstacle.specs.declared.walks.Walk.{Walk}
use Rattle.obstacle.specs.declared.walks.Walks.{Walks}
use Rattle.obstacle.specs.Growth.{minus, way}
use Rattle.obstacle.specs.Merging.{Up, Down, Before, Alike, Step, Lowest, Highest, onward}

abbrev pub vector_of : Direction → Corner
vector_of d = record { x = d.dx; y = d.dy }

-- how high corner i is, and how far to the right
abbrev pub HeightAt : Shape → ℕ → ℤ × ℤ → Type 0
HeightAt s i r = (r.0 ≡ (corner s i).y) × (r.1 ≡ (corner s i).x)

-- a vector that isn't zero
abbrev pub Points : Corner → Type 0
Points d = Up d ⊎ Down d

-- ---- a walk round a shape

-- the shape that it goes round
abbrev pub round : {n : ℕ} → Walk n → Shape
round w = shape_of w.shape.now

-- c is the corner that comes next, and there is a side to it
pub record Ahead {n : ℕ} (w : Walk n) (c : code.Corner) : Type 0 where
  pub left : w.gone < length (round w)
  pub is : corner_of c ≡ corner (round w) (next (length (round w)) w.at)
  pub near : CornerNear 2047 c

-- r is w, one side on
pub record Onto {n : ℕ} (w r : Walk n) : Type 0 where
  pub shape : round r ≡ round w
  pub at : r.at ≡ next (length (round w)) w.at
  pub gone : r.gone ≡ w.gone + 1

-- ---- walks round a thing and a load

-- both stand where they begin
pub record Begun {m n : ℕ} (load thing : Shape) (p : Walks m n) : Type 0 where
  pub of_load : round p.load ≡ load
  pub of_thing : round p.thing ≡ thing
  pub lowest : Lowest thing p.thing.at
  pub highest : Highest load p.load.at
  pub none : (p.thing.gone ≡ 0) × (p.load.gone ≡ 0)

-- no side is left of either shape
abbrev pub IsRound : {m n : ℕ} → Walks m n → Type 0
IsRound p = (p.thing.gone ≡ length (round p.thing)) × (p.load.gone ≡ length (round p.load))

-- how many sides are left of both
abbrev pub left : {m n : ℕ} → Walks m n → ℕ
left p = (length (round p.thing) - p.thing.gone) + (length (round p.load) - p.load.gone)

-- the walks have come from corner a of the thing and corner b of the load
pub record Reached {m n : ℕ} (load thing : Shape) (a b : ℕ) (p : Walks m n) : Type 0 where
  pub load_is : round p.load ≡ load
  pub thing_is : round p.thing ≡ thing
  pub of_thing : p.thing.at ≡ onward (length thing) a p.thing.gone
  pub of_load : p.load.at ≡ onward (length load) b p.load.gone

-- which side is next: less, the thing's; greater, the load's turned round; equal, both
abbrev pub NextSide : {m n : ℕ} → Walks m n → Ordering → Type 0
NextSide p r =
    let load = round p.load in
    let d = way (round p.thing) p.thing.at in
    let e = minus (corner load p.load.at) (corner load (next (length load) p.load.at)) in
    let more = p.thing.gone < length (round p.thing) in
    let more_load = p.load.gone < length load in
    MatchOrdering r
    (more × ((p.load.gone ≡ length load) ⊎ Before d e))
    (more × more_load × Alike d e)
    (more_load × ((p.thing.gone ≡ length (round p.thing)) ⊎ Before e d))

-- the walks q are one step on from p: a step of the law, from whatever corners p has come
pub record StepsOn {m n : ℕ} (p q : Walks m n) : Type 0 where
  pub step : (load thing : Shape) (a b : ℕ) → Reached load thing a b p → Step load thing a b p.thing.gone p.load.gone q.thing.gone q.load.gone × Reached load thing a b q
  pub fewer : left q < left p

-- c is the thing's corner less the load's
pub record MetAt {m n : ℕ} (p : Walks m n) (c : code.Corner) : Type 0 where
  pub is : corner_of c ≡ minus (corner (round p.thing) p.thing.at) (corner (round p.load) p.load.at)
  pub near : CornerNear 2000 c

-- a call gives the corner that is met, and steps on; or there is no side left
abbrev pub MeetsNext : {m n : ℕ} → Walks m n → Option code.Corner → Walks m n → Type 0
MeetsNext p r q = MatchOption r (IsRound p) (λ c. MetAt p c × StepsOn p q)
