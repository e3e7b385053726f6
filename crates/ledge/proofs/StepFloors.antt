-- The floors of the two ends of a steady free stretch are joined by links, both ways: along the surface under its start, and from there to the floor
-- under its end. So a closed set that holds the one holds the other. Assumes nothing.
use Rattle.std.proofs.Common.{List, sym}
use Rattle.algebra.specs.Hall.{Place, Shape, Hall, Free}
use Rattle.algebra.proofs.Places.{straightness}
use Rattle.obstacle.specs.Freedom.{Obstacles}
use Rattle.ledge.specs.Heights.{Feet, Gaps, Uprights}
use Rattle.ledge.specs.Sides.{HasSides, BetweenSides, KeepsSide, OneHeight}
use Rattle.ledge.specs.Surfaces.{Surface, bottom, top, obstacle, Reaches, On, Floor, landing, HasFloor, Falls}
use Rattle.ledge.specs.Graph.{Closed, Floored, Steps}
use Rattle.ledge.proofs.Standing.{reaches_abreast}
use Rattle.ledge.proofs.Spanning.{upper_stays}
use Rattle.ledge.proofs.Links.{Both, both_along, carry, one_floor, to_floor}
use Rattle.ledge.proofs.Stepping.{Known, Step, form, under, form_rises, sound, start_free, end_free, reached_end}
use Rattle.ledge.proofs.StepAlong.{under_real, straight_under, end_under_free}
use Rattle.ledge.proofs.StepHolds.{end_abreast, holds_over, holds_under}

-- a free place has a floor
free_floor : Known → (h : Hall) (gs : List Shape) → Obstacles h gs → (p : Place) → Free h p → Floor h gs p
free_floor known h gs o p f = known.has_floor h gs p (sound h gs o) f.real f.walls

module _ (known : Known) (x : Step) where
  abbrev z : Place
  z = under x x.p

  -- ---- the surface at both ends
  reaches_end : (s : Surface) → Reaches x.h x.gs s x.m → Reaches x.h x.gs s x.p
  reaches_end bottom r = let w = (end_free x).walls in (w.left, w.right)
  reaches_end (top k i) r = (r.0, upper_stays known.uprights (obstacle x.gs k) x.m x.p ((reached_end known x).corners k r.0) i r.1)

  on_end : On x.h x.gs x.floor.surface z
  on_end =
      let wp = (end_free x).real in
      let wz = under_real known x x.p wp in
      record {
        real = wz;
        reaches = reaches_abreast x.p z wp wz (sym (end_abreast known x)) x.h x.gs x.floor.surface (reaches_end x.floor.surface x.floor.holds.reaches);
        level = known.feet.level (form x) x.p (form_rises x);
      }

  along_surface : Both x.h x.gs x.floor.surface (landing x.floor) x.floor.surface z
  along_surface = both_along (known.falls x.h x.gs x.m x.obstacles (start_free x) x.floor).0 on_end (straight_under known x)

  -- ---- and from there on
  module _ (g : Floor x.h x.gs x.p) where
    floor_under : Floor x.h x.gs z
    floor_under = free_floor known x.h x.gs x.obstacles z (end_under_free known x)

    to_under : Both x.h x.gs x.floor.surface z floor_under.surface (landing floor_under)
    to_under = to_floor known.gaps known.falls x.h x.gs x.obstacles known.feet x.floor.surface z (end_under_free known x) on_end floor_under

    to_end : Both x.h x.gs floor_under.surface (landing floor_under) g.surface (landing g)
    to_end =
        one_floor known.gaps known.falls x.h x.gs x.obstacles z x.p (end_under_free known x) (end_free x) (end_abreast known x) floor_under g
        (holds_under known x g.surface g.holds) (holds_over known x floor_under.surface floor_under.holds)

    floors_joined : (C : Surface → Place → Type 0) → Closed x.h x.gs C →
        (C x.floor.surface (landing x.floor) → C g.surface (landing g)) × (C g.surface (landing g) → C x.floor.surface (landing x.floor))
    floors_joined C closed =
        let a = carry C closed along_surface in
        let b = carry C closed to_under in
        let c = carry C closed to_end in
        (λ k. c.0 (b.0 (a.0 k)), λ k. a.1 (b.1 (c.1 k)))

-- from one floor of an end to every floor of the other
steps_by : Known → Steps
unfolding Floored
steps_by known h gs C o closed m p free steady =
    let joined = λ (f : Floor h gs m) (g : Floor h gs p).
    floors_joined known (record { h = h; gs = gs; obstacles = o; m = m; p = p; free = free; steady = steady; floor = f }) g C closed in
    let start = straightness.start h m p free in
    let end = straightness.start h p m (straightness.back h m p free) in
    (λ held g. let f = free_floor known h gs o m start in (joined f g).0 (held f), λ held f. let g = free_floor known h gs o p end in (joined f g).1 (held g))

pub steps : Feet → Gaps → Uprights → HasSides → BetweenSides → KeepsSide → OneHeight → HasFloor → Falls → Steps
steps feet gaps uprights has_sides between_sides keeps_side one_height has_floor falls =
    steps_by (record {
      feet = feet;
      gaps = gaps;
      uprights = uprights;
      has_sides = has_sides;
      between_sides = between_sides;
      keeps_side = keeps_side;
      one_height = one_height;
      has_floor = has_floor;
      falls = falls;
    })
