-- The ends of a way, and the straight stretch between them. Assumes nothing.
use Rattle.std.proofs.Common.{ℕ, ◌-◌, ◌^◌, ◌<◌, T, List, [], ◌∷◌, length, arith}
use Rattle.algebra.specs.Hall.{Place, Shape, Hall, Free, between, Straight, Way}
use Rattle.algebra.proofs.Forms.{stretch}
use Rattle.exact.specs.declared.points.Place as code
use Rattle.exact.specs.Points.{place_of}
use Rattle.exact.specs.Sides.{PlaceNear}
use Rattle.exact.proofs.Bounds.{wider}
use Rattle.hall.specs.Outlines.{bounded}
use Rattle.hall.specs.Tasks.{Bounded}
use Rattle.obstacle.specs.Freedom.{Obstacles}
use Rattle.motion.specs.Checking.{PassesAll, EntersFirst}
use Rattle.motion.proofs.DriveStretches.{straight_from, from_free, to_free}
use Rattle.motion.proofs.Judging.{bounded_holds}

-- a way starts and ends at free places: its first stretch starts there, its last one ends there
pub way_start : (h : Hall) (s t : Place) (ps : List Place) → Way h s ps t → Free h s
unfolding Way
way_start h s t [] a = from_free h s t a
way_start h s t (p ∷ ps) a = from_free h s p a.0

pub way_end : (h : Hall) (s t : Place) (ps : List Place) → Way h s ps t → Free h t
unfolding Way
way_end h s t [] a = to_free h s t a
way_end h s t (p ∷ ps) a = way_end h p t ps a.1

pub one_stretch : (h : Hall) (s t : Place) → Straight h s t → Way h s [] t
unfolding Way
one_stretch h s t a = a

-- a stretch between free places is free exactly if it passes all obstacles
module _ (h : Hall) (gs : List Shape) (o : Obstacles h gs) (s t : Place) (a : Free h s) (b : Free h t) where
  pub straight_if_passes : PassesAll gs s t → Straight h s t
  unfolding PassesAll
  straight_if_passes p =
      straight_from h s t a.real b.real a.walls b.walls
      (λ m u n k l x. p k (omega (arith, o.count)) (record { t = m; u = u; some = n; inside = (o.grown k l).meets_inside (between s t m u) (stretch.real s t m u a.real b.real n) x }))

  pub bent_if_enters : (j : ℕ) → EntersFirst gs s t j → Straight h s t → ⊥
  unfolding Straight
  bent_if_enters j e d =
      let i = e.here in
      let l : j < length h.things = omega (arith, o.count, e.thing) in
      (d i.t i.u i.some).things j l ((o.grown j l).inside_meets (between s t i.t i.u) (stretch.real s t i.t i.u a.real b.real i.some) i.inside)

-- ---- a start or goal has small numbers
pub small_bounded : (p : code.Place) → T (bounded (2 ^ 20) p) → Bounded (2 ^ 60 - 1) (place_of p)
small_bounded p n =
    let b = bounded_holds (2 ^ 20) p n in
    record { x = wider b.x tt; y = wider b.y tt; real = b.real; w = omega (arith, b.w) }

pub small_near : (p : code.Place) → T (bounded (2 ^ 20) p) → PlaceNear (2 ^ 45) (2 ^ 34) p
small_near p n =
    let b = bounded_holds (2 ^ 20) p n in
    record { x = wider b.x tt; y = wider b.y tt; real = b.real; most = omega (arith, b.w) }
