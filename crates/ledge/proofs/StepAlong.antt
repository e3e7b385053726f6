-- Under a steady free stretch the surface under its start is free. Assumes nothing.
use Rattle.std.proofs.Common.{ℕ, ◌<◌, length, pos, ◌≤ℤ◌, arith}
use borrow.Author.Differences.{ints}
use Rattle.std.proofs.lemmas.Int.{by_lt_z}
use Rattle.algebra.specs.Hall.{Place, Inside, Within, Free, Straight, edge, between, corner}
use Rattle.algebra.specs.Forms.{value, line}
use Rattle.algebra.proofs.Forms.{sign_along, same_place, stretch}
use Rattle.algebra.proofs.Places.{same_standing, straightness}
use Rattle.obstacle.specs.Freedom.{Apart}
use Rattle.obstacle.specs.Section.{Spans}
use Rattle.obstacle.proofs.Freely.{free_exactly}
use Rattle.obstacle.proofs.Section.{inside_spans}
use Rattle.ledge.specs.Sides.{LowerOver, UpperOver, Sectioned, roof, end}
use Rattle.ledge.specs.Surfaces.{bottom, top, obstacle}
use Rattle.ledge.proofs.Standing.{lower_rises, bottom_holds, edge_value, roof_edge, spans_abreast}
use Rattle.ledge.proofs.Spanning.{lower_stays, upper_stays}
use Rattle.ledge.proofs.Falling.{over_foot}
use Rattle.ledge.proofs.Footing.{foot_within}
use Rattle.ledge.proofs.Stepping.{Known, Step, Reached, form, under, form_rises, sound, passes, start_free, end_free, reached_at, reached_end, reached_free, spanned_first}
use Rattle.ledge.proofs.StepBelow.{not_between, not_below_end}

module _ (known : Known) (x : Step) where
  -- ---- feet of the places of a step
  pub under_real : (q : Place) → 0 < q.w → 0 < (under x q).w
  under_real q w = known.feet.real (form x) q (form_rises x) w

  under_within : (q : Place) → Reached x q → pos 0 ≤ℤ value (form x) q → Within x.h (under x q)
  under_within q r over =
      foot_within known.feet x.h x.gs (form x) q (form_rises x) r.real (reached_free known x q r).walls over
      (r.stays_under bottom tt (x.floor.highest bottom (bottom_holds x.h x.gs x.m (start_free x).walls)))

  -- ---- what is above an obstacle's upper side was above it at the start, so the surface is not below that side
  module _ (q : Place) (r : Reached x q) (k : ℕ) (n : k < length x.gs) (spans : Spans (obstacle x.gs k) q) where
    -- the sides over m are over q
    pub first_sides : Sectioned (obstacle x.gs k) x.m
    first_sides = known.has_sides (obstacle x.gs k) x.m (sound x.h x.gs x.obstacles k n) (start_free x).real (spanned_first known x q r k n spans)

    pub lower_here : LowerOver (obstacle x.gs k) first_sides.lower q
    lower_here = lower_stays known.uprights (obstacle x.gs k) x.m q (r.corners k n) first_sides.lower first_sides.below

    pub upper_here : UpperOver (obstacle x.gs k) first_sides.upper q
    upper_here = upper_stays known.uprights (obstacle x.gs k) x.m q (r.corners k n) first_sides.upper first_sides.above

    pub surface_over : edge (obstacle x.gs k) first_sides.upper q ≤ℤ pos 0 → pos 0 ≤ℤ value (roof (obstacle x.gs k) first_sides.upper) (under x q)
    surface_over a =
        let g = obstacle x.gs k in
        let l = first_sides.lower in
        let u = first_sides.upper in
        let s = spanned_first known x q r k n spans in
        let back = passes x.h x.gs x.obstacles k n q x.m (straightness.back x.h x.m q r.free) in
        let above_it : edge g u x.m ≤ℤ pos 0 =
        by_lt_z (pos 0) (edge g l x.m)
        (λ b. not_between known x x.m (start_free x) k n s l u first_sides.below first_sides.above b)
        (λ b. absurd (known.keeps_side g q x.m l u (sound x.h x.gs x.obstacles k n) r.real (start_free x).real spans s
        lower_here first_sides.below upper_here first_sides.above back a b)) in
        r.stays_under (top k u) (n, first_sides.above.upper)
        (x.floor.highest (top k u) (record { reaches = (n, first_sides.above); spans = s; not_above = omega (arith, ints, roof_edge g u x.m) }))

  -- ---- no obstacle has the surface inside
  under_apart : (q : Place) → Reached x q → pos 0 ≤ℤ value (form x) q → (k : ℕ) → k < length x.gs → Inside (obstacle x.gs k) (under x q) → ⊥
  unfolding Inside
  under_apart q r over k n inside =
      let g = obstacle x.gs k in
      let f = under x q in
      let wf = under_real q r.real in
      let spans = spans_abreast f q wf r.real (known.feet.abreast (form x) q (form_rises x)) g (inside_spans g f (sound x.h x.gs x.obstacles k n) wf inside) in
      let sides = first_sides q r k n spans in
      let l = sides.lower in
      let u = sides.upper in
      let side = line (corner g l) (end g l) in
      let low = over_foot known.feet (form x) side q (form_rises x) (lower_rises g l x.m sides.below) over (omega (arith, ints, edge_value g l f, inside l sides.below.within)) in
      let out = not_between known x q (reached_free known x q r) k n spans l u (lower_here q r k n spans) (upper_here q r k n spans) (omega (arith, ints, edge_value g l q)) in
      omega (arith, ints, roof_edge g u f, inside u sides.above.upper.within, surface_over q r k n spans out)

  under_free : (q : Place) → Reached x q → pos 0 ≤ℤ value (form x) q → Free x.h (under x q)
  unfolding Apart
  under_free q r over =
      (free_exactly x.h x.gs (under x q) x.obstacles (under_real q r.real)).1 (record { walls = under_within q r over; apart = under_apart q r over })

  -- the feet of a stretch are the stretch of the feet
  pub straight_under : Straight x.h (under x x.m) (under x x.p)
  unfolding Straight
  straight_under t u some =
      let q = between x.m x.p t u in
      let b = between (under x x.m) (under x x.p) t u in
      let wm = (start_free x).real in
      let wp = (end_free x).real in
      let over = (sign_along (form x) x.m x.p t u wm wp).stays≥0 x.floor.holds.not_above (not_below_end known x) in
      same_standing.free x.h (under x q) b (stretch.real (under x x.m) (under x x.p) t u (under_real x.m wm) (under_real x.p wp) some)
      (same_place.symmetric b (under x q) (known.feet.spread (form x) x.m x.p t u (form_rises x))) (under_free q (reached_at known x t u some) over)

  pub end_under_free : Free x.h (under x x.p)
  end_under_free = under_free x.p (reached_end known x) (not_below_end known x)
