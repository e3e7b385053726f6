-- On a steady free stretch the surface under its start stays below. Assumes nothing.
use Rattle.std.proofs.Common.{ℕ, suc, ◌+◌, ◌*◌, ◌<◌, length, pos, ◌*ℤ◌, nat_abs, ◌≤ℤ◌, ◌<ℤ◌, arith}
use borrow.Author.Differences.{ints}
use Rattle.std.proofs.lemmas.Int.{by_lt_z}
use Rattle.algebra.specs.Hall.{Place, Free, edge, between}
use Rattle.algebra.specs.Forms.{Form, value, negated}
use Rattle.algebra.proofs.Forms.{interpolation, negation}
use Rattle.obstacle.specs.Section.{Spans}
use Rattle.obstacle.proofs.Open.{outweighs}
use Rattle.ledge.specs.Sides.{LowerOver, UpperOver}
use Rattle.ledge.specs.Surfaces.{Surface, bottom, top, obstacle, above, Holds}
use Rattle.ledge.proofs.Standing.{bottom_value, roof_edge}
use Rattle.ledge.proofs.Spanning.{lower_stays, upper_stays}
use Rattle.ledge.proofs.Stepping.{Known, Step, sound, apart, passes, start_free, reached_at, reached_free, spans_on}

-- a form that is below 0 at the end of a stretch is below 0 at a place short of it
record Sinks (f : Form) (p q : Place) : Type 0 where
  pub t : ℕ
  pub below : value f (between p q t 1) <ℤ pos 0

sinks : (f : Form) (p q : Place) → 0 < p.w → value f q <ℤ pos 0 → Sinks f p q
sinks f p q wp h =
    let g = negated f in
    let y = value g p *ℤ pos (q.w * 1) in
    let t = suc (nat_abs y) in
    let o = outweighs (value g q) y p.w (nat_abs y) t (omega (arith, ints, negation f q)) wp (omega (arith, ints)) (omega arith) in
    record { t = t; below = omega (arith, ints, interpolation g p q t 1, negation f (between p q t 1)) }

module _ (known : Known) (x : Step) where
  -- a free place that is above a lower side is not below an upper one
  pub not_between : (q : Place) → Free x.h q → (k : ℕ) → k < length x.gs → Spans (obstacle x.gs k) q → (l u : ℕ) → LowerOver (obstacle x.gs k) l q → UpperOver (obstacle x.gs k) u q →
      pos 0 <ℤ edge (obstacle x.gs k) l q → edge (obstacle x.gs k) u q ≤ℤ pos 0
  not_between q f k n s l u low up a =
      let g = obstacle x.gs k in
      by_lt_z (pos 0) (edge g u q)
      (λ b. absurd (apart x.h x.gs x.obstacles k n q f (known.between_sides g q l u (sound x.h x.gs x.obstacles k n) f.real s low up a b)))
      (λ b. b)

  -- ---- short of the end
  module _ (t u : ℕ) (some : 0 < t + u) (short : 0 < u) where
    abbrev spot : Place
    spot = between x.m x.p t u

    holds_on : (s : Surface) → Holds x.h x.gs s x.m → pos 0 ≤ℤ value (above x.gs s) spot
    holds_on bottom a = let r = reached_at known x t u some in omega (arith, ints, bottom_value x.gs spot, (reached_free known x spot r).walls.low)
    holds_on (top k i) a =
        let g = obstacle x.gs k in
        let n = a.reaches.0 in
        let r = reached_at known x t u some in
        let solid = sound x.h x.gs x.obstacles k n in
        let sides = known.has_sides g x.m solid (start_free x).real a.spans in
        let spans = spans_on known x t u some short k n a.spans in
        let low = lower_stays known.uprights g x.m spot (r.corners k n) sides.lower sides.below in
        let up = upper_stays known.uprights g x.m spot (r.corners k n) i a.reaches.1 in
        by_lt_z (value (above x.gs (top k i)) spot) (pos 0)
        (λ h. absurd (by_lt_z (pos 0) (edge g sides.lower spot)
        (λ b. omega (arith, ints, roof_edge g i spot, not_between spot (reached_free known x spot r) k n spans sides.lower i low up b))
        (λ b.
        known.keeps_side g x.m spot sides.lower i solid (start_free x).real r.real a.spans spans sides.below low a.reaches.1 up
        (passes x.h x.gs x.obstacles k n x.m spot r.free) (omega (arith, ints, roof_edge g i x.m, a.not_above)) b)))
        (λ h. h)

  not_below_at : (t u : ℕ) → 0 < u → pos 0 ≤ℤ value (above x.gs x.floor.surface) (between x.m x.p t u)
  not_below_at t u short = holds_on t u (omega arith) short x.floor.surface x.floor.holds

  -- ---- and so at the end
  pub not_below_end : pos 0 ≤ℤ value (above x.gs x.floor.surface) x.p
  not_below_end =
      let f = above x.gs x.floor.surface in
      by_lt_z (value f x.p) (pos 0)
      (λ h. let s = sinks f x.m x.p (start_free x).real h in absurd (omega (arith, ints, s.below, not_below_at s.t 1 (omega arith))))
      (λ h. h)
