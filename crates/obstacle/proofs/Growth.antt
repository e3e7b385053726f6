-- Where the load meets a thing is the inside of the grown shape. Assumes the theory of sound shapes, as the section's parameters.
use Rattle.std.proofs.Common.{◌≡◌, ℕ, ◌+◌, ◌*◌, ◌<◌, [], ◌∷◌, length, ℤ, pos, ◌+ℤ◌, ◌-ℤ◌, ◌*ℤ◌, ◌≤ℤ◌, ◌<ℤ◌, refl, mul-pos, arith}
use borrow.Author.Differences.{ints}
use Rattle.algebra.specs.Hall.{Corner, Place, Shape, Sound, Inside, Covers, Meets, at, corner, next, edge, plus, between}
use Rattle.algebra.specs.Forms.{Same, value, negated}
use Rattle.algebra.proofs.Polynomial.{forms, by_ring}
use Rattle.algebra.proofs.Order.{product≤0, factor>0, pos>0, pos≥0}
use Rattle.algebra.proofs.Forms.{negation, stretch}
use Rattle.algebra.proofs.Places.{convexity, same_standing}
use Rattle.obstacle.specs.Convex.{Fan, Supports, SupportsStrictly, Away, HasInside, InsideCovers, Beyond}
use Rattle.obstacle.specs.Growth.{GrowsFrom, Grown, Growth, minus, way}
use Rattle.obstacle.proofs.GrowthMix.{mix, mix_real, mix_covers, mix_plus, Mixed, mixed}
use Rattle.obstacle.proofs.GrowthSides.{through, through_at, parted, has_length, grown_sound}

-- ---- moved places
plus_real : (p r : Place) → 0 < p.w → 0 < r.w → 0 < (plus p r).w
unfolding plus
plus_real p r h k = mul-pos h k

-- two stretches gone side by side
plus_between : (p q r s : Place) (t u : ℕ) → Same (between (plus p r) (plus q s) t u) (plus (between p q t u) (between r s t u))
unfolding plus between
plus_between p q r s t u = record { x = along p.x q.x r.x s.x; y = along p.y q.y r.y s.y }
  where
    along : (a b c d : ℤ) →
        (((((a *ℤ pos r.w) +ℤ (c *ℤ pos p.w)) *ℤ pos (q.w * s.w)) *ℤ pos u) +ℤ ((((b *ℤ pos s.w) +ℤ (d *ℤ pos q.w)) *ℤ pos (p.w * r.w)) *ℤ pos t)) *ℤ pos ((p.w * q.w * (t + u)) * (r.w * s.w * (t + u)))
        ≡ (((((a *ℤ pos q.w) *ℤ pos u) +ℤ ((b *ℤ pos p.w) *ℤ pos t)) *ℤ pos (r.w * s.w * (t + u))) +ℤ ((((c *ℤ pos s.w) *ℤ pos u) +ℤ ((d *ℤ pos r.w) *ℤ pos t)) *ℤ pos (p.w * q.w * (t + u)))) *ℤ pos ((p.w * r.w) * (q.w * s.w) * (t + u))
    along a b c d = by_ring (a ∷ b ∷ c ∷ d ∷ pos p.w ∷ pos q.w ∷ pos r.w ∷ pos s.w ∷ pos t ∷ pos u ∷ []) (search forms depth 60 fits 99999) refl

-- a place less a corner
unfoldable less : Place → Corner → Place
less p c = record { x = p.x -ℤ (c.x *ℤ pos p.w); y = p.y -ℤ (c.y *ℤ pos p.w); w = p.w }

less_plus : (p : Place) (c : Corner) → Same p (plus (less p c) (at c))
unfolding less plus
less_plus p c = record { x = there p.x c.x; y = there p.y c.y }
  where
    there : (a b : ℤ) → a *ℤ pos (p.w * 1) ≡ (((a -ℤ (b *ℤ pos p.w)) *ℤ pos 1) +ℤ (b *ℤ pos p.w)) *ℤ pos p.w
    there a b = by_ring (a ∷ b ∷ pos p.w ∷ []) (search forms depth 60 fits 99999) refl

less_real : (p : Place) (c : Corner) → 0 < p.w → 0 < (less p c).w
unfolding less
less_real p c h = h

-- ---- where the load meets the thing is inside
module _ (supports : Supports) (supports_strictly : SupportsStrictly) {load thing g : Shape} (sl : Sound load) (st : Sound thing) (s : GrowsFrom load thing g) (k : ℕ) (n : k < length g) where
  -- the load's share is not above 0, and the thing's is above 0
  load_share : (r : Place) → 0 < r.w → Covers load r → value (through (way g k) (corner load (s.u k))) r ≤ℤ pos 0
  load_share r h c =
      let f = through (way g k) (corner load (s.u k)) in
      let at_corner : (i : ℕ) → i < length load → pos 0 ≤ℤ value (negated f) (at (corner load i)) =
      λ i m. omega (arith, ints, negation f (at (corner load i)), through_at (way g k) (corner load (s.u k)) (corner load i), s.load_side k n i m) in
      omega (arith, ints, supports load (negated f) r sl h at_corner c, negation f r)

  thing_share : (q : Place) → 0 < q.w → Inside thing q → pos 0 <ℤ value (through (way g k) (corner thing (s.v k))) q
  unfolding edge
  thing_share q h c =
      supports_strictly thing (through (way g k) (corner thing (s.v k))) q st h (has_length (corner g k) (corner g (next (length g) k)) (corner thing (s.v k)) _ (s.bends k n))
      (λ i m. rw through_at (s.thing_side k n i m)) c

  meets_left : (p : Place) → 0 < p.w → Meets load thing p → pos 0 <ℤ edge g k p
  unfolding edge
  meets_left p h m =
      let r = m.spot in
      let l = product≤0 (pos p.w) (value (through (way g k) (corner load (s.u k))) r) (pos≥0 p.w) (load_share r m.real m.covered) in
      let e = parted (corner g k) (corner g (next (length g) k)) (corner thing (s.v k)) (corner load (s.u k)) p r (s.corners k n) in
      factor>0 (pos r.w) _ (pos>0 r.w m.real) (omega (arith, ints, thing_share (plus p r) (plus_real p r h m.real) m.met))

-- ---- and inside it meets it
module _ {load thing g : Shape} (sl : Sound load) (st : Sound thing) (s : GrowsFrom load thing g) where
  -- a place that the thing covers after a move by a place that the load covers
  record Reached (p : Place) : Type 0 where
    pub by : Place
    pub real : 0 < by.w
    pub covered : Covers load by
    pub reaches : Covers thing (plus p by)

  -- what is put together from three corners of g is reached by what is put together from the corners of the load that belong to them
  reached : (i j k : ℕ) → i < length g → j < length g → k < length g → (p : Place) → 0 < p.w → Mixed (corner g i) (corner g j) (corner g k) p → Reached p
  reached i j k hi hj hk p h m =
      let l : ℕ → Corner = λ n. corner load (s.u n) in
      let t : ℕ → Corner = λ n. corner thing (s.v n) in
      let blend : (ℕ → Corner) → Place = λ c. mix (c i) (c j) (c k) m.α m.β m.γ in
      let real : (c : ℕ → Corner) → 0 < (blend c).w = λ c. mix_real (c i) (c j) (c k) m.α m.β m.γ m.real in
      let d : ℕ → Corner = λ n. minus (t n) (l n) in
      let e : Same (blend d) p = rw (← s.corners i hi, ← s.corners j hj, ← s.corners k hk) m.same in
      let f = mix_plus (t i) (t j) (t k) (l i) (l j) (l k) m.α m.β m.γ in
      let wd = plus_real (blend d) (blend l) (real d) (real l) in
      let ct : Covers thing (blend t) = mix_covers thing (t i) (t j) (t k) m.α m.β m.γ (st.convex (s.v i) (s.v_within i hi)) (st.convex (s.v j) (s.v_within j hj)) (st.convex (s.v k) (s.v_within k hk)) in
      let cd = same_standing.covers thing (blend t) (plus (blend d) (blend l)) (real t) wd f ct in
      record {
        by = blend l;
        real = real l;
        covered = mix_covers load (l i) (l j) (l k) m.α m.β m.γ (sl.convex (s.u i) (s.u_within i hi)) (sl.convex (s.u j) (s.u_within j hj)) (sl.convex (s.u k) (s.u_within k hk));
        reaches = same_standing.covers thing (plus (blend d) (blend l)) (plus p (blend l)) wd (plus_real p (blend l) h (real l)) (same_standing.moved (blend d) p (blend l) e) cd;
      }

  module _ (fan : Fan) where
    covered_reached : (p : Place) → 0 < p.w → Covers g p → Reached p
    covered_reached p h c =
        let f = fan g p (grown_sound s) h c in
        reached 0 f.k (f.k + 1) (omega (arith, s.many)) (omega (arith, f.last)) f.last p h (mixed _ _ _ p h f.area f.out f.far f.back)

  -- from a little further off than p: the load's place there, moved a little towards its corner 0, brings it into the thing
  module _ (p m : Place) (hp : 0 < p.w) (hm : 0 < m.w) (y : Beyond g p (less m (corner load 0))) (r : Reached y.spot) (inside : Inside thing m) where
    brought : Meets load thing p
    brought =
        let c = corner load 0 in
        let o = less m c in
        let wo = less_real m c hm in
        let wc : 0 < (at c).w = omega arith in
        let a = plus y.spot r.by in
        let b = plus o (at c) in
        let wa = plus_real y.spot r.by y.real r.real in
        let wb = plus_real o (at c) wo wc in
        let ib = same_standing.inside thing m b hm wb (less_plus m c) inside in
        let far = between y.spot o y.t y.u in
        let spot = between r.by (at c) y.t y.u in
        let some : 0 < y.t + y.u = omega (arith, y.near) in
        let wf = stretch.real y.spot o y.t y.u y.real wo some in
        let ws = stretch.real r.by (at c) y.t y.u r.real wc some in
        let go = convexity.ends thing a b y.t y.u wa wb r.reaches ib y.near in
        let fs = same_standing.inside thing (between a b y.t y.u) (plus far spot) (stretch.real a b y.t y.u wa wb some) (plus_real far spot wf ws) (plus_between y.spot o r.by (at c) y.t y.u) go in
        record {
          spot = spot;
          real = ws;
          covered = convexity.covers load r.by (at c) y.t y.u r.real wc r.covered (sl.convex 0 (omega (arith, sl.many)));
          met = same_standing.inside thing (plus far spot) (plus p spot) (plus_real far spot wf ws) (plus_real p spot hp ws) (same_standing.moved far p spot y.same) fs;
        }

  module _ (fan : Fan) (away : Away) (has_inside : HasInside) (inside_covers : InsideCovers) where
    inside_meets : (p : Place) → 0 < p.w → Inside g p → Meets load thing p
    inside_meets p h i =
        let m = has_inside thing st in
        let y = away g p (less m.spot (corner load 0)) h (less_real m.spot (corner load 0) m.real) i in
        brought p m.spot h m.real y (covered_reached fan y.spot y.real (inside_covers g y.spot y.inside)) m.inside

-- ---- the theorem
module _ (fan : Fan) (supports : Supports) (supports_strictly : SupportsStrictly) (away : Away) (has_inside : HasInside) (inside_covers : InsideCovers) where
  pub grown : {load thing g : Shape} → Sound load → Sound thing → GrowsFrom load thing g → Grown load thing g
  unfolding Inside
  grown sl st s =
      record {
        inside_meets = inside_meets sl st s fan away has_inside inside_covers;
        meets_inside = λ p h m k n. meets_left supports supports_strictly sl st s k n p h m;
      }

  pub growth : Growth
  growth load thing g sl st s = (grown_sound s, grown sl st s)
