-- Vectors that point up and down, in the order in which one turns left: which turn follows from which. Assumes nothing.
use Rattle.std.proofs.Common.{◌≡◌, ◌⊎◌, [], pos, ◌+ℤ◌, ◌*ℤ◌, neg_ℤ, ◌≤ℤ◌, ◌<ℤ◌, refl, inl, inr, arith}
use borrow.Author.Differences.{ints}
use Rattle.algebra.specs.Hall.{Corner}
use Rattle.algebra.proofs.Polynomial.{forms, by_ring}
use Rattle.algebra.proofs.Order.{product≥0, product>0, product≤0, factor>0, factor≥0, neg≥0, weaker}
use Rattle.algebra.proofs.Forms.{of_corner}
use Rattle.obstacle.specs.Growth.{turn}
use Rattle.obstacle.specs.Merging.{Up, Down, SameHalf, Before, Alike}
use Rattle.obstacle.proofs.Signs.{times_none, none_times, by_sign, both_below}

-- ---- opposite vectors
abbrev pub opposite : Corner → Corner
opposite c = record { x = neg_ℤ c.x; y = neg_ℤ c.y }

pub opposite_turn : (u v : Corner) → turn (opposite u) (opposite v) ≡ turn u v
opposite_turn u v = by_ring (of_corner u (of_corner v [])) (search forms depth 60 fits 99999) refl

pub turn_back : (u v : Corner) → turn u v ≡ neg_ℤ (turn v u)
turn_back u v = by_ring (of_corner u (of_corner v [])) (search forms depth 60 fits 99999) refl

pub turn_opposite : (u v : Corner) → turn u (opposite v) ≡ neg_ℤ (turn u v)
turn_opposite u v = by_ring (of_corner u (of_corner v [])) (search forms depth 60 fits 99999) refl

pub up_opposite : (v : Corner) → Up v → Down (opposite v)
up_opposite v (inl h) = inl (omega (arith, ints))
up_opposite v (inr (e, h)) = inr ((omega (arith, ints), omega (arith, ints)))

pub down_opposite : (v : Corner) → Down v → Up (opposite v)
down_opposite v (inl h) = inl (omega (arith, ints))
down_opposite v (inr (e, h)) = inr ((omega (arith, ints), omega (arith, ints)))

-- ---- what up and down say
up≥0 : (v : Corner) → Up v → pos 0 ≤ℤ v.y
up≥0 v (inl h) = omega (arith, ints)
up≥0 v (inr h) = omega (arith, ints)

down≤0 : (v : Corner) → Down v → v.y ≤ℤ pos 0
down≤0 v (inl h) = omega (arith, ints)
down≤0 v (inr h) = omega (arith, ints)

pub not_both : (v : Corner) → Up v → Down v → ⊥
not_both v (inl h) (inl k) = omega (arith, ints)
not_both v (inl h) (inr k) = omega (arith, ints)
not_both v (inr h) (inl k) = omega (arith, ints)
not_both v (inr h) (inr k) = omega (arith, ints)

-- a vector that others turn away from has a direction
pub has_half : (u v : Corner) → pos 0 <ℤ turn u v → Up u ⊎ Down u
has_half u v h =
    by_sign u.y (λ k. inr (inl k))
    (λ e. by_sign u.x (λ k. inr (inr ((e, k)))) (λ f. absurd (omega (arith, ints, none_times u.x v.y f, none_times u.y v.x e))) (λ k. inl (inr ((e, k)))))
    (λ k. inl (inl k))

-- ---- three vectors
three : (u d v : Corner) → u.y *ℤ turn d v ≡ (turn u d *ℤ neg_ℤ v.y) +ℤ (turn u v *ℤ d.y)
three u d v = by_ring (of_corner u (of_corner d (of_corner v []))) (search forms depth 60 fits 99999) refl

-- from u, which points up, one turns left to v, which points down: so u doesn't point level
steep : (u v : Corner) → Up u → Down v → pos 0 <ℤ turn u v → pos 0 <ℤ u.y
steep u v (inl h) dv t = h
steep u v (inr (e, h)) dv t = absurd (omega (arith, ints, none_times u.y v.x e, product≤0 u.x v.y (weaker u.x h) (down≤0 v dv)))

-- what is not before u and points up is before v
pub cone_up : (u d v : Corner) → Up u → Down v → pos 0 <ℤ turn u v → Up d → pos 0 ≤ℤ turn u d → pos 0 <ℤ turn d v
cone_up u d v hu hv t (inl h) k =
    let p = product≥0 (turn u d) (neg_ℤ v.y) k (neg≥0 v.y (down≤0 v hv)) in
    let q = product>0 (turn u v) d.y t h in
    factor>0 u.y (turn d v) (steep u v hu hv t) (omega (arith, ints, three u d v))
cone_up u d v hu hv t (inr (e, h)) k =
    absurd (omega (arith, ints, times_none u.x d.y e, product>0 u.y d.x (steep u v hu hv t) h))

-- and what is not after v and points down is after u
pub cone_down : (u d v : Corner) → Up u → Down v → pos 0 <ℤ turn u v → Down d → pos 0 ≤ℤ turn d v → pos 0 <ℤ turn u d
cone_down u d v hu (inl l) t (inl h) k =
    let p = product≥0 u.y (turn d v) (up≥0 u hu) k in
    let q = product>0 (turn u v) (neg_ℤ d.y) t (omega (arith, ints)) in
    let s : neg_ℤ v.y *ℤ turn u d ≡ (u.y *ℤ turn d v) +ℤ (turn u v *ℤ neg_ℤ d.y) = by_ring (of_corner u (of_corner d (of_corner v []))) (search forms depth 60 fits 99999) refl in
    factor>0 (neg_ℤ v.y) (turn u d) (omega (arith, ints)) (omega (arith, ints))
cone_down u d v hu (inr (f, l)) t (inl h) k =
    absurd (omega (arith, ints, times_none d.x v.y f, both_below d.y v.x h l))
cone_down u d v hu hv t (inr (e, h)) k =
    let p = product>0 u.y (neg_ℤ d.x) (steep u v hu hv t) (omega (arith, ints)) in
    let s : turn u d ≡ (u.x *ℤ d.y) +ℤ (u.y *ℤ neg_ℤ d.x) = by_ring (of_corner u (of_corner d [])) (search forms depth 60 fits 99999) refl in
    omega (arith, ints, times_none u.x d.y e)

-- the same the other way up
module _ (u d v : Corner) (hu : Down u) (hv : Up v) (t : pos 0 <ℤ turn u v) where
  t_opposite : pos 0 <ℤ turn (opposite u) (opposite v)
  t_opposite = omega (arith, ints, opposite_turn u v)

  pub round_down : Down d → pos 0 ≤ℤ turn u d → pos 0 <ℤ turn d v
  round_down h k =
      omega (arith, ints, opposite_turn d v, cone_up (opposite u) (opposite d) (opposite v) (down_opposite u hu) (up_opposite v hv) t_opposite (down_opposite d h) (omega (arith, ints, opposite_turn u d)))

  pub round_up : Up d → pos 0 ≤ℤ turn d v → pos 0 <ℤ turn u d
  round_up h k =
      omega (arith, ints, opposite_turn u d, cone_down (opposite u) (opposite d) (opposite v) (down_opposite u hu) (up_opposite v hv) t_opposite (up_opposite d h) (omega (arith, ints, opposite_turn d v)))

-- ---- turns in a half follow on each other
follow_up : (b a c : Corner) → Up b → Up a → Up c → pos 0 ≤ℤ turn b a → pos 0 ≤ℤ turn a c → pos 0 ≤ℤ turn b c
follow_up b a c hb (inl h) hc k l =
    let p = product≥0 (turn b a) c.y k (up≥0 c hc) in
    let q = product≥0 (turn a c) b.y l (up≥0 b hb) in
    let s : a.y *ℤ turn b c ≡ (turn b a *ℤ c.y) +ℤ (turn a c *ℤ b.y) = by_ring (of_corner b (of_corner a (of_corner c []))) (search forms depth 60 fits 99999) refl in
    factor≥0 a.y (turn b c) h (omega (arith, ints))
follow_up b a c (inl g) (inr (e, h)) hc k l = absurd (omega (arith, ints, times_none b.x a.y e, product>0 b.y a.x g h))
follow_up b a c (inr (f, g)) (inr (e, h)) hc k l = omega (arith, ints, none_times b.y c.x f, product≥0 b.x c.y (weaker b.x g) (up≥0 c hc))

follow_down : (b a c : Corner) → Down b → Down a → Down c → pos 0 ≤ℤ turn b a → pos 0 ≤ℤ turn a c → pos 0 ≤ℤ turn b c
follow_down b a c hb ha hc k l =
    omega (
      arith,
      ints,
      opposite_turn b c,
      follow_up (opposite b) (opposite a) (opposite c) (down_opposite b hb) (down_opposite a ha) (down_opposite c hc) (omega (arith, ints, opposite_turn b a)) (omega (arith, ints, opposite_turn a c)),
    )

-- ---- the order: d is before e, or alike
abbrev pub NotAfter : Corner → Corner → Type 0
NotAfter d e = (Up d × Down e) ⊎ (SameHalf d e × (pos 0 ≤ℤ turn d e))

pub before_not_after : (d e : Corner) → Before d e → NotAfter d e
before_not_after d e (inl h) = inl h
before_not_after d e (inr (h, k)) = inr ((h, weaker (turn d e) k))

pub alike_back : (d e : Corner) → Alike d e → Alike e d
alike_back d e (inl (h, k), l) = (inl ((k, h)), omega (arith, ints, turn_back e d))
alike_back d e (inr (h, k), l) = (inr ((k, h)), omega (arith, ints, turn_back e d))

pub alike_not_after : (d e : Corner) → Alike d e → NotAfter d e
alike_not_after d e (h, k) = inr ((h, omega (arith, ints)))

pub not_after : (b a c : Corner) → NotAfter b a → NotAfter a c → NotAfter b c
not_after b a c (inl (hb, ha)) (inl (ka, kc)) = absurd (not_both a ka ha)
not_after b a c (inl (hb, ha)) (inr (inl (ka, kc), l)) = absurd (not_both a ka ha)
not_after b a c (inl (hb, ha)) (inr (inr (ka, kc), l)) = inl ((hb, kc))
not_after b a c (inr (inl (hb, ha), l)) (inl (ka, kc)) = inl ((hb, kc))
not_after b a c (inr (inl (hb, ha), l)) (inr (inl (ka, kc), m)) = inr ((inl ((hb, kc)), follow_up b a c hb ha kc l m))
not_after b a c (inr (inl (hb, ha), l)) (inr (inr (ka, kc), m)) = absurd (not_both a ha ka)
not_after b a c (inr (inr (hb, ha), l)) (inl (ka, kc)) = absurd (not_both a ka ha)
not_after b a c (inr (inr (hb, ha), l)) (inr (inl (ka, kc), m)) = absurd (not_both a ka ha)
not_after b a c (inr (inr (hb, ha), l)) (inr (inr (ka, kc), m)) = inr ((inr ((hb, kc)), follow_down b a c hb ha kc l m))

-- what points down is after what points up
pub down_last : (d e : Corner) → Down d → Up e → NotAfter d e → ⊥
down_last d e hd he (inl (h, k)) = not_both d h hd
down_last d e hd he (inr (inl (h, k), l)) = not_both d h hd
down_last d e hd he (inr (inr (h, k), l)) = not_both e he k

pub first_up : (d e : Corner) → Up e → NotAfter d e → Up d × (pos 0 ≤ℤ turn d e)
first_up d e he (inl (h, k)) = absurd (not_both e he k)
first_up d e he (inr (inl (h, k), l)) = (h, l)
first_up d e he (inr (inr (h, k), l)) = absurd (not_both e he k)

pub last_down : (d e : Corner) → Down d → NotAfter d e → Down e × (pos 0 ≤ℤ turn d e)
last_down d e hd (inl (h, k)) = absurd (not_both d h hd)
last_down d e hd (inr (inl (h, k), l)) = absurd (not_both d h hd)
last_down d e hd (inr (inr (h, k), l)) = (k, l)

-- ---- d comes between u and v
pub turn_before : (u d v : Corner) → pos 0 <ℤ turn u v → Before u v → NotAfter u d → NotAfter d v → pos 0 ≤ℤ turn u d
turn_before u d v t _ (inr (s, k)) n = k
turn_before u d v t (inl (hu, hv)) (inl (ku, kd)) n = weaker (turn u d) (cone_down u d v hu hv t kd (last_down d v kd n).1)
turn_before u d v t (inr (inl (hu, hv), k)) (inl (ku, kd)) n = absurd (down_last d v kd hv n)
turn_before u d v t (inr (inr (hu, hv), k)) (inl (ku, kd)) n = absurd (not_both u ku hu)

pub turn_after : (u d v : Corner) → pos 0 <ℤ turn u v → Before u v → NotAfter u d → Before d v → pos 0 <ℤ turn d v
turn_after u d v t _ m (inr (s, k)) = k
turn_after u d v t _ (inr (inl (hu, hd), l)) (inl (kd, kv)) = cone_up u d v hu kv t kd l
turn_after u d v t _ (inr (inr (hu, hd), l)) (inl (kd, kv)) = absurd (not_both d kd hd)
turn_after u d v t _ (inl (hu, hd)) (inl (kd, kv)) = absurd (not_both d kd hd)

pub not_after_cases : (d e : Corner) → NotAfter d e → Before d e ⊎ (turn d e ≡ pos 0)
not_after_cases d e (inl h) = inl (inl h)
not_after_cases d e (inr (h, k)) = by_sign (turn d e) (λ l. absurd (omega (arith, ints))) (λ l. inr l) (λ l. inl (inr ((h, l))))

-- then a place to the left of u and v is to the left of d
pub cone_left : (u d v z : Corner) → pos 0 <ℤ turn u v → pos 0 ≤ℤ turn u d → pos 0 ≤ℤ turn d v → pos 0 ≤ℤ turn u z → pos 0 ≤ℤ turn v z → pos 0 ≤ℤ turn d z
cone_left u d v z t a b h k =
    let p = product≥0 (turn u d) (turn v z) a k in
    let q = product≥0 (turn d v) (turn u z) b h in
    let s : turn u v *ℤ turn d z ≡ (turn u d *ℤ turn v z) +ℤ (turn d v *ℤ turn u z) = by_ring (of_corner u (of_corner d (of_corner v (of_corner z [])))) (search forms depth 60 fits 99999) refl in
    factor≥0 (turn u v) (turn d z) t (omega (arith, ints))

-- no corner turns from down to up while corner 0 lies below it
pub keeps_down : (u v z : Corner) → pos 0 <ℤ turn u v → Down u → Up v → Up (opposite z) → pos 0 ≤ℤ turn u z → pos 0 ≤ℤ turn v z → ⊥
keeps_down u v z t hu hv hz k l =
    omega (arith, ints, turn_opposite u z, round_up u (opposite z) v hu hv t hz (omega (arith, ints, turn_back (opposite z) v, turn_opposite v z)))

pub before_first : (d e : Corner) → Up e → Before d e → pos 0 <ℤ turn d e
before_first d e he (inl (h, k)) = absurd (not_both e he k)
before_first d e he (inr (h, k)) = k
