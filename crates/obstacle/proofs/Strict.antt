-- A corner of a sound shape that is no end of a side lies to the left of it, and each corner comes once. Assumes nothing.
use Rattle.std.proofs.Common.{◌≡◌, ℕ, zero, suc, ◌+◌, ◌-◌, ◌<◌, ◌⊎◌, length, ℤ, pos, ◌+ℤ◌, ◌-ℤ◌, ◌*ℤ◌, neg_ℤ, ◌≤ℤ◌, ◌<ℤ◌, sym, ap, ◌∙◌, subst, ap₂, inl, inr, ⊎_elim, arith}
use lib.IntN.{*ℤ_comm}
use borrow.Author.Differences.{ints}
use Rattle.std.proofs.lemmas.Bool.{cases_order}
use Rattle.algebra.specs.Hall.{Corner, Shape, Sound, Covers, at, side, corner, next, edge}
use Rattle.algebra.specs.Forms.{Weights}
use Rattle.algebra.proofs.Order.{product≥0, product>0, factor≥0, factor≡0, untimes-≡, weaker}
use Rattle.algebra.proofs.Forms.{triangle}
use Rattle.obstacle.specs.Convex.{Strictly, EachOnce}
use Rattle.obstacle.proofs.Signs.{times_none, none_times, ≥0_cases}
use Rattle.obstacle.proofs.Cycle.{next_below, next_inner, next_last, before}
use Rattle.obstacle.proofs.Mixed.{mixed_side, side_start, side_end, side_point, side_turn, side_back, two_bends}

-- ---- integers
-- a sum of what is not below 0
none_left : (m n x y : ℤ) → pos 0 <ℤ m → pos 0 <ℤ n → pos 0 ≤ℤ x → pos 0 ≤ℤ y → (m *ℤ x) +ℤ (n *ℤ y) ≡ pos 0 → (x ≡ pos 0) × (y ≡ pos 0)
none_left m n x y hm hn hx hy e =
    let a = product≥0 m x (weaker m hm) hx in
    let b = product≥0 n y (weaker n hn) hy in
    (factor≡0 m x hm (omega (arith, ints)), factor≡0 n y hn (omega (arith, ints)))

-- the middle one of three
alone : (v a b c w : ℤ) → a ≡ pos 0 → c ≡ pos 0 → b ≡ w → v ≡ (a +ℤ b) +ℤ c → v ≡ w
alone v a b c w ea ec eb e = omega (arith, ints)

-- all the weight at one end
all_weight : (d m n k x y z t : ℤ) → pos 0 <ℤ d → m ≡ pos 0 → k ≡ pos 0 → n ≡ d → d *ℤ x ≡ ((m *ℤ y) +ℤ (n *ℤ z)) +ℤ (k *ℤ t) → x ≡ z
all_weight d m n k x y z t hd em ek en e =
    untimes-≡ x z d hd (*ℤ_comm x d ∙ alone (d *ℤ x) (m *ℤ y) (n *ℤ z) (k *ℤ t) (z *ℤ d) (none_times m y em) (none_times k t ek) (ap (λ (r : ℤ). r *ℤ z) en ∙ *ℤ_comm d z) e)

-- ---- corners
pub corner_same : {c d : Corner} → c.x ≡ d.x → c.y ≡ d.y → c ≡ d
corner_same e f = ap₂ {A = ℤ} {B = ℤ} {C = Corner} (λ x y. record { x = x; y = y }) e f

-- q is on the line from a to b, and c beside it: a side at q is put together from that at a and that at b
module _ (a b c q : Corner) (on : side a b (at q) ≡ pos 0) where
  on_line : (u v : Corner) → side a b (at c) *ℤ side u v (at q) ≡ (side b c (at q) *ℤ side u v (at a)) +ℤ (side c a (at q) *ℤ side u v (at b))
  on_line u v = omega (arith, ints, mixed_side a b c u v (at q), none_times (side a b (at q)) (side u v (at c)) on)

  -- no side that has q for an end has a and b on its left, if q is between them
  between_none : (u v : Corner) → side u v (at q) ≡ pos 0 → pos 0 <ℤ side b c (at q) → pos 0 <ℤ side c a (at q) → pos 0 ≤ℤ side u v (at a) → pos 0 ≤ℤ side u v (at b) →
      (side u v (at a) ≡ pos 0) × (side u v (at b) ≡ pos 0)
  between_none u v e hb ha ua ub =
      none_left (side b c (at q)) (side c a (at q)) (side u v (at a)) (side u v (at b)) hb ha ua ub
      (omega (arith, ints, on_line u v, times_none (side a b (at c)) (side u v (at q)) e))

  module _ (bend : pos 0 <ℤ side a b (at c)) where
    abbrev weights : Weights (side b c (at q)) (side c a (at q)) (side a b (at q)) (side a b (at c)) a b c (at q)
    weights = triangle a b c (at q)

    -- q is at an end if one of its weights is 0
    is_b : side b c (at q) ≡ pos 0 → q ≡ b
    is_b e =
        let m : side c a (at q) ≡ side a b (at c) = omega (arith, ints, weights.sum) in
        let same = λ (x y z t : ℤ). all_weight (side a b (at c)) (side b c (at q)) (side c a (at q)) (side a b (at q)) x y z t bend e on m in
        corner_same (same q.x a.x b.x c.x weights.x) (same q.y a.y b.y c.y weights.y)

    is_a : side c a (at q) ≡ pos 0 → q ≡ a
    is_a e =
        let m : side b c (at q) ≡ side a b (at c) = omega (arith, ints, weights.sum) in
        let same = λ (x y z t : ℤ). all_weight (side a b (at c)) (side c a (at q)) (side b c (at q)) (side a b (at q)) x z y t bend e on m in
        corner_same (same q.x a.x b.x c.x (omega (arith, ints, weights.x))) (same q.y a.y b.y c.y (omega (arith, ints, weights.y)))

    -- the corners z before a, and g and f before and after q: they bend to the left too, and no corner is to the right of a side
    module _ (z f g : Corner) (bend_a : pos 0 <ℤ side z a (at b)) (bend_q : pos 0 <ℤ side g q (at f)) (za : pos 0 ≤ℤ side z a (at q)) (bc : pos 0 ≤ℤ side b c (at q)) where
      to_b : pos 0 ≤ℤ side c a (at q)
      to_b =
          let p = product≥0 (side a b (at c)) (side z a (at q)) (weaker _ bend) za in
          factor≥0 (side z a (at b)) (side c a (at q)) bend_a (omega (arith, ints, on_line z a, times_none (side b c (at q)) (side z a (at a)) (side_end z a), *ℤ_comm (side z a (at b)) (side c a (at q))))

      -- so q is not between a and b
      not_between : pos 0 ≤ℤ side q f (at a) → pos 0 ≤ℤ side q f (at b) → pos 0 ≤ℤ side g q (at a) → pos 0 ≤ℤ side g q (at b) → pos 0 <ℤ side b c (at q) → pos 0 <ℤ side c a (at q) → ⊥
      not_between qa qb ga gb hb ha =
          let r = between_none q f (side_start q f) hb ha qa qb in
          let s = between_none g q (side_end g q) hb ha ga gb in
          let p = product>0 (side g q (at f)) (side a b (at c)) bend_q bend in
          let k : side g q (at b) -ℤ side g q (at a) ≡ pos 0 = omega (arith, ints) in
          let l : side q f (at a) -ℤ side q f (at b) ≡ pos 0 = omega (arith, ints) in
          omega (arith, ints, two_bends a b c g q f, none_times (side g q (at b) -ℤ side g q (at a)) (side q f (at c) -ℤ side q f (at b)) k, none_times (side q f (at a) -ℤ side q f (at b)) (side g q (at c) -ℤ side g q (at b)) l)

      at_end : pos 0 ≤ℤ side q f (at a) → pos 0 ≤ℤ side q f (at b) → pos 0 ≤ℤ side g q (at a) → pos 0 ≤ℤ side g q (at b) → (q ≡ a) ⊎ (q ≡ b)
      at_end qa qb ga gb =
          ≥0_cases (side b c (at q)) bc (λ e. inr (is_b e)) (λ hb. ≥0_cases (side c a (at q)) to_b (λ e. inl (is_a e)) (λ ha. absurd (not_between qa qb ga gb hb ha)))

-- ---- shapes
pub convex_side : (s : Shape) → Sound s → (i j : ℕ) → i < length s → j < length s → pos 0 ≤ℤ side (corner s i) (corner s (next (length s) i)) (at (corner s j))
unfolding Covers edge
convex_side s sound i j hi hj = sound.convex j hj i hi

pub bends_side : (s : Shape) → Sound s → (i : ℕ) → i < length s → pos 0 <ℤ side (corner s i) (corner s (next (length s) i)) (at (corner s (next (length s) (next (length s) i))))
unfolding edge
bends_side s sound i hi = sound.bends i hi

module _ (s : Shape) (sound : Sound s) where
  abbrev after : ℕ → ℕ
  after i = next (length s) i

  -- the same by the number before
  bends_before : (h i : ℕ) → h < length s → after h ≡ i → pos 0 <ℤ side (corner s h) (corner s i) (at (corner s (after i)))
  bends_before h i hh e = subst (λ (k : ℕ). pos 0 <ℤ side (corner s h) (corner s k) (at (corner s (after k)))) e (bends_side s sound h hh)

  convex_before : (h i j : ℕ) → h < length s → after h ≡ i → j < length s → pos 0 ≤ℤ side (corner s h) (corner s i) (at (corner s j))
  convex_before h i j hh e hj = subst (λ (k : ℕ). pos 0 ≤ℤ side (corner s h) (corner s k) (at (corner s j))) e (convex_side s sound h j hh hj)

  -- a corner on the line of a side is one of its ends
  on_side : (i j : ℕ) → i < length s → j < length s → side (corner s i) (corner s (after i)) (at (corner s j)) ≡ pos 0 → (corner s j ≡ corner s i) ⊎ (corner s j ≡ corner s (after i))
  on_side i j hi hj on =
      let h = before (length s) i hi in
      let g = before (length s) j hj in
      let hn = next_below (length s) i hi in
      at_end (corner s i) (corner s (after i)) (corner s (after (after i))) (corner s j) on (bends_side s sound i hi)
      (corner s h.it) (corner s (after j)) (corner s g.it)
      (bends_before h.it i h.within h.is) (bends_before g.it j g.within g.is)
      (convex_before h.it i j h.within h.is hj) (convex_side s sound (after i) j hn hj)
      (convex_side s sound j i hj hi) (convex_side s sound j (after i) hj hn)
      (convex_before g.it j i g.within g.is hi) (convex_before g.it j (after i) g.within g.is hn)

  -- a side has two ends
  pub ends_apart : (i : ℕ) → i < length s → corner s (after i) ≡ corner s i → ⊥
  ends_apart i hi e =
      let c = corner s (after (after i)) in
      omega (arith, ints, subst (λ (k : Corner). pos 0 <ℤ side (corner s i) k (at c)) e (bends_side s sound i hi), side_point (corner s i) (at c))

  -- where two corners are the same, so are the next
  next_same : (i j : ℕ) → i < length s → j < length s → corner s i ≡ corner s j → corner s (after i) ≡ corner s (after j)
  next_same i j hi hj e =
      let a = corner s i in
      let b = corner s (after i) in
      let d = corner s (after j) in
      let n = next_below (length s) i hi in
      let m = next_below (length s) j hj in
      let there : pos 0 ≤ℤ side a b (at d) = convex_side s sound i (after j) hi m in
      let back : pos 0 ≤ℤ side a d (at b) = subst (λ (k : Corner). pos 0 ≤ℤ side k d (at b)) (sym e) (convex_side s sound j (after i) hj n) in
      let turn : side a b (at d) ≡ neg_ℤ (side a d (at b)) = side_turn a b d ∙ side_turn b d a ∙ side_back d a (at b) in
      ⊎_elim (λ k. absurd (ends_apart j hj (k ∙ e))) (λ k. sym k) (on_side i (after j) hi m (omega (arith, ints)))

  never_again : (k i j : ℕ) → i < j → j + suc k ≡ length s → corner s i ≡ corner s j → ⊥
  never_again zero i j h l e =
      let n : after j ≡ 0 = next_last (length s) j (omega arith) in
      let m : after i ≡ i + 1 = next_inner (length s) i (omega arith) in
      sound.once (i + 1) (omega arith) (omega arith) (ap (corner s) (sym m) ∙ next_same i j (omega arith) (omega arith) e ∙ ap (corner s) n)
  never_again (suc k) i j h l e =
      let n : after j ≡ j + 1 = next_inner (length s) j (omega arith) in
      let m : after i ≡ i + 1 = next_inner (length s) i (omega arith) in
      never_again k (i + 1) (j + 1) (omega arith) (omega arith) (ap (corner s) (sym m) ∙ next_same i j (omega arith) (omega arith) e ∙ ap (corner s) n)

pub each_once : EachOnce
each_once s sound i j hi hj e =
    ⊎_elim (λ k. k)
    (λ r. absurd (⊎_elim
    (λ l. never_again s sound (length s - suc j) i j l (omega arith) e)
    (λ l. never_again s sound (length s - suc i) j i l (omega arith) (sym e)) r))
    (cases_order i j)

pub strictly_side : (s : Shape) → Sound s → (i j : ℕ) → i < length s → j < length s → (j ≡ i → ⊥) → (j ≡ next (length s) i → ⊥) → pos 0 <ℤ side (corner s i) (corner s (next (length s) i)) (at (corner s j))
strictly_side s sound i j hi hj ni nn =
    ≥0_cases (side (corner s i) (corner s (next (length s) i)) (at (corner s j))) (convex_side s sound i j hi hj)
    (λ on. absurd (⊎_elim (λ e. ni (each_once s sound j i hj hi e)) (λ e. nn (each_once s sound j (next (length s) i) hj (next_below (length s) i hi) e)) (on_side s sound i j hi hj on)))
    (λ h. h)

pub strictly : Strictly
unfolding edge
strictly = strictly_side
