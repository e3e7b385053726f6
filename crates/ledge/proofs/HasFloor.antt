-- Every place of the hall has a floor: the best of the bottom wall and one upper side of each obstacle. Assumes nothing.
use Rattle.std.proofs.Common.{◌≡◌, ℕ, zero, suc, ◌<◌, ◌≤◌, ◌⊎◌, List, length, pos, ◌*ℤ◌, ◌≤ℤ◌, ◌<ℤ◌, sym, subst, inl, inr, ⊎_elim, arith}
use borrow.Author.Differences.{ints}
use Rattle.std.proofs.lemmas.Int.{by_lt_z}
use Rattle.std.proofs.lemmas.Bool.{cases_eq}
use Rattle.algebra.specs.Hall.{Place, Shape, Hall, Within, corner}
use Rattle.algebra.specs.Forms.{Form, value}
use Rattle.algebra.proofs.Order.{product≥0, product<0, weaker}
use Rattle.obstacle.specs.Section.{LeftOf, RightOf, Spans}
use Rattle.obstacle.proofs.Cycle.{find}
use Rattle.ledge.specs.Heights.{Feet, Gaps, Rises, foot}
use Rattle.ledge.specs.Sides.{UpperOver, HasSides, OneHeight, roof}
use Rattle.ledge.specs.Surfaces.{Surface, bottom, top, above, obstacle, Stands, Holds, Floor, AllSound, HasFloor}
use Rattle.ledge.proofs.Standing.{rises, stands, bottom_holds}

-- a shape spans an abscissa or not
pub spans_or_not : (g : Shape) (p : Place) → Spans g p ⊎ (Spans g p → ⊥)
spans_or_not g p =
    ⊎_elim
    (λ l. ⊎_elim
    (λ r. inl (record { i = l.it; j = r.it; i_within = l.within; j_within = r.within; left = l.is; right = r.is }))
    (λ none. inr (λ s. omega (arith, ints, none s.j s.j_within, s.right)))
    (find (length g) (λ i. RightOf g i p) (λ i. ((corner g i).x *ℤ pos p.w) ≤ℤ p.x) (λ i. by_lt_z p.x ((corner g i).x *ℤ pos p.w) inl inr)))
    (λ none. inr (λ s. omega (arith, ints, none s.i s.i_within, s.left)))
    (find (length g) (λ i. LeftOf g i p) (λ i. p.x ≤ℤ ((corner g i).x *ℤ pos p.w)) (λ i. by_lt_z ((corner g i).x *ℤ pos p.w) p.x inl inr))

-- where two forms have one height, the second is below 0 where the first is
below_too : Feet → (f g : Form) (p : Place) → Rises f → Rises g → value g (foot f p) ≡ pos 0 → value f p <ℤ pos 0 → pos 0 ≤ℤ value g p → ⊥
below_too feet f g p rf rg e h k =
    omega (arith, ints, feet.values f g p rf, product≥0 f.b (value g p) (weaker f.b rf) k, product<0 g.b (value f p) rg h)

module _ (feet : Feet) (gaps : Gaps) (has_sides : HasSides) (one_height : OneHeight) (h : Hall) (gs : List Shape) (p : Place) (sound : AllSound gs) (real : 0 < p.w) where
  -- s is not higher than t
  abbrev Under : Surface → Surface → Type 0
  Under s t = pos 0 ≤ℤ value (above gs s) (foot (above gs t) p)

  holds_rises : (s : Surface) → Holds h gs s p → Rises (above gs s)
  holds_rises s k = rises gs s (stands h gs s p k.reaches)

  under_trans : (r s t : Surface) → Holds h gs r p → Holds h gs s p → Holds h gs t p → Under r s → Under s t → Under r t
  under_trans r s t kr ks kt a b = gaps.on (above gs t) (above gs s) (above gs r) p (holds_rises t kt) (holds_rises s ks) (holds_rises r kr) real b a

  under_or : (s t : Surface) → Holds h gs s p → Holds h gs t p → Under s t ⊎ Under t s
  under_or s t ks kt =
      by_lt_z (value (above gs s) (foot (above gs t) p)) (pos 0)
      (λ l. inr (omega (arith, ints, gaps.back (above gs s) (above gs t) p (holds_rises s ks) (holds_rises t kt))))
      inl

  -- ---- one obstacle: one of its sides holds p up and none of them is higher, or none holds it up
  record Candidate (k : ℕ) : Type 0 where
    side : ℕ
    holds : Holds h gs (top k side) p
    highest : (i : ℕ) → Holds h gs (top k i) p → Under (top k i) (top k side)

  module _ (k : ℕ) (within : k < length gs) (spans : Spans (obstacle gs k) p) (u : ℕ) (over : UpperOver (obstacle gs k) u p) where
    level : (i : ℕ) → Holds h gs (top k i) p → value (roof (obstacle gs k) i) (foot (roof (obstacle gs k) u) p) ≡ pos 0
    level i o = one_height (obstacle gs k) p u i (sound k within) real over o.reaches.1

    side_or_none : Candidate k ⊎ ((i : ℕ) → Holds h gs (top k i) p → ⊥)
    side_or_none =
        by_lt_z (value (roof (obstacle gs k) u) p) (pos 0)
        (λ l. inr (λ i o. below_too feet (roof (obstacle gs k) u) (roof (obstacle gs k) i) p (rises gs (top k u) (within, over.upper)) (holds_rises (top k i) o) (level i o) l o.not_above))
        (λ l. inl (record { side = u; holds = record { reaches = (within, over); spans = spans; not_above = l }; highest = λ i o. omega (arith, ints, level i o) }))

  candidate : (k : ℕ) → k < length gs → Candidate k ⊎ ((i : ℕ) → Holds h gs (top k i) p → ⊥)
  candidate k within =
      ⊎_elim
      (λ s. let sides = has_sides (obstacle gs k) p (sound k within) real s in side_or_none k within s sides.upper sides.above)
      (λ none. inr (λ i o. none o.spans))
      (spans_or_not (obstacle gs k) p)

  -- ---- the bottom wall and the first n obstacles
  abbrev Among : ℕ → Surface → Type 0
  Among n bottom = Unit {0}
  Among n (top k i) = k < n

  record Best (n : ℕ) : Type 0 where
    surface : Surface
    holds : Holds h gs surface p
    highest : (s : Surface) → Among n s → Holds h gs s p → Under s surface

  -- what is among one more is among the others, or of that obstacle
  among_more : (n : ℕ) (t : Surface) → ((s : Surface) → Among n s → Holds h gs s p → Under s t) → ((i : ℕ) → Holds h gs (top n i) p → Under (top n i) t) →
      (s : Surface) → Among (suc n) s → Holds h gs s p → Under s t
  among_more n t old new bottom a o = old bottom tt o
  among_more n t old new (top k i) a o =
      ⊎_elim
      (λ e. subst (λ (m : ℕ). Holds h gs (top m i) p → Under (top m i) t) (sym e) (new i) o)
      (λ d. old (top k i) (omega arith) o)
      (cases_eq k n)

  -- the better of the best so far and a side of the next obstacle
  better : (n : ℕ) → Best n → Candidate n → Best (suc n)
  better n b c =
      let s = b.surface in
      let t = top n c.side in
      ⊎_elim
      (λ under. record { surface = s; holds = b.holds; highest = among_more n s b.highest (λ i o. under_trans (top n i) t s o c.holds b.holds (c.highest i o) under) })
      (λ over. record { surface = t; holds = c.holds; highest = among_more n t (λ r a o. under_trans r s t o b.holds c.holds (b.highest r a o) over) c.highest })
      (under_or t s c.holds b.holds)

  best : Within h p → (n : ℕ) → n ≤ length gs → Best n
  best walls zero l = record { surface = bottom; holds = bottom_holds h gs p walls; highest = only }
    where
      only : (s : Surface) → Among 0 s → Holds h gs s p → Under s bottom
      only bottom a o = omega (arith, ints, feet.level (above gs bottom) p (rises gs bottom tt))
      only (top k i) a o = absurd (omega arith)
  best walls (suc n) l =
      let b = best walls n (omega arith) in
      ⊎_elim
      (better n b)
      (λ none. record { surface = b.surface; holds = b.holds; highest = among_more n b.surface b.highest (λ i o. absurd (none i o)) })
      (candidate n (omega arith))

  floor : Within h p → Floor h gs p
  floor walls =
      let b = best walls (length gs) (omega arith) in
      let among : (s : Surface) → Holds h gs s p → Among (length gs) s = λ s o. stands_among s (stands h gs s p o.reaches) in
      record { surface = b.surface; holds = b.holds; highest = λ s o. b.highest s (among s o) o }
    where
      stands_among : (s : Surface) → Stands gs s → Among (length gs) s
      stands_among bottom st = tt
      stands_among (top k i) st = st.0

pub has_floor : Feet → Gaps → HasSides → OneHeight → HasFloor
has_floor = floor
