-- The ends of upper chains: the corner that lies farthest out on one hand. Assumes nothing.
use Rattle.std.proofs.Common.{◌≡◌, ℕ, ◌<◌, Bool, true, false, List, length, pos, ◌*ℤ◌, ◌≤ℤ◌, Some, None, Option, MatchOption, Decides, inl, inr, refl, sym, ◌∙◌, subst, arith}
use borrow.Author.Differences.{ints}
use Rattle.std.proofs.lemmas.Int.{by_lt_z}
use Rattle.std.proofs.lemmas.Bool.{false≢true}
use Rattle.std.specs.Prelude.{MatchBool}
use Rattle.std.specs.List.{AllWithin, HoldsAt}
use Rattle.algebra.specs.Hall.{Corner, Place, Shape, Hall, Sound, Free, corner, next, at}
use Rattle.algebra.proofs.Order.{pos>0, pos≥0, times-≤, untimes-≤}
use Rattle.algebra.proofs.Forms.{same_place}
use Rattle.algebra.proofs.Places.{same_standing}
use Rattle.hall.specs.Sides.{CornerPair, sides_of}
use Rattle.hall.proofs.Walks.{side_pair, length_sides}
use Rattle.obstacle.specs.Section.{Spans, LeftOf, RightOf}
use Rattle.obstacle.proofs.Cycle.{next_below, find_one}
use Rattle.obstacle.proofs.Mixed.{side_start, side_end}
use Rattle.ledge.specs.declared.descents.Hand.{Hand}
use Rattle.ledge.specs.declared.descents.Hand.TheVariants as hand
use Rattle.ledge.specs.Descents.{Farther, Outermost, TipSide, NoTipSide, TipPair, pair_end, end_at}
use Rattle.ledge.specs.Graph.{Tip}
use Rattle.ledge.specs.Heights.{Abreast, foot}
use Rattle.ledge.specs.Sides.{Upper, end, roof}
use Rattle.ledge.specs.Surfaces.{top, obstacle, On}
use Rattle.ledge.proofs.Feet.{feet, one_foot}
use Rattle.ledge.proofs.Lining.{line_side}
use Rattle.ledge.proofs.Standing.{roof_rises, upper_abreast}
use Rattle.ledge.proofs.Whole.{one_height}

-- ---- which corners lie farther out
module _ (g : Shape) (p : Place) where
  pub outermost_from : (s : Hand) → ((j : ℕ) → j < length g → Farther (corner g j) s p → ⊥) → Outermost g s p
  outermost_from hand.Left none = λ j l. by_lt_z ((corner g j).x *ℤ pos p.w) p.x (λ f. absurd (none j l f)) (λ h. h)
  outermost_from hand.Right none = λ j l. by_lt_z p.x ((corner g j).x *ℤ pos p.w) (λ f. absurd (none j l f)) (λ h. h)

  pub none_farther : (s : Hand) → Outermost g s p → (j : ℕ) → j < length g → Farther (corner g j) s p → ⊥
  none_farther hand.Left o j l f = omega (arith, ints, o j l)
  none_farther hand.Right o j l f = omega (arith, ints, o j l)

  -- what a test of one side after another comes to
  pub outermost_decided : (s : Hand) (r : Bool) →
      MatchBool r (AllWithin (λ (a : CornerPair). Farther a.0 s p → ⊥) (sides_of g) 0 (length (sides_of g))) ((k : ℕ) × (k < length (sides_of g)) × HoldsAt (λ (a : CornerPair). Farther a.0 s p) (sides_of g) k) →
      Decides r (Outermost g s p)
  outermost_decided s true h = (
    λ _. outermost_from s (λ j l f.
        let d : CornerPair = (corner g j, corner g j) in
        h j d (omega arith) (omega (arith, length_sides g (length g) 0)) (subst (λ (a : CornerPair). Farther a.0 s p) (sym (side_pair g j d l)) f)),
    λ _. refl,
  )
  outermost_decided s false h =
      let l : h.0 < length g = omega (arith, h.1, length_sides g (length g) 0) in
      let d : CornerPair = (corner g h.0, corner g h.0) in
      (λ e. absurd (false≢true e), λ o. absurd (none_farther s o h.0 l (subst (λ (a : CornerPair). Farther a.0 s p) (side_pair g h.0 d l) (h.2 d))))

  -- a shape spans a place that is outermost on neither hand, and no other
  pub spans_from : (Outermost g hand.Left p → ⊥) → (Outermost g hand.Right p → ⊥) → Spans g p
  spans_from left right =
      let a = find_one (length g) (λ i. LeftOf g i p) (λ i. p.x ≤ℤ ((corner g i).x *ℤ pos p.w)) (λ i. by_lt_z ((corner g i).x *ℤ pos p.w) p.x inl inr) left in
      let b = find_one (length g) (λ i. RightOf g i p) (λ i. ((corner g i).x *ℤ pos p.w) ≤ℤ p.x) (λ i. by_lt_z p.x ((corner g i).x *ℤ pos p.w) inl inr) right in
      record { i = a.it; j = b.it; i_within = a.within; j_within = b.within; left = a.is; right = b.is }

  pub spanned_not : Spans g p → (s : Hand) → Outermost g s p → ⊥
  spanned_not sp hand.Left o = omega (arith, ints, sp.left, o sp.i sp.i_within)
  spanned_not sp hand.Right o = omega (arith, ints, sp.right, o sp.j sp.j_within)

-- the end of side i on one hand
pub end_here : (g : Shape) (i : ℕ) (r : CornerPair) → r.0 ≡ corner g i → r.1 ≡ end g i → (s : Hand) → pair_end r s ≡ end_at g i s
end_here g i r from to hand.Left = to
end_here g i r from to hand.Right = from

-- what a search among the sides comes to
module _ (g : Shape) (s : Hand) where
  run_tip : (i : ℕ) → i < length g → TipPair g s (corner g i, end g i) → TipSide g s i
  run_tip i l t = record { upper = record { within = l; runs = t.runs }; outermost = subst (λ (c : Corner). Outermost g s (at c)) (end_here g i (corner g i, end g i) refl refl s) t.outermost }

  tip_run : (i : ℕ) → TipSide g s i → TipPair g s (corner g i, end g i)
  tip_run i t = record { runs = t.upper.runs; outermost = subst (λ (c : Corner). Outermost g s (at c)) (sym (end_here g i (corner g i, end g i) refl refl s)) t.outermost }

  pub tip_side_found : (r : Option ℕ) →
      MatchOption r (AllWithin (λ (a : CornerPair). TipPair g s a → ⊥) (sides_of g) 0 (length (sides_of g)))
      (λ i. (i < length (sides_of g)) × HoldsAt (TipPair g s) (sides_of g) i × AllWithin (λ (a : CornerPair). TipPair g s a → ⊥) (sides_of g) 0 i) → MatchOption r (NoTipSide g s) (TipSide g s)
  tip_side_found None h = λ i t.
      let d : CornerPair = (corner g i, corner g i) in
      h i d (omega arith) (omega (arith, length_sides g (length g) 0, t.upper.within)) (subst (TipPair g s) (sym (side_pair g i d t.upper.within)) (tip_run i t))
  tip_side_found (Some i) h =
      let d : CornerPair = (corner g i, corner g i) in
      let l : i < length g = omega (arith, h.0, length_sides g (length g) 0) in
      run_tip i l (subst (TipPair g s) (side_pair g i d l) (h.1 d))

-- ---- the tip of an obstacle on one hand
module _ (h : Hall) (gs : List Shape) (k : ℕ) where
  -- a tip of side i that lies outermost: no corner lies farther out than the end of that side
  pub tip_side_of : (s : Hand) (i : ℕ) (e : Place) → Tip h gs k i e → Outermost (obstacle gs k) s e → TipSide (obstacle gs k) s i
  tip_side_of hand.Left i e t o =
      let r = t.on.reaches.1 in
      record {
        upper = r.upper;
        outermost = λ j l.
            let m = untimes-≤ (end (obstacle gs k) i).x (corner (obstacle gs k) j).x (pos e.w) (pos>0 e.w t.on.real) (omega (arith, ints, r.from, o j l)) in
            omega (arith, ints, m);
      }
  tip_side_of hand.Right i e t o =
      let r = t.on.reaches.1 in
      record {
        upper = r.upper;
        outermost = λ j l.
            let m = untimes-≤ (corner (obstacle gs k) j).x (corner (obstacle gs k) i).x (pos e.w) (pos>0 e.w t.on.real) (omega (arith, ints, r.to, o j l)) in
            omega (arith, ints, m);
      }

  module _ (within : k < length gs) (i : ℕ) where
    -- the end of an upper side is on it
    pub on_end : (s : Hand) → Upper (obstacle gs k) i → On h gs (top k i) (at (end_at (obstacle gs k) i s))
    on_end hand.Left u =
        record {
          real = omega arith;
          reaches = (within, record { upper = u; from = omega (arith, ints); to = omega (arith, ints, u.runs) });
          level = line_side (end (obstacle gs k) i) (corner (obstacle gs k) i) (at (end (obstacle gs k) i)) ∙ side_start (end (obstacle gs k) i) (corner (obstacle gs k) i);
        }
    on_end hand.Right u =
        record {
          real = omega arith;
          reaches = (within, record { upper = u; from = omega (arith, ints, u.runs); to = omega (arith, ints) });
          level = line_side (end (obstacle gs k) i) (corner (obstacle gs k) i) (at (corner (obstacle gs k) i)) ∙ side_end (end (obstacle gs k) i) (corner (obstacle gs k) i);
        }

    -- and the obstacle doesn't span its abscissa
    pub no_span : (s : Hand) (p : Place) → Outermost (obstacle gs k) s p → Spans (obstacle gs k) p → ⊥
    no_span hand.Left p o n = omega (arith, ints, o n.i n.i_within, n.left)
    no_span hand.Right p o n = omega (arith, ints, o n.j n.j_within, n.right)

    pub tip_end : (s : Hand) (d : Corner) → d ≡ end_at (obstacle gs k) i s → TipSide (obstacle gs k) s i → Free h (at d) → Tip h gs k i (at d) × Outermost (obstacle gs k) s (at d)
    tip_end s d e t f =
        let o : Outermost (obstacle gs k) s (at d) = subst (λ (c : Corner). Outermost (obstacle gs k) s (at c)) (sym e) t.outermost in
        (record { on = subst (λ (c : Corner). On h gs (top k i) (at c)) (sym e) (on_end s t.upper); end = no_span s (at d) o; free = f }, o)

    -- every tip on that hand has the abscissa of the end of the side
    abreast_end : (s : Hand) (j : ℕ) (e : Place) → Tip h gs k j e → Outermost (obstacle gs k) s e → TipSide (obstacle gs k) s i → Abreast e (at (end_at (obstacle gs k) i s))
    abreast_end hand.Left j e t o u =
        let g = obstacle gs k in
        let r = t.on.reaches.1 in
        let below = next_below (length g) i (omega (arith, u.upper.within)) in
        let there = next_below (length g) j (omega (arith, r.upper.within)) in
        let m = u.outermost (next (length g) j) there in
        let n = times-≤ (end g i).x (end g j).x (pos e.w) (omega (arith, ints, m)) (pos≥0 e.w) in
        omega (arith, ints, r.from, o (next (length g) i) below, n)
    abreast_end hand.Right j e t o u =
        let g = obstacle gs k in
        let r = t.on.reaches.1 in
        let m = u.outermost j r.upper.within in
        let n = times-≤ (corner g j).x (corner g i).x (pos e.w) (omega (arith, ints, m)) (pos≥0 e.w) in
        omega (arith, ints, r.to, o i u.upper.within, n)

    -- so it is that end, which is free
    pub end_free : Sound (obstacle gs k) → (s : Hand) (j : ℕ) (e : Place) → Tip h gs k j e → Outermost (obstacle gs k) s e → TipSide (obstacle gs k) s i → Free h (at (end_at (obstacle gs k) i s))
    end_free sound s j e t o u =
        let g = obstacle gs k in
        let d = at (end_at g i s) in
        let real : 0 < d.w = omega arith in
        let r = t.on.reaches.1 in
        let a = abreast_end s j e t o u in
        let on = on_end s u.upper in
        let over = upper_abreast d e real t.on.real (sym a) g i on.reaches.1 in
        let F = roof g j in
        let G = roof g i in
        let rf = roof_rises g j r.upper in
        let rg = roof_rises g i u.upper in
        let z = one_height g e j i sound t.on.real r over in
        let wf = feet.real F e rf t.on.real in
        let wg = feet.real G d rg real in
        let first = same_place.symmetric (foot F e) e (feet.own F e rf t.on.level) in
        let second = one_foot F G e d rf rg a z in
        let third = feet.own G d rg on.level in
        let same = same_place.transitive e (foot F e) d wf first (same_place.transitive (foot F e) (foot G d) d wg second third) in
        same_standing.free h e d real same t.free
