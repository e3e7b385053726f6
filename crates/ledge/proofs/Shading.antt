-- Shadows: how one is cut down to where a form is above 0, and what the forms of a shape's sides leave of it. Assumes nothing.
use Rattle.std.proofs.Common.{◌≡◌, ℕ, zero, suc, ◌+◌, ◌-◌, ◌<◌, ◌≤◌, List, [], ◌∷◌, length, ℤ, pos, ◌+ℤ◌, ◌*ℤ◌, ◌<ℤ◌, Some, None, Option, sym, refl, ap, ◌∙◌, subst, ap₂, arith, below_more, MatchOption, Ordering, Less, Equal, Greater, ControlFlow, Continue, Break}
use Rattle.std.specs.Prelude.{⊤}
use Rattle.std.specs.Ordering.{MatchOrdering}
use denote.Param.Members.{Mut, Called}
use Rattle.std.specs.ControlFlow.{continue_value}
use Rattle.std.specs.Iterator.{Yields, YieldsFirstBy, TryFoldTurn, TryFoldsItems}
use Rattle.std.specs.List.{FoldsTo}
use borrow.Author.Differences.{ints}
use Rattle.algebra.specs.Hall.{Corner, Shape, Inside, at, side, corner, next, edge, between}
use Rattle.algebra.proofs.Polynomial.{forms, by_ring}
use Rattle.algebra.proofs.Forms.{of_corner}
use Rattle.exact.specs.declared.points.Ends.{Ends}
use Rattle.exact.specs.declared.points.Side.{Side}
use Rattle.exact.specs.Meets.{EndsOf}
use Rattle.exact.specs.Points.{corner_of}
use Rattle.hall.specs.Sides.{CornerPair, pair_of, sides_from, sides_of}
use Rattle.hall.proofs.Walks.{length_sides}
use Rattle.ledge.specs.declared.spots.Spot.{Spot}
use Rattle.ledge.specs.declared.shadows.Shadow.{Shadow}
use Rattle.ledge.specs.declared.shadows.Course.TheVariants as course
use Rattle.ledge.specs.Shadows.{Before, Together, NotAfter, reading, Dark, Apart, Opens, Coursed, Later, Earlier, Opened, Cut, CutBy, Gone, Shades, Casts}
use Rattle.ledge.proofs.Spotting.{before_then, then_before}

-- ---- the later and the earlier of two spots
module _ (a b : Spot) where
  pub later_first : Before b.t b.u a.t a.u → Later (Some a) b a
  unfolding Later
  later_first h t u s = (λ k. (k, before_then b.t b.u a.t a.u t u s h (omega arith)), λ k l. k)

  pub later_second : NotAfter a.t a.u b.t b.u → Later (Some a) b b
  unfolding Later
  later_second h t u s = (λ k. (then_before a.t a.u b.t b.u t u a.some h k, k), λ k l. l)

  pub earlier_first : Before a.t a.u b.t b.u → Earlier (Some a) b a
  unfolding Earlier
  earlier_first h t u s = (λ k. (k, before_then t u a.t a.u b.t b.u b.some k (omega arith)), λ k l. k)

  pub earlier_second : NotAfter b.t b.u a.t a.u → Earlier (Some a) b b
  unfolding Earlier
  earlier_second h t u s = (λ k. (before_then t u b.t b.u a.t a.u a.some k h, k), λ k l. l)

  -- no spot is after the one and before the other, unless they leave room
  pub no_room : NotAfter b.t b.u a.t a.u → (t u : ℕ) → Before a.t a.u t u → Before t u b.t b.u → ⊥
  no_room h t u k l = omega (arith, before_then t u b.t b.u a.t a.u a.some l h)

pub later_alone : (b : Spot) → Later None b b
unfolding Later
later_alone b t u s = (λ k. (tt, k), λ k l. l)

pub earlier_alone : (b : Spot) → Earlier None b b
unfolding Earlier
earlier_alone b t u s = (λ k. (tt, k), λ k l. l)

-- the spot that lies on the wanted side of the other
module _ (a b : Spot) where
  chosen : (r : Ordering) → MatchOrdering r (Before a.t a.u b.t b.u) (Together a.t a.u b.t b.u) (Before b.t b.u a.t a.u) → MatchOrdering r (Earlier (Some a) b a) ⊤ (Later (Some a) b a)
  chosen Less h = earlier_first a b h
  chosen Equal h = tt
  chosen Greater h = later_first a b h

  passed : (w r : Ordering) → (r ≡ w → ⊥) → MatchOrdering r (Before a.t a.u b.t b.u) (Together a.t a.u b.t b.u) (Before b.t b.u a.t a.u) → MatchOrdering w (Earlier (Some a) b b) ⊤ (Later (Some a) b b)
  passed Less Less n h = absurd (n refl)
  passed Less Equal n h = earlier_second a b (omega arith)
  passed Less Greater n h = earlier_second a b (omega arith)
  passed Equal r n h = tt
  passed Greater Less n h = later_second a b (omega arith)
  passed Greater Equal n h = later_second a b (omega arith)
  passed Greater Greater n h = absurd (n refl)

  module _ (o : Option Spot) (is : o ≡ Some a) (w r : Ordering) (h : MatchOrdering r (Before a.t a.u b.t b.u) (Together a.t a.u b.t b.u) (Before b.t b.u a.t a.u)) where
    pub farther_first : r ≡ w → MatchOrdering w (Earlier o b a) ⊤ (Later o b a)
    farther_first e = rw (is, ← e) (chosen r h)

    pub farther_second : (r ≡ w → ⊥) → MatchOrdering w (Earlier o b b) ⊤ (Later o b b)
    farther_second n = rw is (passed w r n h)

pub farther_alone : (o : Option Spot) (b : Spot) (w : Ordering) → o ≡ None → MatchOrdering w (Earlier o b b) ⊤ (Later o b b)
farther_alone o b Less e = rw e (earlier_alone b)
farther_alone o b Equal e = tt
farther_alone o b Greater e = rw e (later_alone b)

-- ---- a shadow cut down to the course of a form
module _ (s : Shadow) (e : Ends) where
  pub cut_nowhere : Coursed e course.Nowhere → Gone s e
  unfolding Gone
  cut_nowhere h t u p d k = omega (arith, ints, h t u)

  pub cut_everywhere : Coursed e course.Everywhere → (o : Option Shadow) → Opened s o → MatchOption o (Gone s e) (Cut s e)
  unfolding Gone
  cut_everywhere h None n = λ t u p d k. n t u p d
  cut_everywhere h (Some o) n = subst (Cut s e) (sym n.0) (record { less = λ t u p d. (d, h t u p); all = λ t u p d k. d; opens = n.1 })

  module _ (x r : Spot) where
    pub cut_after : Coursed e (course.After x) → Later s.from x r → (o : Option Shadow) → Opened (record { from = Some r; to = s.to }) o → MatchOption o (Gone s e) (Cut s e)
    unfolding Later Gone
    cut_after h l None n = λ t u p d k. n t u p (record { after = (l t u p).1 d.after ((h t u).0 k); until = d.until })
    cut_after h l (Some o) n =
        subst (Cut s e) (sym n.0)
        (record {
          less = λ t u p d. let m = (l t u p).0 d.after in (record { after = m.0; until = d.until }, (h t u).1 m.1);
          all = λ t u p d k. record { after = (l t u p).1 d.after ((h t u).0 k); until = d.until };
          opens = n.1;
        })

    pub cut_before : Coursed e (course.Before x) → Earlier s.to x r → (o : Option Shadow) → Opened (record { from = s.from; to = Some r }) o → MatchOption o (Gone s e) (Cut s e)
    unfolding Earlier Gone
    cut_before h l None n = λ t u p d k. n t u p (record { after = d.after; until = (l t u p).1 d.until ((h t u).0 k) })
    cut_before h l (Some o) n =
        subst (Cut s e) (sym n.0)
        (record {
          less = λ t u p d. let m = (l t u p).0 d.until in (record { after = d.after; until = m.0 }, (h t u).1 m.1);
          all = λ t u p d k. record { after = d.after; until = (l t u p).1 d.until ((h t u).0 k) };
          opens = n.1;
        })

-- ---- the sides of a shape along a surface
side_between : (a b c d : Corner) (t u : ℕ) → side c d (between (at a) (at b) t u) ≡ (side c d (at a) *ℤ pos u) +ℤ (side c d (at b) *ℤ pos t)
unfolding side between
side_between a b c d t u = by_ring (of_corner a (of_corner b (of_corner c (of_corner d (pos t ∷ pos u ∷ []))))) (search forms depth 60 fits 99999) refl

-- the first of the m sides that are left, which begin at corner i
first_left : (g : Shape) (m i : ℕ) (r : CornerPair) (rest : List CornerPair) → sides_from g m i ≡ r ∷ rest →
    (k : ℕ) × (m ≡ suc k) × (r ≡ (corner g i, corner g (next (length g) i))) × (rest ≡ sides_from g k (i + 1))
first_left g zero i r rest e = absurd cc
first_left g (suc m) i r rest e = (m, refl, cc, cc)

-- what the sides of a shape leave dark of the surface from a to b, but for those that are left
pub record Sofar (g : Shape) (a b : Corner) (left : List CornerPair) (s : Shadow) : Type 0 where
  pub i : ℕ
  pub within : i ≤ length g
  pub rest : left ≡ sides_from g (length g - i) i
  pub inside : (t u : ℕ) → 0 < t + u → Dark s t u → (k : ℕ) → k < i → pos 0 <ℤ edge g k (between (at a) (at b) t u)
  pub dark : (t u : ℕ) → 0 < t + u → ((k : ℕ) → k < i → pos 0 <ℤ edge g k (between (at a) (at b) t u)) → Dark s t u
  pub opens : Opens s

module _ (g : Shape) (a b : Corner) where
  pub sofar_none : (s : Shadow) (left : List CornerPair) → s.from ≡ None → s.to ≡ None → left ≡ sides_of g → Sofar g a b left s
  sofar_none s left from to e =
      let n : length g ≡ length g - 0 = omega arith in
      record {
        i = 0;
        within = omega arith;
        rest = e ∙ ap (λ (m : ℕ). sides_from g m 0) n;
        inside = λ t u p d k h. absurd (omega arith);
        dark = λ t u p h. record { after = rw from tt; until = rw to tt };
        opens = subst (λ (o : Option Spot). Apart o s.to) (sym from) tt;
      }

  pub sofar_all : (s : Shadow) (left : List CornerPair) → Sofar g a b left s → left ≡ [] → Shades g a b s
  unfolding Inside
  sofar_all s left h e =
      let n : length g ≤ h.i = omega (arith, length_sides g (length g - h.i) h.i, ap length (sym h.rest ∙ e)) in
      record { inside = λ t u p d k l. h.inside t u p d k (omega arith); dark = λ t u p d. h.dark t u p (λ k l. d k (omega (arith, h.within))); opens = h.opens }

  -- the next side is `line`, and e has its values at the ends of the surface
  module _ (surface line : Side) (e : Ends) (ends : EndsOf surface line e) (start : corner_of surface.from ≡ a) (stop : corner_of surface.to ≡ b)
      (left rest : List CornerPair) (s : Shadow) (sofar : Sofar g a b left s) (next_is : left ≡ pair_of line ∷ rest) where
    first : (k : ℕ) × (length g - sofar.i ≡ suc k) × (pair_of line ≡ (corner g sofar.i, corner g (next (length g) sofar.i))) × (rest ≡ sides_from g k (sofar.i + 1))
    first = first_left g (length g - sofar.i) sofar.i (pair_of line) rest (sym sofar.rest ∙ next_is)

    same : (t u : ℕ) → edge g sofar.i (between (at a) (at b) t u) ≡ reading e t u
    unfolding edge
    same t u =
        ap (λ (r : CornerPair). side r.0 r.1 (between (at a) (at b) t u)) (sym first.2)
        ∙ side_between a b (corner_of line.from) (corner_of line.to) t u
        ∙ sym (rw (← start, ← stop) (ap₂ (λ (x y : ℤ). (x *ℤ pos u) +ℤ (y *ℤ pos t)) ends.from ends.to))

    pub sofar_more : (r : Shadow) → Cut s e r → Sofar g a b rest r
    sofar_more r c =
        let n : first.0 ≡ length g - (sofar.i + 1) = omega (arith, first.1) in
        record {
          i = sofar.i + 1;
          within = omega (arith, first.1);
          rest = first.3 ∙ ap (λ (m : ℕ). sides_from g m (sofar.i + 1)) n;
          inside = λ t u p d.
              let m = c.less t u p d in
              below_more _ _ (sofar.inside t u p m.0) (subst (λ (z : ℤ). pos 0 <ℤ z) (sym (same t u)) m.1);
          dark = λ t u p h.
              c.all t u p (sofar.dark t u p (λ k l. h k (omega arith))) (subst (λ (z : ℤ). pos 0 <ℤ z) (same t u) (h sofar.i (omega arith)));
          opens = c.opens;
        }

    pub sofar_gone : Gone s e → (t u : ℕ) → 0 < t + u → Inside g (between (at a) (at b) t u) → ⊥
    unfolding Inside Gone
    sofar_gone n t u p h =
        let l : sofar.i < length g = omega (arith, first.1) in
        n t u p (sofar.dark t u p (λ k m. h k (omega arith))) (subst (λ (z : ℤ). pos 0 <ℤ z) (same t u) (h sofar.i l))

  -- a fold over the sides by a closure that cuts the shadow so far
  module _ {S F : Type 0} (E : Type 0) (surface : Side) (start : corner_of surface.from ≡ a) (stop : corner_of surface.to ≡ b) (left : S → List CornerPair) (call : Mut F (Shadow × (Side × Unit {0})) (Option Shadow)) (f : F)
      (gives : (s : Shadow) (x : Side) (v : Option Shadow) (h : F) → Called call f (s, (x, tt)) v h → CutBy s surface x v × (h ≡ f)) where
    abbrev pub branches : Option Shadow → ControlFlow E Shadow → Type 0
    branches v r = v ≡ continue_value r

    walked : (xs : List Side) (w t : S) (s r : Shadow) (q : F) → Yields (YieldsFirstBy pair_of left) w xs t → FoldsTo {P = F × Shadow} (TryFoldTurn call branches) (f, s) xs (q, r) →
        Sofar g a b (left w) s → Sofar g a b (left t) r × (q ≡ f)
    walked [] w t s r q y h o =
        let m : s ≡ r = ap (λ (z : F × Shadow). z.1) h in
        let n : q ≡ f = sym (ap (λ (z : F × Shadow). z.0) h) in
        (subst (λ (z : S). Sofar g a b (left z) r) y (subst (Sofar g a b (left w)) m o), n)
    walked (x ∷ xs) w t s r q (v, y, ys) (j, turn, hs) o =
        let m = gives s x turn.0 j.0 turn.1 in
        let c : Cut s m.0.e j.1 = subst (λ (z : Option Shadow). MatchOption z (Gone s m.0.e) (Cut s m.0.e)) turn.2 m.0.part in
        walked xs v t j.1 r q ys (subst (λ (z : F). FoldsTo {P = F × Shadow} (TryFoldTurn call branches) (z, j.1) xs (q, r)) m.1 hs)
        (sofar_more surface x m.0.e m.0.ends start stop (left w) (left v) s o y j.1 c)

    ended : (t u : S) (s : Shadow) (q : F) (r : Option Shadow) → Sofar g a b (left t) s → q ≡ f → (o : Option Side) → YieldsFirstBy pair_of left t o u →
        MatchOption o (branches r (Continue s)) (λ x. (v : Option Shadow) × (h : F) × (e : E) × Called call q (s, (x, tt)) v h × branches v (Break e) × (r ≡ None)) → Casts g a b r
    ended t u s q r h is None y e = subst (Casts g a b) (sym e) (sofar_all s (left t) h y.0)
    ended t u s q r h is (Some x) y e =
        let m = gives s x e.0 e.1 (subst (λ (z : F). Called call z (s, (x, tt)) e.0 e.1) is e.3) in
        let n : Gone s m.0.e = subst (λ (z : Option Shadow). MatchOption z (Gone s m.0.e) (Cut s m.0.e)) e.4 m.0.part in
        subst (Casts g a b) (sym e.5) (sofar_gone surface x m.0.e m.0.ends start stop (left t) (left u) s h y n)

    pub cast_by : (w u : S) (s : Shadow) (r : Option Shadow) → s.from ≡ None → s.to ≡ None → left w ≡ sides_of g → TryFoldsItems (YieldsFirstBy pair_of left) call branches (λ _ o. o ≡ None) w f s r u → Casts g a b r
    cast_by w u s r from to e (xs, o, q, t, (v, ys, last), folds, ends) =
        let h = walked xs w v s t q ys folds (sofar_none s (left w) from to e) in
        ended v u t q r h.0 h.1 o last ends
