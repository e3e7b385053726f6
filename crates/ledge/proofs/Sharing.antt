-- What two ledges have in common, by how their surfaces lie to each other. Assumes nothing.
use Rattle.std.proofs.Common.{◌≡◌, ℕ, ◌+◌, ◌-◌, ◌*◌, ◌^◌, ◌<◌, true, false, ◌⊎◌, [], ◌∷◌, ℤ, pos, ◌+ℤ◌, ◌-ℤ◌, ◌*ℤ◌, ◌≤ℤ◌, ◌<ℤ◌, Some, None, Option, Bool, Decides, MatchOption, Ordering, Less, Equal, Greater, sym, refl, ap, ◌∙◌, subst, ⊎_elim, true≢false, arith}
use mathlib.Core.Bool.{false≢true}
use Rattle.std.specs.Bool.{then_some}
use borrow.Author.Differences.{ints}
use Rattle.std.specs.Ordering.{MatchOrdering, is_lt, is_le}
use Rattle.algebra.specs.Hall as hall
use Rattle.algebra.specs.Hall.{between}
use Rattle.algebra.specs.Forms.{Same}
use Rattle.algebra.proofs.Polynomial.{forms, by_ring}
use Rattle.algebra.proofs.Order.{signs, by-≤, untimes-≤, pos>0}
use Rattle.exact.specs.declared.points.Place.{Place}
use Rattle.exact.specs.Points.{corner_of, place_of}
use Rattle.exact.specs.Sides.{PlaceNear}
use Rattle.exact.specs.Orders as exact
use Rattle.exact.specs.Orders.{LeftOf}
use Rattle.ledge.specs.declared.contacts.Meeting.{Meeting}
use Rattle.ledge.specs.declared.contacts.Meeting.TheVariants.{Apart, Crossing, InLine}
use Rattle.ledge.specs.declared.parts.Ledge.{Ledge}
use Rattle.ledge.specs.Parts.{LedgeNear, Along}
use Rattle.ledge.specs.Contacts.{Segment, OnSegment, Over, MetAs, MeetingNear, Lies, NothingCommon, Shared}

-- ---- the order of abscissae
-- x / u ≤ y / v ≤ z / w
pub not_after : (x y z : ℤ) (u v w : ℕ) → 0 < v → (x *ℤ pos v) ≤ℤ (y *ℤ pos u) → (y *ℤ pos w) ≤ℤ (z *ℤ pos v) → (x *ℤ pos w) ≤ℤ (z *ℤ pos u)
not_after x y z u v w h i j =
    untimes-≤ (x *ℤ pos w) (z *ℤ pos u) (pos v) (pos>0 v h)
    (by-≤ ((((y *ℤ pos u) -ℤ (x *ℤ pos v)) *ℤ pos w) +ℤ (((z *ℤ pos v) -ℤ (y *ℤ pos w)) *ℤ pos u)) (search signs depth 12 fits 5000)
    (by_ring (x ∷ y ∷ z ∷ pos u ∷ pos v ∷ pos w ∷ []) (search forms depth 60 fits 99999) refl))

-- what `is_le` says of an order
pub at_most : (r : Ordering) (i j : ℤ) → MatchOrdering r (i <ℤ j) (i ≡ j) (j <ℤ i) → Decides (is_le r) (i ≤ℤ j)
at_most Less i j h = (λ e. omega (arith, ints), λ k. refl)
at_most Equal i j h = (λ e. omega (arith, ints), λ k. refl)
at_most Greater i j h = (λ e. absurd (false≢true e), λ k. absurd (omega (arith, ints)))

-- and `is_lt`
less : (r : Ordering) (i j : ℤ) → MatchOrdering r (i <ℤ j) (i ≡ j) (j <ℤ i) → is_lt r ≡ true → i ≤ℤ j
less Less i j h e = omega (arith, ints)
less Equal i j h e = absurd (false≢true e)
less Greater i j h e = absurd (false≢true e)

not_less : (r : Ordering) (i j : ℤ) → MatchOrdering r (i <ℤ j) (i ≡ j) (j <ℤ i) → is_lt r ≡ false → j ≤ℤ i
not_less Less i j h e = absurd (true≢false e)
not_less Equal i j h e = omega (arith, ints)
not_less Greater i j h e = omega (arith, ints)

-- the same place is along the same ledges
along_same : (l : Ledge) (p q : hall.Place) → 0 < q.w → Same q p → Along l q → Along l p
along_same l p q w s h =
    record {
      from = not_after l.from.x q.x p.x l.from.w q.w p.w w h.from (omega (arith, ints, s.x));
      to = not_after p.x q.x l.to.x p.w q.w l.to.w w (omega (arith, ints, s.x)) h.to;
    }

-- ---- a ledge on a side is over it
-- a side that runs to the right, or is a single place, has its places from left to right
over : (a : Segment) (q : hall.Place) → (a.from.x <ℤ a.to.x) ⊎ (corner_of a.from ≡ corner_of a.to) → OnSegment a q → Over a q
unfolding between
over a q r h =
    let i : a.from.x ≤ℤ a.to.x = ⊎_elim (λ l. omega (arith, ints)) (λ e. omega (arith, ints, ap (λ (c : hall.Corner). c.x) e)) r in
    let s : pos 0 <ℤ pos (h.t + h.u) = pos>0 (h.t + h.u) h.some in
    let e : q.x *ℤ pos (1 * 1 * (h.t + h.u)) ≡ (((a.from.x *ℤ pos 1) *ℤ pos h.u) +ℤ ((a.to.x *ℤ pos 1) *ℤ pos h.t)) *ℤ pos q.w = h.same.x in
    let f : q.x *ℤ pos (h.t + h.u) ≡ ((a.from.x *ℤ pos h.u) +ℤ (a.to.x *ℤ pos h.t)) *ℤ pos q.w =
    by_ring (q.x ∷ pos h.t ∷ pos h.u ∷ []) (search forms depth 60 fits 99999) refl ∙ e ∙ by_ring (a.from.x ∷ a.to.x ∷ pos q.w ∷ pos h.t ∷ pos h.u ∷ []) (search forms depth 60 fits 99999) refl in
    record {
      from =
          untimes-≤ (a.from.x *ℤ pos q.w) q.x (pos (h.t + h.u)) s
          (by-≤ (((a.to.x -ℤ a.from.x) *ℤ pos h.t) *ℤ pos q.w) (search signs depth 12 fits 5000)
          (f ∙ by_ring (a.from.x ∷ a.to.x ∷ pos q.w ∷ pos h.t ∷ pos h.u ∷ []) (search forms depth 60 fits 99999) refl));
      to =
          untimes-≤ q.x (a.to.x *ℤ pos q.w) (pos (h.t + h.u)) s
          (by-≤ (((a.to.x -ℤ a.from.x) *ℤ pos h.u) *ℤ pos q.w) (search signs depth 12 fits 5000)
          (by_ring (a.from.x ∷ a.to.x ∷ pos q.w ∷ pos h.t ∷ pos h.u ∷ []) (search forms depth 60 fits 99999) refl ∙ ap (λ (z : ℤ). z +ℤ (((a.to.x -ℤ a.from.x) *ℤ pos h.u) *ℤ pos q.w)) (sym f)));
    }

-- and so is what is along the ledge
along_over : (a : Segment) (l : Ledge) (q : hall.Place) → (a.from.x <ℤ a.to.x) ⊎ (corner_of a.from ≡ corner_of a.to) → LedgeNear l → Lies a l → Along l q → Over a q
along_over a l q r n on h =
    let i = over a (place_of l.from) r on.from in
    let j = over a (place_of l.to) r on.to in
    record {
      from = omega (arith, ints, not_after a.from.x l.from.x q.x 1 l.from.w q.w (omega (arith, n.from.real)) (omega (arith, ints, i.from)) h.from);
      to = omega (arith, ints, not_after q.x l.to.x a.to.x q.w l.to.w 1 (omega (arith, n.to.real)) h.to (omega (arith, ints, j.to)));
    }

-- ---- a place by which the answer can be found: if both ledges hold it, it is in common, and if not, nothing is
pub record Tells (k : Meeting) (l m : Ledge) (p : Place) : Type 0 where
  pub near : PlaceNear (2 ^ 36 - 1) (2 ^ 25 - 1) p
  pub found : Along l (place_of p) → Along m (place_of p) → Shared k l m (Some p)
  pub missed : (Along l (place_of p) → Along m (place_of p) → ⊥) → Shared k l m None

pub none_apart : (l m : Ledge) → Shared Apart l m None
unfolding Shared NothingCommon
none_apart l m = λ a b r k i j q w h o _ _. k q w h o

tells_crossing : (l m : Ledge) (p : Place) → MeetingNear (Crossing p) → Tells (Crossing p) l m p
unfolding Shared NothingCommon
tells_crossing l m p n =
    record {
      near = n;
      found = λ g h a b r k i j. record { near = n; first = k.first; second = k.second; along_first = g; along_second = h };
      missed = λ f a b r k i j q w h o g s. let e = k.only q w h o in f (along_same l (place_of p) q w e g) (along_same m (place_of p) q w e s);
    }

-- the start of the one, if that of the other is not after it: nothing that both hold is before it
starts : (l m : Ledge) (q : hall.Place) → 0 < q.w → (l.from.x *ℤ pos m.from.w) ≤ℤ (m.from.x *ℤ pos l.from.w) → Along l q → Along m q → Along l (place_of m.from) × Along m (place_of m.from)
starts l m q w o g h = (
  record { from = o; to = not_after m.from.x q.x l.to.x m.from.w q.w l.to.w w h.from g.to },
  record { from = omega (arith, ints); to = not_after m.from.x q.x m.to.x m.from.w q.w m.to.w w h.from h.to },
)

tells_second : (l m : Ledge) → LedgeNear l → LedgeNear m → (l.from.x *ℤ pos m.from.w) ≤ℤ (m.from.x *ℤ pos l.from.w) → Tells InLine l m m.from
unfolding Shared NothingCommon
tells_second l m nl nm o =
    record {
      near = nm.from;
      found = λ g h a b r k i j. record { near = nm.from; first = k.to_first (place_of m.from) (omega (arith, nm.from.real)) j.from (along_over a l (place_of m.from) r.first nl i g); second = j.from; along_first = g; along_second = h };
      missed = λ f a b r k i j q w _ _ g h. let s = starts l m q w o g h in f s.0 s.1;
    }

tells_first : (l m : Ledge) → LedgeNear l → LedgeNear m → (m.from.x *ℤ pos l.from.w) ≤ℤ (l.from.x *ℤ pos m.from.w) → Tells InLine l m l.from
unfolding Shared NothingCommon
tells_first l m nl nm o =
    record {
      near = nl.from;
      found = λ g h a b r k i j. record { near = nl.from; first = i.from; second = k.to_second (place_of l.from) (omega (arith, nl.from.real)) i.from (along_over b m (place_of l.from) r.second nm j h); along_first = g; along_second = h };
      missed = λ f a b r k i j q w _ _ g h. let s = starts m l q w o h g in f s.1 s.0;
    }

-- ---- the same by the ways of the code: the place that is tried, if one is
module _ (l m : Ledge) where
  abbrev pub Tried : Meeting → Option Place → Type 0
  Tried k None = Shared k l m None
  Tried k (Some p) = Tells k l m p

  told : {j k : Meeting} {o q : Option Place} → k ≡ j → q ≡ o → Tried j o → Tried k q
  told d e t = rw (d, e) t

  pub tried_apart : (k : Meeting) (o : Option Place) → k ≡ Apart → o ≡ None → Tried k o
  tried_apart k o d e = told d e (none_apart l m)

  pub tried_crossing : (k : Meeting) (o : Option Place) (p : Place) → MeetingNear k → k ≡ Crossing p → o ≡ Some p → Tried k o
  tried_crossing k o p n d e = told d e (tells_crossing l m p (subst MeetingNear d n))

  module _ (k : Meeting) (o : Option Place) (r : Ordering) (ranked : MatchOrdering r (LeftOf l.from m.from) (exact.InLine l.from m.from) (LeftOf m.from l.from)) (nl : LedgeNear l) (nm : LedgeNear m) (d : k ≡ InLine) where
    pub tried_second : true ≡ is_lt r → o ≡ Some m.from → Tried k o
    tried_second t e = told d e (tells_second l m nl nm (less r _ _ ranked (sym t)))

    pub tried_first : false ≡ is_lt r → o ≡ Some l.from → Tried k o
    tried_first t e = told d e (tells_first l m nl nm (not_less r _ _ ranked (sym t)))

  pub by_filter : {R : Place → Bool → Type 0} (k : Meeting) (o : Option Place) → Tried k o → ((p : Place) (b : Bool) → R p b → Decides b (Along l (place_of p) × Along m (place_of p))) →
      (r : Option Place) → MatchOption o (r ≡ None) (λ p. (b : Bool) × R p b × (r ≡ then_some b p)) → Shared k l m r
  by_filter k None t holds r e = rw e t
  by_filter k (Some p) t holds r (true, h, e) = let d = (holds p true h).0 refl in rw e (t.found d.0 d.1)
  by_filter k (Some p) t holds r (false, h, e) = rw e (t.missed (λ f g. false≢true ((holds p false h).1 (f, g))))

-- ---- what `meeting_of` ensures is near
pub met_near : (a b : Segment) (k : Meeting) → MetAs a b k → MeetingNear k
met_near a b Apart h = tt
met_near a b (Crossing p) h = h.near
met_near a b InLine h = tt
