-- How two surfaces lie to each other, as sides that run from left to right. Assumes nothing: these are definitions.
use Rattle.std.specs.Prelude.{◌≡◌, ◌-◌, ◌^◌, ◌<◌, ◌⊎◌, pos, ◌*ℤ◌, ◌≤ℤ◌, ◌<ℤ◌, Option, MatchOption}
use Rattle.algebra.specs.Hall as hall
use Rattle.algebra.specs.Hall.{side, at}
use Rattle.algebra.specs.Forms.{Same}
use Rattle.exact.specs.declared.points.Place.{Place}
use Rattle.exact.specs.declared.points.Corner.{Corner}
use Rattle.exact.specs.declared.points.Side.{Side}
use Rattle.exact.specs.Meets.{Among}
use Rattle.exact.specs.Points.{corner_of, place_of}
use Rattle.exact.specs.Sides.{PlaceNear}
use Rattle.ledge.specs.declared.contacts.Meeting.{Meeting}
use Rattle.ledge.specs.declared.contacts.Meeting.TheVariants.{Apart, Crossing, InLine}
use Rattle.ledge.specs.declared.parts.Ledge.{Ledge}
use Rattle.ledge.specs.Parts.{Along}

-- a surface by its two ends, whatever their numbers
pub record Segment : Type 0 where
  pub from : Corner
  pub to : Corner

abbrev pub segment : Side → Segment
segment s = record { from = s.from; to = s.to }

-- a place on it, its ends included
abbrev pub OnSegment : Segment → hall.Place → Type 0
OnSegment s p = Among (corner_of s.from) (corner_of s.to) p

-- each runs to the right, or is a single place, which one of them at most is
pub record RunsRight (a b : Segment) : Type 0 where
  pub first : (a.from.x <ℤ a.to.x) ⊎ (corner_of a.from ≡ corner_of a.to)
  pub second : (b.from.x <ℤ b.to.x) ⊎ (corner_of b.from ≡ corner_of b.to)
  pub one : (a.from.x <ℤ a.to.x) ⊎ (b.from.x <ℤ b.to.x)

-- the line of a at a corner of the code
pub record IsInLine (a b : Segment) : Type 0 where
  pub first_from : side (corner_of b.from) (corner_of b.to) (at (corner_of a.from)) ≡ pos 0
  pub first_to : side (corner_of b.from) (corner_of b.to) (at (corner_of a.to)) ≡ pos 0
  pub second_from : side (corner_of a.from) (corner_of a.to) (at (corner_of b.from)) ≡ pos 0
  pub second_to : side (corner_of a.from) (corner_of a.to) (at (corner_of b.to)) ≡ pos 0

-- the abscissa of q is among those of a
pub record Over (a : Segment) (q : hall.Place) : Type 0 where
  pub from : (a.from.x *ℤ pos q.w) ≤ℤ q.x
  pub to : q.x ≤ℤ (a.to.x *ℤ pos q.w)

-- one place is on both
pub record CrossesAt (a b : Segment) (p : Place) : Type 0 where
  pub near : PlaceNear (2 ^ 36 - 1) (2 ^ 25 - 1) p
  pub first : OnSegment a (place_of p)
  pub second : OnSegment b (place_of p)
  pub only : (q : hall.Place) → 0 < q.w → OnSegment a q → OnSegment b q → Same q (place_of p)

-- what is on the one and over the other is on the other
pub record LiesInLine (a b : Segment) : Type 0 where
  pub to_second : (q : hall.Place) → 0 < q.w → OnSegment a q → Over b q → OnSegment b q
  pub to_first : (q : hall.Place) → 0 < q.w → OnSegment b q → Over a q → OnSegment a q

abbrev pub MetAs : Segment → Segment → Meeting → Type 0
MetAs a b Apart = (q : hall.Place) → 0 < q.w → OnSegment a q → OnSegment b q → ⊥
MetAs a b (Crossing p) = CrossesAt a b p
MetAs a b InLine = LiesInLine a b

-- the place where they cross is of a stated size
abbrev pub MeetingNear : Meeting → Type 0
MeetingNear Apart = Unit {0}
MeetingNear (Crossing p) = PlaceNear (2 ^ 36 - 1) (2 ^ 25 - 1) p
MeetingNear InLine = Unit {0}

-- ---- ledges

-- the ledge l is on a
pub record Lies (a : Segment) (l : Ledge) : Type 0 where
  pub from : OnSegment a (place_of l.from)
  pub to : OnSegment a (place_of l.to)

-- the place p is on both ledges
pub record Common (a b : Segment) (l m : Ledge) (p : Place) : Type 0 where
  pub near : PlaceNear (2 ^ 36 - 1) (2 ^ 25 - 1) p
  pub first : OnSegment a (place_of p)
  pub second : OnSegment b (place_of p)
  pub along_first : Along l (place_of p)
  pub along_second : Along m (place_of p)

-- no place is
unfoldable pub NothingCommon : Segment → Segment → Ledge → Ledge → Type 0
NothingCommon a b l m = (q : hall.Place) → 0 < q.w → OnSegment a q → OnSegment b q → Along l q → Along m q → ⊥

-- a place on both ledges, if there is one
unfoldable pub Shared : Meeting → Ledge → Ledge → Option Place → Type 0
Shared k l m r = (a b : Segment) → RunsRight a b → MetAs a b k → Lies a l → Lies b m → MatchOption r (NothingCommon a b l m) (Common a b l m)
