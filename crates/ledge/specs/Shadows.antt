-- Spots of a surface and the shadows on it. The spot that has gone t parts of t + u is named by t and u. Assumes nothing: these are definitions.
use Rattle.std.specs.Prelude.{◌≡◌, ℕ, ◌+◌, ◌*◌, ◌<◌, ◌≤◌, ℤ, pos, ◌+ℤ◌, ◌*ℤ◌, ◌≤ℤ◌, ◌<ℤ◌, Some, None, Option, MatchOption}
use Rattle.algebra.specs.Hall.{Corner, Shape, Inside, at, between}
use Rattle.exact.specs.declared.points.Ends.{Ends}
use Rattle.exact.specs.declared.points.Side.{Side}
use Rattle.exact.specs.Meets.{EndsOf}
use Rattle.ledge.specs.declared.spots.Spot.{Spot}
use Rattle.ledge.specs.declared.shadows.Shadow.{Shadow}
use Rattle.ledge.specs.declared.shadows.Course.{Course}
use Rattle.ledge.specs.declared.shadows.Course.TheVariants as course

-- the order of spots, from left to right
abbrev pub Before : ℕ → ℕ → ℕ → ℕ → Type 0
Before t u v w = t * w < v * u

abbrev pub Together : ℕ → ℕ → ℕ → ℕ → Type 0
Together t u v w = t * w ≡ v * u

abbrev pub NotAfter : ℕ → ℕ → ℕ → ℕ → Type 0
NotAfter t u v w = t * w ≤ v * u

-- a form's value at a spot, from those at the ends of the surface
abbrev pub reading : Ends → ℕ → ℕ → ℤ
reading e t u = (e.from *ℤ pos u) +ℤ (e.to *ℤ pos t)

-- ---- shadows

-- after a spot, or before it, if there is one
abbrev pub After : Option Spot → ℕ → ℕ → Type 0
After None t u = Unit {0}
After (Some s) t u = Before s.t s.u t u

abbrev pub Until : Option Spot → ℕ → ℕ → Type 0
Until None t u = Unit {0}
Until (Some s) t u = Before t u s.t s.u

-- in the shadow
pub record Dark (s : Shadow) (t u : ℕ) : Type 0 where
  pub after : After s.from t u
  pub until : Until s.to t u

-- its ends, if it has two, leave room between them
abbrev pub Apart : Option Spot → Option Spot → Type 0
Apart None b = Unit {0}
Apart (Some a) None = Unit {0}
Apart (Some a) (Some b) = Before a.t a.u b.t b.u

abbrev pub Opens : Shadow → Type 0
Opens s = Apart s.from s.to

-- ---- what the parts of the code say

-- where a form is above 0: exactly there
abbrev pub Coursed : Ends → Course → Type 0
Coursed e course.Nowhere = (t u : ℕ) → reading e t u ≤ℤ pos 0
Coursed e course.Everywhere = (t u : ℕ) → 0 < t + u → pos 0 <ℤ reading e t u
Coursed e (course.After s) = (t u : ℕ) → (pos 0 <ℤ reading e t u → Before s.t s.u t u) × (Before s.t s.u t u → pos 0 <ℤ reading e t u)
Coursed e (course.Before s) = (t u : ℕ) → (pos 0 <ℤ reading e t u → Before t u s.t s.u) × (Before t u s.t s.u → pos 0 <ℤ reading e t u)

-- after both, before both
unfoldable pub Later : Option Spot → Spot → Spot → Type 0
Later a b r = (t u : ℕ) → 0 < t + u → (Before r.t r.u t u → After a t u × Before b.t b.u t u) × (After a t u → Before b.t b.u t u → Before r.t r.u t u)

unfoldable pub Earlier : Option Spot → Spot → Spot → Type 0
Earlier a b r = (t u : ℕ) → 0 < t + u → (Before t u r.t r.u → Until a t u × Before t u b.t b.u) × (Until a t u → Before t u b.t b.u → Before t u r.t r.u)

-- the shadow itself, with room between its ends, or no spot is in it
abbrev pub Opened : Shadow → Option Shadow → Type 0
Opened s r = MatchOption r ((t u : ℕ) → 0 < t + u → Dark s t u → ⊥) (λ o. (o ≡ s) × Opens s)

-- a shadow, and the part of it in which a form is above 0
pub record Cut (s : Shadow) (e : Ends) (r : Shadow) : Type 0 where
  pub less : (t u : ℕ) → 0 < t + u → Dark r t u → Dark s t u × (pos 0 <ℤ reading e t u)
  pub all : (t u : ℕ) → 0 < t + u → Dark s t u → pos 0 <ℤ reading e t u → Dark r t u
  pub opens : Opens r

unfoldable pub Gone : Shadow → Ends → Type 0
Gone s e = (t u : ℕ) → 0 < t + u → Dark s t u → pos 0 <ℤ reading e t u → ⊥

-- the same, where the form is the line of a side, with its values at the ends of a surface
pub record CutBy (s : Shadow) (surface line : Side) (r : Option Shadow) : Type 0 where
  pub e : Ends
  pub ends : EndsOf surface line e
  pub part : MatchOption r (Gone s e) (Cut s e)

-- the shadow of a shape on the surface from a to b: exactly the spots inside
pub record Shades (g : Shape) (a b : Corner) (s : Shadow) : Type 0 where
  pub inside : (t u : ℕ) → 0 < t + u → Dark s t u → Inside g (between (at a) (at b) t u)
  pub dark : (t u : ℕ) → 0 < t + u → Inside g (between (at a) (at b) t u) → Dark s t u
  pub opens : Opens s

abbrev pub Casts : Shape → Corner → Corner → Option Shadow → Type 0
Casts g a b r = MatchOption r ((t u : ℕ) → 0 < t + u → Inside g (between (at a) (at b) t u) → ⊥) (Shades g a b)
