-- The laws that this crate proves, each the contract of a function of src/lib.rt. Assumes nothing: these are statements.
use Rattle.std.specs.Prelude.{◌≡◌, ℕ, ◌+◌, ◌*◌, ◌<◌, max, T, ◌⊎◌, List, ℤ, pos, ◌+ℤ◌, ◌-ℤ◌, ◌*ℤ◌, neg_ℤ, ◌≤ℤ◌, ◌<ℤ◌, FitsSigned}
use Rattle.std.specs.Int.{Width}
use Rattle.algebra.specs.Near.{Range, room}
use Rattle.algebra.specs.Hall.{Corner, Place, at, side, Shape, Inside, Covers, Hall, plus, Meets, Free, between, Straight}
use Rattle.algebra.specs.Polynomials.{Expr, ◌⊖◌, eval, none, normal}
use Rattle.algebra.specs.Forms.{Form, value, negated, cross, line, Same, SameSign, Along, Crosses, Weights}

-- ---- the integers

-- they are a commutative ring
pub record RingLaws : Type 0 where
  pub sum_assoc : (a b c : ℤ) → (a +ℤ b) +ℤ c ≡ a +ℤ (b +ℤ c)
  pub sum_comm : (a b : ℤ) → a +ℤ b ≡ b +ℤ a
  pub sum_zero : (a : ℤ) → a +ℤ pos 0 ≡ a
  pub sum_neg : (a : ℤ) → a +ℤ neg_ℤ a ≡ pos 0
  pub product_assoc : (a b c : ℤ) → (a *ℤ b) *ℤ c ≡ a *ℤ (b *ℤ c)
  pub product_comm : (a b : ℤ) → a *ℤ b ≡ b *ℤ a
  pub product_one : (a : ℤ) → a *ℤ pos 1 ≡ a
  pub product_sum : (a b c : ℤ) → (a +ℤ b) *ℤ c ≡ (a *ℤ c) +ℤ (b *ℤ c)
  pub product_neg : (a b : ℤ) → neg_ℤ a *ℤ b ≡ neg_ℤ (a *ℤ b)

-- where the normal form of the difference of two expressions is empty, they are equal at every list of values
abbrev pub Solver : Type 0
Solver = (ρ : List ℤ) (e f : Expr) → normal (e ⊖ f) ≡ none → eval ρ e ≡ eval ρ f

-- signs of sums and products, and a factor put to an order and taken away from it
pub record SignRules : Type 0 where
  pub cases : (z : ℤ) → (z <ℤ pos 0) ⊎ (z ≡ pos 0) ⊎ (pos 0 <ℤ z)
  pub sum≥0 : (a b : ℤ) → pos 0 ≤ℤ a → pos 0 ≤ℤ b → pos 0 ≤ℤ (a +ℤ b)
  pub sum>0 : (a b : ℤ) → pos 0 <ℤ a → pos 0 ≤ℤ b → pos 0 <ℤ (a +ℤ b)
  pub product≥0 : (a b : ℤ) → pos 0 ≤ℤ a → pos 0 ≤ℤ b → pos 0 ≤ℤ (a *ℤ b)
  pub product>0 : (a b : ℤ) → pos 0 <ℤ a → pos 0 <ℤ b → pos 0 <ℤ (a *ℤ b)
  pub product<0 : (a b : ℤ) → pos 0 <ℤ a → b <ℤ pos 0 → (a *ℤ b) <ℤ pos 0
  pub square≥0 : (a : ℤ) → pos 0 ≤ℤ (a *ℤ a)
  pub times-≤ : (a b c : ℤ) → a ≤ℤ b → pos 0 ≤ℤ c → (a *ℤ c) ≤ℤ (b *ℤ c)
  pub times-< : (a b c : ℤ) → a <ℤ b → pos 0 <ℤ c → (a *ℤ c) <ℤ (b *ℤ c)
  pub untimes-≤ : (a b c : ℤ) → pos 0 <ℤ c → (a *ℤ c) ≤ℤ (b *ℤ c) → a ≤ℤ b
  pub untimes-< : (a b c : ℤ) → pos 0 ≤ℤ c → (a *ℤ c) <ℤ (b *ℤ c) → a <ℤ b
  pub untimes-≡ : (a b c : ℤ) → pos 0 <ℤ c → a *ℤ c ≡ b *ℤ c → a ≡ b

-- sums, differences and products of numbers of which the ranges are known; what is in a range that a width has room for fits that width
pub record Intervals : Type 0 where
  pub sum : (a b : ℤ) (l h m k : ℕ) → Range l h a → Range m k b → Range (l + m) (h + k) (a +ℤ b)
  pub difference : (a b : ℤ) (l h m k : ℕ) → Range l h a → Range m k b → Range (l + k) (h + m) (a -ℤ b)
  pub product : (a b : ℤ) (l h m k : ℕ) → Range l h a → Range m k b → Range (max l h * max m k) (max l h * max m k) (a *ℤ b)
  pub fits : (w : Width) (z : ℤ) (l h : ℕ) → Range l h z → T (room w l h) → FitsSigned w z

-- ---- forms at places

-- the side of a line that a place lies on is the value of the line's form
abbrev pub SideIsForm : Type 0
SideIsForm = (a b : Corner) (p : Place) → side a b p ≡ value (line a b) p

-- a form's value on a stretch is between those at its ends, in the parts gone and to go
abbrev pub Interpolation : Type 0
Interpolation = (f : Form) (p q : Place) (t u : ℕ) → value f (between p q t u) ≡ (value f p *ℤ pos (q.w * u)) +ℤ (value f q *ℤ pos (p.w * t))

-- a form's value at a place that is moved
abbrev pub Moved : Type 0
Moved = (f : Form) (p r : Place) → value f (plus p r) ≡ (value f p *ℤ pos r.w) +ℤ (((f.a *ℤ r.x) +ℤ (f.b *ℤ r.y)) *ℤ pos p.w)

-- the negated form has the negated value
abbrev pub Negation : Type 0
Negation = (f : Form) (p : Place) → value (negated f) p ≡ neg_ℤ (value f p)

-- the sign of a form along a stretch, for every pattern of signs at its ends
abbrev pub SignAlong : Type 0
SignAlong = (f : Form) (p q : Place) (t u : ℕ) → 0 < p.w → 0 < q.w → Along (value f p) (value f q) (value f (between p q t u)) t u

-- a stretch begins at p and ends at q, is the same from q to p, and what lies between two of its places lies on it
pub record Stretch : Type 0 where
  pub start : (p q : Place) (u : ℕ) → Same (between p q 0 u) p
  pub finish : (p q : Place) (t : ℕ) → Same (between p q t 0) q
  pub back : (p q : Place) (t u : ℕ) → between q p u t ≡ between p q t u
  pub real : (p q : Place) (t u : ℕ) → 0 < p.w → 0 < q.w → 0 < t + u → 0 < (between p q t u).w
  pub part : (p q : Place) (t u v w r s : ℕ) →
      Same (between (between p q t u) (between p q v w) r s) (between p q (v * (t + u) * r + t * (v + w) * s) (w * (t + u) * r + u * (v + w) * s))

-- a form that comes down to 0 or below on a stretch is 0 at a place of it
abbrev pub ComesDown : Type 0
ComesDown = (f : Form) (p q : Place) → 0 < p.w → 0 < q.w → pos 0 ≤ℤ value f p → value f q ≤ℤ pos 0 → ((value f p ≡ pos 0) × (value f q ≡ pos 0) → ⊥) → Crosses f p q

-- and so is one that goes up
abbrev pub GoesUp : Type 0
GoesUp = (f : Form) (p q : Place) → 0 < p.w → 0 < q.w → value f p ≤ℤ pos 0 → pos 0 ≤ℤ value f q → ((value f p ≡ pos 0) × (value f q ≡ pos 0) → ⊥) → Crosses f p q

pub record Crossing : Type 0 where
  pub down : ComesDown
  pub up : GoesUp

-- ---- the plane

-- a place is put together from a triangle's corners by the sides of the triangle that it lies on
abbrev pub Triangle : Type 0
Triangle = (a b c : Corner) (p : Place) → Weights (side b c p) (side c a p) (side a b p) (side a b (at c)) a b c p

-- a vector n is put together from two others, and a product of two crosses from two more
pub record ThreeVectors : Type 0 where
  pub x : (ux uy vx vy nx ny : ℤ) → cross ux uy vx vy *ℤ nx ≡ (cross nx ny vx vy *ℤ ux) +ℤ (cross ux uy nx ny *ℤ vx)
  pub y : (ux uy vx vy nx ny : ℤ) → cross ux uy vx vy *ℤ ny ≡ (cross nx ny vx vy *ℤ uy) +ℤ (cross ux uy nx ny *ℤ vy)
  pub product : (fx fy gx gy ex ey zx zy : ℤ) →
      cross fx fy gx gy *ℤ cross ex ey zx zy ≡ (cross fx fy ex ey *ℤ cross gx gy zx zy) +ℤ (cross ex ey gx gy *ℤ cross fx fy zx zy)

-- to be the same place is an equivalence among places with w above 0, and a form has the same sign at both
pub record SamePlace : Type 0 where
  pub reflexive : (p : Place) → Same p p
  pub symmetric : (p q : Place) → Same p q → Same q p
  pub transitive : (p q r : Place) → 0 < q.w → Same p q → Same q r → Same p r
  pub scaled : (f : Form) (p q : Place) → Same p q → value f p *ℤ pos q.w ≡ value f q *ℤ pos p.w
  pub signs : (f : Form) (p q : Place) → 0 < p.w → 0 < q.w → Same p q → SameSign (value f p) (value f q)

-- ---- shapes

-- what a shape covers is convex, and so is its inside: a stretch with one end inside and the other covered is inside up to that other
pub record Convexity : Type 0 where
  pub covers : (s : Shape) (p q : Place) (t u : ℕ) → 0 < p.w → 0 < q.w → Covers s p → Covers s q → Covers s (between p q t u)
  pub starts : (s : Shape) (p q : Place) (t u : ℕ) → 0 < p.w → 0 < q.w → Inside s p → Covers s q → 0 < u → Inside s (between p q t u)
  pub ends : (s : Shape) (p q : Place) (t u : ℕ) → 0 < p.w → 0 < q.w → Covers s p → Inside s q → 0 < t → Inside s (between p q t u)

-- what is said of a place here is said of the same place written otherwise
pub record SameStanding : Type 0 where
  pub inside : (s : Shape) (p q : Place) → 0 < p.w → 0 < q.w → Same p q → Inside s p → Inside s q
  pub covers : (s : Shape) (p q : Place) → 0 < p.w → 0 < q.w → Same p q → Covers s p → Covers s q
  pub moved : (p q r : Place) → Same p q → Same (plus p r) (plus q r)
  pub meets : (load thing : Shape) (p q : Place) → 0 < p.w → 0 < q.w → Same p q → Meets load thing p → Meets load thing q
  pub free : (h : Hall) (p q : Place) → 0 < q.w → Same p q → Free h p → Free h q

-- a stretch that is free is free at its start, the other way, and so at its end, and between any two of its places
pub record Straightness : Type 0 where
  pub start : (h : Hall) (p q : Place) → Straight h p q → Free h p
  pub back : (h : Hall) (p q : Place) → Straight h p q → Straight h q p
  pub part : (h : Hall) (p q : Place) (t u v w : ℕ) → 0 < t + u → 0 < v + w → Straight h p q → Straight h (between p q t u) (between p q v w)
