-- A straight stretch against a shape. Assumes nothing: these are definitions and a statement, proved in proofs/.
use Rattle.std.specs.Prelude.{ℕ, ◌+◌, ◌<◌, ◌⊎◌, length, pos, ◌*ℤ◌, ◌≤ℤ◌, ◌<ℤ◌}
use Rattle.algebra.specs.Hall.{Place, Shape, Inside, edge, between}

-- some place of the stretch from p to q is inside
pub record Enters (g : Shape) (p q : Place) : Type 0 where
  pub t : ℕ
  pub u : ℕ
  pub some : 0 < t + u
  pub inside : Inside g (between p q t u)

-- no place of it is
abbrev pub Passes : Shape → Place → Place → Type 0
Passes g p q = Enters g p q → ⊥

-- side i has neither end to its left
pub record Outside (g : Shape) (p q : Place) : Type 0 where
  pub i : ℕ
  pub within : i < length g
  pub from : edge g i p ≤ℤ pos 0
  pub to : edge g i q ≤ℤ pos 0

-- the left of side i is left no later than that of side j is entered
pub record Parted (g : Shape) (p q : Place) : Type 0 where
  pub i : ℕ
  pub j : ℕ
  pub i_within : i < length g
  pub j_within : j < length g
  pub i_from : pos 0 <ℤ edge g i p
  pub i_to : edge g i q ≤ℤ pos 0
  pub j_from : edge g j p ≤ℤ pos 0
  pub j_to : pos 0 <ℤ edge g j q
  pub late : (edge g i p *ℤ edge g j q) ≤ℤ (edge g j p *ℤ edge g i q)

-- A stretch has a place inside, or a side or two show that it has none.
pub record Settled (g : Shape) (p q : Place) : Type 0 where
  pub cases : Enters g p q ⊎ (Outside g p q ⊎ Parted g p q)
  pub outside : Outside g p q → Passes g p q
  pub parted : Parted g p q → Passes g p q

abbrev pub StretchSettled : Type 0
StretchSettled = (g : Shape) (p q : Place) → 0 < p.w → 0 < q.w → Settled g p q
