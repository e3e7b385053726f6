-- Polynomials over the integers as data, and how they are multiplied out and sorted, which decides whether two of them are equal.
-- Assumes nothing: these are definitions.
use Rattle.std.specs.Prelude.{ℕ, zero, suc, List, [], ◌∷◌, ℤ, pos, negsuc, ◌+ℤ◌, ◌-ℤ◌, ◌*ℤ◌, neg_ℤ}
use Prim.Native.Nat.{compare, Ordering}

-- ---- an expression over a list of values; `var i` is the value with number i, counted from 0
infixl 6 ◌⊕◌ ◌⊖◌
infixl 7 ◌⊗◌
pub data Expr : Type 0 where
  var : ℕ → Expr
  con : ℤ → Expr
  ◌⊕◌ : Expr → Expr → Expr
  ◌⊖◌ : Expr → Expr → Expr
  ◌⊗◌ : Expr → Expr → Expr
  neg : Expr → Expr

abbrev pub nth : List ℤ → ℕ → ℤ
nth [] i = pos 0
nth (x ∷ ρ) zero = x
nth (x ∷ ρ) (suc i) = nth ρ i

abbrev pub eval : List ℤ → Expr → ℤ
eval ρ (var i) = nth ρ i
eval ρ (con c) = c
eval ρ (a ⊕ b) = eval ρ a +ℤ eval ρ b
eval ρ (a ⊖ b) = eval ρ a -ℤ eval ρ b
eval ρ (a ⊗ b) = eval ρ a *ℤ eval ρ b
eval ρ (neg a) = neg_ℤ (eval ρ a)

-- ---- a normal form: a sum of monomials in order, each so many times; a monomial is the numbers of its factors, in order
pub data Sum : Type 0 where
  none : Sum
  more : ℤ → List ℕ → Sum → Sum

abbrev pub monomial : List ℤ → List ℕ → ℤ
monomial ρ [] = pos 1
monomial ρ (i ∷ m) = nth ρ i *ℤ monomial ρ m

abbrev pub total : List ℤ → Sum → ℤ
total ρ none = pos 0
total ρ (more c m p) = (c *ℤ monomial ρ m) +ℤ total ρ p

-- the first of three where the comparison says less, then equal, then greater
abbrev pub pick : {A : Type 0} → Ordering → A → A → A → A
pick Ordering.lt a b c = a
pick Ordering.eq a b c = b
pick Ordering.gt a b c = c

abbrev pub insert : ℕ → List ℕ → List ℕ
insert i [] = i ∷ []
insert i (j ∷ m) = pick (compare i j) (i ∷ j ∷ m) (i ∷ j ∷ m) (j ∷ insert i m)

-- the product of two monomials
abbrev pub join : List ℕ → List ℕ → List ℕ
join [] n = n
join (i ∷ m) n = insert i (join m n)

abbrev pub order : List ℕ → List ℕ → Ordering
order [] [] = Ordering.eq
order [] (j ∷ n) = Ordering.gt
order (i ∷ m) [] = Ordering.lt
order (i ∷ m) (j ∷ n) = pick (compare i j) Ordering.lt (order m n) Ordering.gt

-- a monomial in front, unless it is there 0 times
abbrev pub keep : ℤ → List ℕ → Sum → Sum
keep (pos zero) m p = p
keep (pos (suc k)) m p = more (pos (suc k)) m p
keep (negsuc k) m p = more (negsuc k) m p

-- the sum of `more c m p` and another, where `rest` adds p
abbrev pub merge : ℤ → List ℕ → Sum → (Sum → Sum) → Sum → Sum
merge c m p rest none = more c m p
merge c m p rest (more d n q) = pick (order m n) (more c m (rest (more d n q))) (keep (c +ℤ d) m (rest q)) (more d n (merge c m p rest q))

abbrev pub add : Sum → Sum → Sum
add none q = q
add (more c m p) q = merge c m p (add p) q

-- c times the monomial m times a sum
abbrev pub scale : ℤ → List ℕ → Sum → Sum
scale c m none = none
scale c m (more d n q) = more (c *ℤ d) (join m n) (scale c m q)

abbrev pub multiply : Sum → Sum → Sum
multiply none q = none
multiply (more c m p) q = add (scale c m q) (multiply p q)

abbrev pub minus : Sum → Sum
minus p = scale (negsuc 0) [] p

abbrev pub normal : Expr → Sum
normal (var i) = more (pos 1) (i ∷ []) none
normal (con c) = keep c [] none
normal (a ⊕ b) = add (normal a) (normal b)
normal (a ⊖ b) = add (normal a) (minus (normal b))
normal (a ⊗ b) = multiply (normal a) (normal b)
normal (neg a) = minus (normal a)
