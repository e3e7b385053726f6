-- Equations between polynomials over the integers, proved by computing: with the list ρ of what both sides are made of, in any order,
--     by_ring ρ (search forms depth 60 fits 99999) refl
-- `search` reads both sides into expressions over ρ, and `refl` says that their difference, multiplied out and sorted, is empty. A refusal of `refl`
-- shows what is left of it, by the numbers in ρ; "no proof of Readings" says that ρ lacks something. A natural under `pos` is read through
-- `+`, `*`, `suc` and numerals, so that ρ has `pos n`. Assumes nothing.
use Rattle.std.proofs.Common.{◌≡◌, ℕ, zero, suc, ◌+◌, ◌*◌, Bool, true, List, [], ◌∷◌, ℤ, pos, negsuc, ◌+ℤ◌, ◌-ℤ◌, ◌*ℤ◌, neg_ℤ, sym, refl, ap, ◌∙◌, ap₂, add-one, arith}
use Prim.Native.Nat.{compare, Ordering}
use native.Mathlib.Omega.{compare-eq}
use lib.IntN.{+ℤ_idl, +ℤ_idr}
use borrow.Author.Differences.{ints}
use Rattle.algebra.specs.Polynomials.{Expr, var, con, ◌⊕◌, ◌⊖◌, ◌⊗◌, neg, nth, eval, Sum, none, more, monomial, total, pick, insert, join, order, keep, merge, add, scale, multiply, minus, normal}
use Rattle.algebra.specs.Laws.{Solver}
use Rattle.algebra.proofs.Ring.{*ℤ-+ℤ, +ℤ-*ℤ, *ℤ-assoc, *ℤ-one, one-*ℤ, zero-*ℤ, *ℤ-zero, *ℤ-left_comm, minus_one-*ℤ}

-- ---- the normal form has the expression's value
order_same : (m n : List ℕ) → order m n ≡ Ordering.eq → m ≡ n
order_same [] [] e = refl
order_same [] (j ∷ n) e = cc
order_same (i ∷ m) [] e = cc
order_same (i ∷ m) (j ∷ n) e = go (compare i j) refl e (order_same m n)
  where
    go : (o : Ordering) → compare i j ≡ o → pick o Ordering.lt (order m n) Ordering.gt ≡ Ordering.eq → (order m n ≡ Ordering.eq → m ≡ n) → i ∷ m ≡ j ∷ n
    go Ordering.lt f e h = cc
    go Ordering.eq f e h = ap₂ ◌∷◌ (compare-eq i j f) (h e)
    go Ordering.gt f e h = cc

cross_over : (a b c d : ℤ) → (a *ℤ b) *ℤ (c *ℤ d) ≡ (a *ℤ c) *ℤ (b *ℤ d)
cross_over a b c d = *ℤ-assoc a b (c *ℤ d) ∙ ap (λ (x : ℤ). a *ℤ x) (*ℤ-left_comm b c d) ∙ sym (*ℤ-assoc a c (b *ℤ d))

module _ (ρ : List ℤ) where
  insert_is : (i : ℕ) (m : List ℕ) → monomial ρ (insert i m) ≡ nth ρ i *ℤ monomial ρ m
  insert_is i [] = refl
  insert_is i (j ∷ m) = go (compare i j) (insert_is i m)
    where
      go : (o : Ordering) → monomial ρ (insert i m) ≡ nth ρ i *ℤ monomial ρ m → monomial ρ (pick o (i ∷ j ∷ m) (i ∷ j ∷ m) (j ∷ insert i m)) ≡ nth ρ i *ℤ (nth ρ j *ℤ monomial ρ m)
      go Ordering.lt h = refl
      go Ordering.eq h = refl
      go Ordering.gt h = ap (λ (x : ℤ). nth ρ j *ℤ x) h ∙ *ℤ-left_comm (nth ρ j) (nth ρ i) (monomial ρ m)

  join_is : (m n : List ℕ) → monomial ρ (join m n) ≡ monomial ρ m *ℤ monomial ρ n
  join_is [] n = sym (one-*ℤ (monomial ρ n))
  join_is (i ∷ m) n = insert_is i (join m n) ∙ ap (λ (x : ℤ). nth ρ i *ℤ x) (join_is m n) ∙ sym (*ℤ-assoc (nth ρ i) (monomial ρ m) (monomial ρ n))

  keep_is : (c : ℤ) (m : List ℕ) (p : Sum) → total ρ (keep c m p) ≡ (c *ℤ monomial ρ m) +ℤ total ρ p
  keep_is (pos zero) m p = sym (ap (λ (x : ℤ). x +ℤ total ρ p) (zero-*ℤ (monomial ρ m)) ∙ +ℤ_idl (total ρ p))
  keep_is (pos (suc k)) m p = refl
  keep_is (negsuc k) m p = refl

  scale_is : (c : ℤ) (m : List ℕ) (q : Sum) → total ρ (scale c m q) ≡ (c *ℤ monomial ρ m) *ℤ total ρ q
  scale_is c m none = sym (*ℤ-zero (c *ℤ monomial ρ m))
  scale_is c m (more d n q) =
      ap₂ ◌+ℤ◌ (ap (λ (x : ℤ). (c *ℤ d) *ℤ x) (join_is m n) ∙ cross_over c d (monomial ρ m) (monomial ρ n)) (scale_is c m q) ∙ sym (*ℤ-+ℤ (c *ℤ monomial ρ m) (d *ℤ monomial ρ n) (total ρ q))

  merge_is : (c : ℤ) (m : List ℕ) (p : Sum) (rest : Sum → Sum) → ((q : Sum) → total ρ (rest q) ≡ total ρ p +ℤ total ρ q) → (q : Sum) → total ρ (merge c m p rest q) ≡ total ρ (more c m p) +ℤ total ρ q
  merge_is c m p rest h none = sym (+ℤ_idr (total ρ (more c m p)))
  merge_is c m p rest h (more d n q) = go (order m n) refl (merge_is c m p rest h q)
    where
      go : (o : Ordering) → order m n ≡ o → total ρ (merge c m p rest q) ≡ total ρ (more c m p) +ℤ total ρ q →
          total ρ (pick o (more c m (rest (more d n q))) (keep (c +ℤ d) m (rest q)) (more d n (merge c m p rest q))) ≡ total ρ (more c m p) +ℤ total ρ (more d n q)
      go Ordering.lt e ih = omega (arith, ints, h (more d n q))
      go Ordering.eq e ih =
          let same : d *ℤ monomial ρ m ≡ d *ℤ monomial ρ n = ap (λ (k : List ℕ). d *ℤ monomial ρ k) (order_same m n e) in
          omega (arith, ints, keep_is (c +ℤ d) m (rest q), h q, +ℤ-*ℤ c d (monomial ρ m))
      go Ordering.gt e ih = omega (arith, ints, ih)

  add_is : (p q : Sum) → total ρ (add p q) ≡ total ρ p +ℤ total ρ q
  add_is none q = sym (+ℤ_idl (total ρ q))
  add_is (more c m p) q = merge_is c m p (add p) (add_is p) q

  multiply_is : (p q : Sum) → total ρ (multiply p q) ≡ total ρ p *ℤ total ρ q
  multiply_is none q = sym (zero-*ℤ (total ρ q))
  multiply_is (more c m p) q =
      add_is (scale c m q) (multiply p q) ∙ ap₂ ◌+ℤ◌ (scale_is c m q) (multiply_is p q) ∙ sym (+ℤ-*ℤ (c *ℤ monomial ρ m) (total ρ p) (total ρ q))

  minus_is : (p : Sum) → total ρ (minus p) ≡ neg_ℤ (total ρ p)
  minus_is p = scale_is (negsuc 0) [] p ∙ minus_one-*ℤ (total ρ p)

  normal_is : (e : Expr) → eval ρ e ≡ total ρ (normal e)
  normal_is (var i) = omega (arith, ints)
  normal_is (con c) = sym (keep_is c [] none ∙ +ℤ_idr (c *ℤ pos 1) ∙ *ℤ-one c)
  normal_is (a ⊕ b) = ap₂ ◌+ℤ◌ (normal_is a) (normal_is b) ∙ sym (add_is (normal a) (normal b))
  normal_is (a ⊖ b) = ap₂ ◌-ℤ◌ (normal_is a) (normal_is b) ∙ sym (add_is (normal a) (minus (normal b)) ∙ ap (λ (x : ℤ). total ρ (normal a) +ℤ x) (minus_is (normal b)))
  normal_is (a ⊗ b) = ap₂ ◌*ℤ◌ (normal_is a) (normal_is b) ∙ sym (multiply_is (normal a) (normal b))
  normal_is (neg a) = ap neg_ℤ (normal_is a) ∙ sym (minus_is (normal a))

pub solver : Solver
solver ρ e f h = let d : eval ρ e -ℤ eval ρ f ≡ pos 0 = normal_is ρ (e ⊖ f) ∙ ap (total ρ) h in omega (arith, ints)

-- ---- reading: the expressions need not be written, `search forms` finds them
pub data Has : List ℤ → ℤ → Type 0 where
  here : {x : ℤ} {ρ : List ℤ} → Has (x ∷ ρ) x
  there : {x y : ℤ} {ρ : List ℤ} → Has ρ x → Has (y ∷ ρ) x

abbrev pub number : {ρ : List ℤ} {x : ℤ} → Has ρ x → ℕ
number here = 0
number (there h) = suc (number h)

pub number_is : {ρ : List ℤ} {x : ℤ} (h : Has ρ x) → nth ρ (number h) ≡ x
number_is here = refl
number_is (there h) = number_is h

-- z is the value of an expression over ρ
pub record Reading (ρ : List ℤ) (z : ℤ) : Type 0 where
  pub expr : Expr
  pub is : eval ρ expr ≡ z

pub record Readings (ρ : List ℤ) (x y : ℤ) : Type 0 where
  pub left : Reading ρ x
  pub right : Reading ρ y

abbrev pub read_both : {ρ : List ℤ} {x y : ℤ} → Reading ρ x → Reading ρ y → Readings ρ x y
read_both f g = record { left = f; right = g }

abbrev pub read_sum : {ρ : List ℤ} (x y : ℤ) → Reading ρ x → Reading ρ y → Reading ρ (x +ℤ y)
read_sum x y f g = record { expr = f.expr ⊕ g.expr; is = ap₂ ◌+ℤ◌ f.is g.is }

abbrev pub read_product : {ρ : List ℤ} (x y : ℤ) → Reading ρ x → Reading ρ y → Reading ρ (x *ℤ y)
read_product x y f g = record { expr = f.expr ⊗ g.expr; is = ap₂ ◌*ℤ◌ f.is g.is }

abbrev pub read_neg : {ρ : List ℤ} (x : ℤ) → Reading ρ x → Reading ρ (neg_ℤ x)
read_neg x f = record { expr = neg f.expr; is = ap neg_ℤ f.is }

abbrev pub read_atom : {ρ : List ℤ} {x : ℤ} → Has ρ x → Reading ρ x
read_atom h = record { expr = var (number h); is = number_is h }

-- naturals under `pos`: a sum, a product, a successor and a numeral
abbrev pub read_plus : {ρ : List ℤ} (m n : ℕ) → Reading ρ (pos m) → Reading ρ (pos n) → Reading ρ (pos (m + n))
read_plus m n f g = read_sum (pos m) (pos n) f g

abbrev pub read_times : {ρ : List ℤ} (m n : ℕ) → Reading ρ (pos m) → Reading ρ (pos n) → Reading ρ (pos (m * n))
read_times m n f g = read_product (pos m) (pos n) f g

abbrev pub read_suc : {ρ : List ℤ} (n : ℕ) → Reading ρ (pos n) → Reading ρ (pos (suc n))
read_suc n f = record { expr = f.expr ⊕ con (pos 1); is = ap (λ (x : ℤ). x +ℤ pos 1) f.is ∙ ap pos (add-one n) }

-- true where n in `compare n 0` is a numeral, and stuck where it is not, so that `search` takes only numerals for constants
abbrev pub known : Ordering → Bool
known Ordering.lt = true
known Ordering.eq = true
known Ordering.gt = true

abbrev pub read_pos : {ρ : List ℤ} (n : ℕ) → known (compare n 0) ≡ true → Reading ρ (pos n)
read_pos n k = record { expr = con (pos n); is = refl }

abbrev pub read_negsuc : {ρ : List ℤ} (n : ℕ) → known (compare n 0) ≡ true → Reading ρ (negsuc n)
read_negsuc n k = record { expr = con (negsuc n); is = refl }

-- in this order: `search` takes the first that serves
pub ruleset forms = (read_both, read_sum, read_product, read_neg, read_times, read_plus, read_atom, here, there, read_pos, read_negsuc, read_suc)

pub by_ring : (ρ : List ℤ) {x y : ℤ} (f : Readings ρ x y) → normal (f.left.expr ⊖ f.right.expr) ≡ none → x ≡ y
by_ring ρ f h = sym f.left.is ∙ solver ρ f.left.expr f.right.expr h ∙ f.right.is
