-- The bound of a number, by computing it from what it is made of:
--     by_near (search knows depth 60 fits 99999) tt
-- Assumes nothing.
use Rattle.std.proofs.Common.{◌≡◌, ℕ, ◌≤◌, Bool, true, false, ◌&&◌, T, eqb, leb, ℤ, pos, ◌≤ℤ◌, ◌<ℤ◌, Decides, Ordering, Less, Equal, Greater, sym, refl, ap, ◌∙◌, subst, arith, leb→le, SFits, to_z, of_z}
use lib.Signed.{lt_z}
use mir.Syntax.{Width}
use borrow.Author.Differences.{ints}
use Rattle.std.specs.Ordering.{MatchOrdering}
use Rattle.std.proofs.lemmas.Int.{by_lt_z, to_z-of_z}
use Rattle.std.proofs.lemmas.Bool.{both_ways, eqb-true, eq-eqb}
use Rattle.algebra.specs.Near.{Near}
use Rattle.algebra.proofs.Ranges.{Known, range_pos, room, k_near, by_size}
use Rattle.exact.specs.declared.points.Place.{Place}
use Rattle.exact.specs.declared.points.Side.{Side}
use Rattle.exact.specs.Sides.{SideNear, PlaceNear}

both : (s t : Bool) → T (s && t) → T s × T t
both true true h = (tt, tt)
both true false h = absurd h
both false t h = absurd h

pub by_near : {m : ℕ} {z : ℤ} (k : Known z) → T (leb k.low m && leb k.high m) → Near m z
by_near {m} {z} k t =
    let b = both (leb k.low m) (leb k.high m) t in
    let l : k.low ≤ m = leb→le k.low m b.0 in
    let h : k.high ≤ m = leb→le k.high m b.1 in
    subst (Near m) (sym k.same) (record { low = omega (arith, ints, k.range.least); high = omega (arith, ints, k.range.most) })

-- a natural number below a bound
abbrev pub k_pos : {n m : ℕ} → n ≤ m → Known (pos n)
k_pos {n} {m} h = record { value = pos n; low = 0; high = m; same = refl; range = range_pos n m h }

pub wider : {m n : ℕ} {z : ℤ} → Near m z → T (leb m n) → Near n z
wider {m} {n} {z} h t = let l : m ≤ n = leb→le m n t in record { low = omega (arith, ints); high = omega (arith, ints) }

pub place_wider : {m n i j : ℕ} {p : Place} → PlaceNear m n p → T (leb m i) → T (leb n j) → PlaceNear i j p
place_wider {m} {n} {i} {j} {p} h s t = record { x = wider h.x s; y = wider h.y s; real = h.real; most = let l : n ≤ j = leb→le n j t in omega (arith, h.most) }

-- the ends of a side are near by its type
pub side_near : (s : Side) → SideNear 2047 s
side_near s = record { from = s.starts; to = s.ends }

-- tests that came out false
pub not_above : (r : Bool) (z : ℤ) → Decides r (pos 0 <ℤ z) → r ≡ false → z ≤ℤ pos 0
not_above r z d e = by_lt_z (pos 0) z (λ h. absurd (both_ways r e (d.1 h))) (λ h. h)

pub zero_between : (z : ℤ) → lt_z z (pos 0) ≡ false → lt_z (pos 0) z ≡ false → z ≡ pos 0
zero_between z h k = grind (arith, ints)

-- a number that goes to its bits and back
pub kept : (w : Width) (z : ℤ) {m : ℕ} → Near m z → T (room w m m) → to_z w (of_z w z) ≡ z
kept w z h t = to_z-of_z w z (by_size (k_near h) t)

-- what `cmp` found of two numbers, as the code has them
pub ranked_at : (r : Ordering) (a b i j : ℤ) → MatchOrdering r (a <ℤ b) (a ≡ b) (b <ℤ a) → a ≡ i → b ≡ j → MatchOrdering r (i <ℤ j) (i ≡ j) (j <ℤ i)
ranked_at Less a b i j h e f = omega (arith, ints)
ranked_at Equal a b i j h e f = omega (arith, ints)
ranked_at Greater a b i j h e f = omega (arith, ints)

pub ranked_map : (r : Ordering) {P Q R S T U : Type 0} → MatchOrdering r P Q R → (P → S) → (Q → T) → (R → U) → MatchOrdering r S T U
ranked_map Less h f g k = f h
ranked_map Equal h f g k = g h
ranked_map Greater h f g k = k h

-- two numbers with the same bits are equal, and so is what `==` says of them
pub same_bits : (w : Width) (i j : ℤ) → SFits w i → SFits w j → of_z w i ≡ of_z w j → i ≡ j
same_bits w i j f g e = sym (to_z-of_z w i f) ∙ ap (to_z w) e ∙ to_z-of_z w j g

pub equal_bits : (w : Width) (a b i j : ℤ) → SFits w a → SFits w b → a ≡ i → b ≡ j → Decides (eqb (of_z w a) (of_z w b)) (i ≡ j)
equal_bits w a b i j f g e h = (
  λ t. sym e ∙ same_bits w a b f g (eqb-true (of_z w a) (of_z w b) t) ∙ h,
  λ t. eq-eqb (of_z w a) (of_z w b) (ap (of_z w) (e ∙ t ∙ sym h)),
)
