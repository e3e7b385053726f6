-- Numbers as code has them, to their bits and back: the number that each is, and its range, found by computing. So an overflow is ruled out by
--     by_size (search knows depth 60 fits 99999) tt        a sum, a difference or a product fits its type
--     by_value (search knows depth 60 fits 99999) refl     what the code computes is the same term without the bits
-- The bounds are found among the hypotheses and their fields: `Near m z`, `pos 0 ≤ℤ z` with `z ≤ℤ pos m`, `n ≤ m` of an unsigned number that is
-- cast, and of any other the bounds of its type. Assumes nothing.
use Rattle.std.proofs.Common.{◌≡◌, ℕ, suc, ◌+◌, ◌-◌, ◌*◌, ◌^◌, ◌≤◌, max, Bool, true, false, T, ℤ, pos, ◌+ℤ◌, ◌*ℤ◌, neg_ℤ, ◌≤ℤ◌, sym, refl, ap, ◌∙◌, subst, ap₂, arith, leb→le, Fits, SFits, to_z, of_z}
use Prim.Native.Nat.{compare}
use mir.Syntax.{Width}
use mir.Val.{bits, hbits}
use borrow.Author.Differences.{ints}
use Rattle.std.proofs.lemmas.Int.{to_z-of_z}
pub use Rattle.algebra.specs.Near.{Near, Range, room}
use Rattle.algebra.specs.Laws.{Intervals}
use Rattle.algebra.proofs.Polynomial.{known}
use Rattle.algebra.proofs.Order.{product-≤, product-≥}

-- ---- ranges of numbers that are put together
pub range_sum : (a b : ℤ) (l h m k : ℕ) → Range l h a → Range m k b → Range (l + m) (h + k) (a +ℤ b)
range_sum a b l h m k p q = record { least = omega (arith, ints); most = omega (arith, ints) }

pub range_neg : (a : ℤ) (l h : ℕ) → Range l h a → Range h l (neg_ℤ a)
range_neg a l h p = record { least = omega (arith, ints); most = omega (arith, ints) }

-- the farther end of the range, on both sides of 0
near : (a : ℤ) (l h : ℕ) → Range l h a → Near (max l h) a
near a l h p = record { low = omega (arith, ints); high = omega (arith, ints) }

pub range_product : (a b : ℤ) (l h m k : ℕ) → Range l h a → Range m k b → Range (max l h * max m k) (max l h * max m k) (a *ℤ b)
range_product a b l h m k p q =
    let c = near a l h p in
    let d = near b m k q in
    record { least = product-≥ a b (max l h) (max m k) c.low c.high d.low d.high; most = product-≤ a b (max l h) (max m k) c.low c.high d.low d.high }

pub range_fits : (w : Width) (z : ℤ) (l h : ℕ) → Range l h z → T (room w l h) → SFits w z
range_fits w z l h r t = let p : max l (suc h) ≤ 2 ^ hbits w = leb→le (max l (suc h)) (2 ^ hbits w) t in omega (arith, ints)

pub intervals : Intervals
intervals =
    record {
      sum = range_sum;
      difference = λ a b l h m k p q. range_sum a (neg_ℤ b) l h k m p (range_neg b m k q);
      product = range_product;
      fits = range_fits;
    }

-- ---- what is known of a term: the number that it is, and its range
pub record Known (z : ℤ) : Type 0 where
  pub value : ℤ
  pub low : ℕ
  pub high : ℕ
  pub same : z ≡ value
  pub range : Range low high value

-- a term that is taken as it stands
abbrev pub plain : (z : ℤ) (l h : ℕ) → Range l h z → Known z
plain z l h r = record { value = z; low = l; high = h; same = refl; range = r }

abbrev pub k_near : {m : ℕ} {z : ℤ} → Near m z → Known z
k_near {m} {z} h = plain z m m (record { least = h.low; most = h.high })

abbrev pub k_up : {m : ℕ} {z : ℤ} → z ≤ℤ pos m → pos 0 ≤ℤ z → Known z
k_up {m} {z} h k = plain z 0 m (record { least = k; most = h })

pub range_pos : (n m : ℕ) → n ≤ m → Range 0 m (pos n)
range_pos n m h = record { least = omega (arith, ints); most = omega (arith, ints) }

abbrev pub k_lit : (n : ℕ) → known (compare n 0) ≡ true → Known (pos n)
k_lit n e = plain (pos n) 0 n (range_pos n n (omega arith))

pub range_type : (w : Width) (z : ℤ) → SFits w z → Range (2 ^ hbits w) (2 ^ hbits w - 1) z
range_type w z h = record { least = omega (arith, ints); most = omega (arith, ints) }

abbrev pub k_type : {w : Width} {z : ℤ} → SFits w z → Known z
k_type {w} {z} h = plain z (2 ^ hbits w) (2 ^ hbits w - 1) (range_type w z h)

abbrev pub k_add : (a b : ℤ) → Known a → Known b → Known (a +ℤ b)
k_add a b h k =
    record {
      value = h.value +ℤ k.value;
      low = h.low + k.low;
      high = h.high + k.high;
      same = ap₂ ◌+ℤ◌ h.same k.same;
      range = range_sum h.value k.value h.low h.high k.low k.high h.range k.range;
    }

abbrev pub k_neg : (a : ℤ) → Known a → Known (neg_ℤ a)
k_neg a h = record { value = neg_ℤ h.value; low = h.high; high = h.low; same = ap neg_ℤ h.same; range = range_neg h.value h.low h.high h.range }

abbrev pub k_mul : (a b : ℤ) → Known a → Known b → Known (a *ℤ b)
k_mul a b h k =
    let m = max h.low h.high * max k.low k.high in
    record {
      value = h.value *ℤ k.value;
      low = m;
      high = m;
      same = ap₂ ◌*ℤ◌ h.same k.same;
      range = range_product h.value k.value h.low h.high k.low k.high h.range k.range;
    }

-- ---- to bits and back; the Bool says whether there is room, and where there is none the bounds of the type are left
pub range_read : (w : Width) (n : ℕ) → Range (2 ^ hbits w) (2 ^ hbits w) (to_z w n)
range_read w n = record { least = omega (arith, ints); most = omega (arith, ints) }

abbrev pub read : (w : Width) (n : ℕ) → Known (to_z w n)
read w n = plain (to_z w n) (2 ^ hbits w) (2 ^ hbits w) (range_read w n)

abbrev pub back : (w : Width) (z : ℤ) (k : Known z) (t : Bool) → (T t → T (room w k.low k.high)) → Known (to_z w (of_z w z))
back w z k true f =
    record {
      value = k.value;
      low = k.low;
      high = k.high;
      same = ap (λ (y : ℤ). to_z w (of_z w y)) k.same ∙ to_z-of_z w k.value (range_fits w k.value k.low k.high k.range (f tt));
      range = k.range;
    }
back w z k false f = read w (of_z w z)

abbrev pub k_back : (w : Width) (z : ℤ) → Known z → Known (to_z w (of_z w z))
k_back w z k = back w z k (room w k.low k.high) (λ t. t)

-- an unsigned number that is cast
pub cast_same : (w : Width) (n m : ℕ) → n ≤ m → T (room w 0 m) → to_z w n ≡ pos n
cast_same w n m h t = let p : max 0 (suc m) ≤ 2 ^ hbits w = leb→le (max 0 (suc m)) (2 ^ hbits w) t in omega (arith, ints)

abbrev pub cast : (w : Width) (n m : ℕ) → n ≤ m → (t : Bool) → (T t → T (room w 0 m)) → Known (to_z w n)
cast w n m h true f = record { value = pos n; low = 0; high = m; same = cast_same w n m h (f tt); range = range_pos n m h }
cast w n m h false f = read w n

abbrev pub k_cast : (w : Width) (n : ℕ) {m : ℕ} → n ≤ m → Known (to_z w n)
k_cast w n {m} h = cast w n m h (room w 0 m) (λ t. t)

pub fits-≤ : (v : Width) (n : ℕ) → Fits v n → n ≤ 2 ^ bits v
fits-≤ v n h = omega (arith, h.fits)

abbrev pub k_cast_type : (w : Width) (n : ℕ) {v : Width} → Fits v n → Known (to_z w n)
k_cast_type w n {v} h = k_cast w n (fits-≤ v n h)

-- in this order: `search` takes the first that serves
pub ruleset knows = (k_back, k_mul, k_add, k_neg, k_lit, k_near, k_up, k_cast, k_cast_type, k_type)

pub by_size : {w : Width} {z : ℤ} (k : Known z) → T (room w k.low k.high) → SFits w z
by_size {w} {z} k t = subst (SFits w) (sym k.same) (range_fits w k.value k.low k.high k.range t)

pub by_value : {z v : ℤ} (k : Known z) → k.value ≡ v → z ≡ v
by_value k e = k.same ∙ e
