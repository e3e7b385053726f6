-- The triangles from corner 0 cover what a sound shape covers, so a form that is not below 0 at the corners is not below 0 there. Assumes nothing.
use Rattle.std.proofs.Common.{◌≡◌, ℕ, zero, suc, ◌+◌, ◌-◌, ◌<◌, length, pos, ◌≤ℤ◌, ◌<ℤ◌, subst, arith}
use borrow.Author.Differences.{ints}
use Rattle.std.proofs.lemmas.Int.{by_lt_z}
use Rattle.algebra.specs.Hall.{Place, Shape, Sound, Covers, at, side, corner, next, edge}
use Rattle.algebra.specs.Forms.{value}
use Rattle.algebra.proofs.Order.{signs, factor≥0}
use Rattle.obstacle.specs.Convex.{InFan, Fan, Supports}
use Rattle.obstacle.proofs.Cycle.{next_inner, next_last}
use Rattle.obstacle.proofs.Mixed.{mixed, side_turn, side_back}
use Rattle.obstacle.proofs.Strict.{strictly_side}

-- a side with its end's number known
pub covered_side : (s : Shape) (p : Place) → Covers s p → (i j : ℕ) → i < length s → next (length s) i ≡ j → pos 0 ≤ℤ side (corner s i) (corner s j) p
unfolding Covers edge
covered_side s p covers i j hi e = subst (λ (k : ℕ). pos 0 ≤ℤ side (corner s i) (corner s k) p) e (covers i hi)

module _ (s : Shape) (p : Place) (sound : Sound s) (covers : Covers s p) where
  area : (k : ℕ) → 0 < k → k + 1 < length s → pos 0 <ℤ side (corner s 0) (corner s k) (at (corner s (k + 1)))
  area k first last =
      let e : next (length s) k ≡ k + 1 = next_inner (length s) k last in
      let h = strictly_side s sound k 0 (omega arith) (omega arith) (λ z. omega arith) (λ z. omega arith) in
      rw side_turn (subst (λ (j : ℕ). pos 0 <ℤ side (corner s k) (corner s j) (at (corner s 0))) e h)

  here : (k : ℕ) → 0 < k → k + 1 < length s → pos 0 ≤ℤ side (corner s 0) (corner s k) p → pos 0 ≤ℤ side (corner s (k + 1)) (corner s 0) p → InFan s p
  here k first last out back =
      record {
        k = k;
        first = first;
        last = last;
        area = area k first last;
        out = out;
        far = covered_side s p covers k (k + 1) (omega arith) (next_inner (length s) k last);
        back = back;
      }

  -- from k on: the first triangle of which p is not beyond the far corner
  walk : (m k : ℕ) → 0 < k → k + 2 + m ≡ length s → pos 0 ≤ℤ side (corner s 0) (corner s k) p → InFan s p
  walk zero k first l out = here k first (omega arith) out (covered_side s p covers (k + 1) 0 (omega arith) (next_last (length s) (k + 1) (omega arith)))
  walk (suc m) k first l out =
      by_lt_z (side (corner s 0) (corner s (k + 1)) p) (pos 0)
      (λ h. here k first (omega arith) out (omega (arith, ints, side_back (corner s (k + 1)) (corner s 0) p)))
      (λ h. walk m (k + 1) (omega arith) (omega arith) h)

pub fan : Fan
fan s p sound real covers =
    let m = sound.many in
    walk s p sound covers (length s - 3) 1 (omega arith) (omega arith) (covered_side s p covers 0 1 (omega arith) (next_inner (length s) 0 (omega arith)))

pub supports : Supports
supports s f p sound real corners covers =
    let t = fan s p sound real covers in
    let out = t.out in
    let far = t.far in
    let back = t.back in
    let last = t.last in
    let a = corners 0 (omega arith) in
    let b = corners t.k (omega arith) in
    let c = corners (t.k + 1) last in
    factor≥0 (side (corner s 0) (corner s t.k) (at (corner s (t.k + 1)))) (value f p) t.area
    (rw (mixed (corner s 0) (corner s t.k) (corner s (t.k + 1)) f p) (search signs depth 12 fits 5000))
