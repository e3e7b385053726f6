-- Where no corner is passed, the same sides stay over the abscissa, and what is spanned was spanned before. Assumes nothing.
use Rattle.std.proofs.Common.{ℕ, ◌<◌, length, pos, ◌*ℤ◌, ◌≤ℤ◌, arith}
use borrow.Author.Differences.{ints}
use Rattle.std.proofs.lemmas.Int.{by_lt_z}
use Rattle.algebra.specs.Hall.{Place, Shape, corner, next, between}
use Rattle.algebra.specs.Forms.{Form, value}
use Rattle.algebra.proofs.Forms.{sign_along}
use Rattle.obstacle.specs.Section.{Spans}
use Rattle.obstacle.proofs.Cycle.{next_below}
use Rattle.ledge.specs.Heights.{Uprights, upright}
use Rattle.ledge.specs.Sides.{LowerOver, UpperOver}
use Rattle.ledge.specs.Surfaces.{Steady}

-- no corner of the shape is passed from p to q
abbrev pub AllCorners : Shape → Place → Place → Type 0
AllCorners g p q = (j : ℕ) → j < length g → Steady (upright (corner g j)) p q

-- ---- a steady stretch is steady up to each of its places, and back from those short of its end
module _ (f : Form) (m p : Place) (t u : ℕ) (wm : 0 < m.w) (wp : 0 < p.w) (steady : Steady f m p) where
  pub steady_to : Steady f m (between m p t u)
  steady_to =
      let a = sign_along f m p t u wm wp in
      record { up = λ h. a.stays≥0 h (steady.up h); down = λ h. a.stays≤0 h (steady.down h) }

  pub steady_from : 0 < u → Steady f (between m p t u) m
  steady_from short =
      let a = sign_along f m p t u wm wp in
      record {
        up = λ h. by_lt_z (value f m) (pos 0) (λ n. absurd (omega (arith, ints, a.starts<0 n (steady.down (omega (arith, ints))) short))) (λ n. n);
        down = λ h. by_lt_z (pos 0) (value f m) (λ n. absurd (omega (arith, ints, a.starts>0 n (steady.up (omega (arith, ints))) short))) (λ n. n);
      }

-- ---- sides over an abscissa
module _ (uprights : Uprights) (g : Shape) (p q : Place) (corners : AllCorners g p q) where
  -- what is at or to the right of corner j stays so, and what is at or to the left
  right_stays : (j : ℕ) → j < length g → ((corner g j).x *ℤ pos p.w) ≤ℤ p.x → ((corner g j).x *ℤ pos q.w) ≤ℤ q.x
  right_stays j n h = omega (arith, ints, uprights.values (corner g j) q, (corners j n).up (omega (arith, ints, uprights.values (corner g j) p)))

  left_stays : (j : ℕ) → j < length g → p.x ≤ℤ ((corner g j).x *ℤ pos p.w) → q.x ≤ℤ ((corner g j).x *ℤ pos q.w)
  left_stays j n h = omega (arith, ints, uprights.values (corner g j) q, (corners j n).down (omega (arith, ints, uprights.values (corner g j) p)))

  pub lower_stays : (i : ℕ) → LowerOver g i p → LowerOver g i q
  lower_stays i l =
      record {
        within = l.within;
        runs = l.runs;
        from = right_stays i l.within l.from;
        to = left_stays (next (length g) i) (next_below (length g) i l.within) l.to;
      }

  pub upper_stays : (i : ℕ) → UpperOver g i p → UpperOver g i q
  upper_stays i l =
      let n = l.upper.within in
      record {
        upper = l.upper;
        from = right_stays (next (length g) i) (next_below (length g) i n) l.from;
        to = left_stays i n l.to;
      }

  pub spans_before : Spans g q → Spans g p
  spans_before s =
      record {
        i = s.i;
        j = s.j;
        i_within = s.i_within;
        j_within = s.j_within;
        left = by_lt_z ((corner g s.i).x *ℤ pos p.w) p.x (λ n. n) (λ n. absurd (omega (arith, ints, left_stays s.i s.i_within n, s.left)));
        right = by_lt_z p.x ((corner g s.j).x *ℤ pos p.w) (λ n. n) (λ n. absurd (omega (arith, ints, right_stays s.j s.j_within n, s.right)));
      }
