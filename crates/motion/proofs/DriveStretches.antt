-- Stretches of a way: within the hall, free where no thing is met, and the same between the same places written otherwise. Assumes nothing.
use Rattle.std.proofs.Common.{◌≡◌, ℕ, ◌+◌, ◌*◌, ◌<◌, [], ◌∷◌, length, get_or, ℤ, pos, ◌+ℤ◌, ◌-ℤ◌, ◌*ℤ◌, ◌≤ℤ◌, refl, ap₂}
use Rattle.algebra.specs.Hall.{Place, Hall, Meets, Within, Free, between, Straight}
use Rattle.algebra.specs.Forms.{Same}
use Rattle.algebra.proofs.Polynomial.{forms, by_ring}
use Rattle.algebra.proofs.Order.{signs, by-≡, by-≤}
use Rattle.algebra.proofs.Forms.{stretch}
use Rattle.algebra.proofs.Places.{same_standing, straightness}

-- ---- a / m and b / n are not below 0, and at most k: so is what lies between them
module _ (a b : ℤ) (m n t u : ℕ) where
  not_below : pos 0 ≤ℤ a → pos 0 ≤ℤ b → pos 0 ≤ℤ (((a *ℤ pos n) *ℤ pos u) +ℤ ((b *ℤ pos m) *ℤ pos t))
  not_below h k = search signs

  at_most : (k : ℕ) → a ≤ℤ pos (k * m) → b ≤ℤ pos (k * n) → (((a *ℤ pos n) *ℤ pos u) +ℤ ((b *ℤ pos m) *ℤ pos t)) ≤ℤ pos (k * (m * n * (t + u)))
  at_most k h l =
      by-≤ (((pos (k * m) -ℤ a) *ℤ (pos n *ℤ pos u)) +ℤ ((pos (k * n) -ℤ b) *ℤ (pos m *ℤ pos t))) (search signs)
      (by_ring (a ∷ b ∷ pos m ∷ pos n ∷ pos t ∷ pos u ∷ pos k ∷ []) (search forms depth 60 fits 99999) refl)

pub within_between : (h : Hall) (p q : Place) (t u : ℕ) → Within h p → Within h q → Within h (between p q t u)
unfolding between
within_between h p q t u v w =
    record {
      left = not_below p.x q.x p.w q.w t u v.left w.left;
      right = at_most p.x q.x p.w q.w t u h.wide v.right w.right;
      low = not_below p.y q.y p.w q.w t u v.low w.low;
      high = at_most p.y q.y p.w q.w t u h.high v.high w.high;
    }

-- a stretch between places of the hall on which no thing is met
pub straight_from : (h : Hall) (p q : Place) → 0 < p.w → 0 < q.w → Within h p → Within h q →
    ((t u : ℕ) → 0 < t + u → (b : ℕ) → b < length h.things → Meets h.load (get_or h.things b []) (between p q t u) → ⊥) → Straight h p q
unfolding Straight
straight_from h p q wp wq v w clear t u n = record { real = stretch.real p q t u wp wq n; walls = within_between h p q t u v w; things = clear t u n }

-- ---- a / m is c / i and b / n is d / j: what lies between the first is what lies between the second
sum_same : (a b c d : ℤ) (m n i j t u : ℕ) → a *ℤ pos i ≡ c *ℤ pos m → b *ℤ pos j ≡ d *ℤ pos n →
    (((a *ℤ pos n) *ℤ pos u) +ℤ ((b *ℤ pos m) *ℤ pos t)) *ℤ pos (i * j * (t + u)) ≡ (((c *ℤ pos j) *ℤ pos u) +ℤ ((d *ℤ pos i) *ℤ pos t)) *ℤ pos (m * n * (t + u))
sum_same a b c d m n i j t u e f =
    by-≡ (((a *ℤ pos i) *ℤ pos (n * j * u * (t + u))) +ℤ ((b *ℤ pos j) *ℤ pos (m * i * t * (t + u)))) (((c *ℤ pos m) *ℤ pos (n * j * u * (t + u))) +ℤ ((d *ℤ pos n) *ℤ pos (m * i * t * (t + u))))
    (ap₂ (λ (x y : ℤ). (x *ℤ pos (n * j * u * (t + u))) +ℤ (y *ℤ pos (m * i * t * (t + u)))) e f)
    (by_ring (a ∷ b ∷ c ∷ d ∷ pos m ∷ pos n ∷ pos i ∷ pos j ∷ pos t ∷ pos u ∷ []) (search forms depth 60 fits 99999) refl)

between_same : (p q r s : Place) (t u : ℕ) → Same p r → Same q s → Same (between p q t u) (between r s t u)
unfolding between
between_same p q r s t u e f =
    record {
      x = sum_same p.x q.x r.x s.x p.w q.w r.w s.w t u e.x f.x;
      y = sum_same p.y q.y r.y s.y p.w q.w r.w s.w t u e.y f.y;
    }

pub straight_same : (h : Hall) (p q r s : Place) → 0 < r.w → 0 < s.w → Same p r → Same q s → Straight h p q → Straight h r s
unfolding Straight
straight_same h p q r s wr ws e f a t u n = same_standing.free h (between p q t u) (between r s t u) (stretch.real r s t u wr ws n) (between_same p q r s t u e f) (a t u n)

-- both ends of a free stretch are free
pub from_free : (h : Hall) (p q : Place) → Straight h p q → Free h p
from_free h p q a = straightness.start h p q a

pub to_free : (h : Hall) (p q : Place) → Straight h p q → Free h q
to_free h p q a = straightness.start h q p (straightness.back h p q a)
