-- Fractions in lowest terms. Assumes nothing: these are definitions.
use Rattle.std.specs.Prelude.{◌≡◌, ℕ, zero, suc, ◌/◌, ◌%◌, ◌<◌, ◌≤◌, cond, ◌&&◌, ℤ, pos, ◌*ℤ◌, ◌==◌, int_div, unsigned_abs}
use Rattle.std.specs.Int.{◌∣◌}

-- n / d is x / w in lowest terms (k ∣ n says that k times some number is n): the same number, over a denominator above 0, and no number from 2 on divides both n and d
pub record Lowest (x : ℤ) (w : ℕ) (n : ℤ) (d : ℕ) : Type 0 where
  pub above : 0 < d
  pub same : x *ℤ pos d ≡ n *ℤ pos w
  pub least : (k : ℕ) → 2 ≤ k → k ∣ unsigned_abs n → k ∣ d → ⊥

-- the largest number from 1 to k that divides both a and b; 1 if k is 0
unfoldable pub common : ℕ → ℕ → ℕ → ℕ
common zero a b = 1
common (suc k) a b = cond (a % suc k == 0 && b % suc k == 0) (suc k) (common k a b)

-- by what the numerator and the denominator of x / w are divided
abbrev pub shared : ℤ → ℕ → ℕ
shared x w = common w (unsigned_abs x) w

-- the numerator and the denominator of x / w in lowest terms (int_div divides integers)
unfoldable pub top : ℤ → ℕ → ℤ
top x w = int_div x (pos (shared x w))

unfoldable pub bottom : ℤ → ℕ → ℕ
bottom x w = w / shared x w

-- n / d is what x / w comes to. Where w is above 0, it is in lowest terms, and no other fraction is; where w is 0, x and 0 stay as they are
pub record Reduced (x : ℤ) (w : ℕ) (n : ℤ) (d : ℕ) : Type 0 where
  pub numerator : n ≡ top x w
  pub denominator : d ≡ bottom x w
  pub lowest : 0 < w → Lowest x w n d
  pub alone : (m : ℤ) (e : ℕ) → 0 < w → Lowest x w m e → (m ≡ n) × (e ≡ d)
  pub over_zero : w ≡ 0 → (n ≡ x) × (d ≡ 0)
