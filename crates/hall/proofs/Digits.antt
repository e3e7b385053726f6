-- Numbers in bytes are pieces of the format. Assumes nothing.
use Rattle.std.proofs.Common.{◌≡◌, ℕ, zero, suc, ◌+◌, ◌*◌, ◌/◌, ◌%◌, ◌^◌, ◌<◌, List, drop, refl, ap, ap₂, pow-suc, arith, SFits, to_z, of_z}
use mir.Syntax.{Width}
use mir.Val.{bits}
use mir.Facts.{Fits-of_z}
use Rattle.std.proofs.lemmas.Nat.{div_below}
use Rattle.std.proofs.lemmas.Int.{to_z-of_z, of_z-to_z}
use Rattle.hall.specs.Bytes.{little, digits}
use Rattle.hall.specs.Laws.{Bytes}
use Rattle.hall.proofs.Sounds.{byte_below}
use Rattle.hall.proofs.Pieces.{Piece, one, pair, taken_for}

-- ---- a number in n bytes
pub number : (n : ℕ) → Piece (digits n) (little n) (λ bs i. i + n) (λ v. v < 256 ^ n)
unfolding digits little
number zero =
    record {
      after = λ bs i. omega arith;
      reads = λ bs i v rest g e. (omega arith, refl);
      writes = λ bs i h l. let e : i ≡ i + 0 = omega arith in ap (λ (k : ℕ). drop k bs) e;
    }
number (suc n) =
    taken_for (digits (suc n)) (little (suc n)) (λ bs i. i + suc n) (λ v. v < 256 ^ suc n)
    (pair one (number n)) (λ p. p.0 + 256 * p.1) (λ v. (v % 256, v / 256))
    (λ v. refl) (λ bs i. refl) (λ bs i. omega arith)
    (λ v h. (tt, div_below v 256 (256 ^ n) (omega arith) (omega (arith, pow-suc 256 n))))
    (λ v h. omega arith)
    (λ bs i h.
    let b = byte_below bs i h in
    let m : ℕ = little n bs (i + 1) in
    ap₂ {A = ℕ} {B = ℕ} {C = ℕ × ℕ} (λ x y. (x, y)) (omega arith) (omega arith))

pub little_below : (n : ℕ) (bs : List ℕ) (i : ℕ) → Bytes bs → little n bs i < 256 ^ n
unfolding little
little_below zero bs i h = omega arith
little_below (suc n) bs i h = omega (arith, pow-suc 256 n, byte_below bs i h, little_below n bs (i + 1) h)

-- ---- a number with sign
pub signed : (w : Width) (n : ℕ) → 256 ^ n ≡ 2 ^ bits w → Piece (λ z. digits n (of_z w z)) (λ bs i. to_z w (little n bs i)) (λ bs i. i + n) (SFits w)
signed w n e =
    taken_for (λ z. digits n (of_z w z)) (λ bs i. to_z w (little n bs i)) (λ bs i. i + n) (SFits w) (number n) (to_z w) (of_z w)
    (λ z. refl) (λ bs i. refl) (λ bs i. refl)
    (λ z h. omega (arith, e, (Fits-of_z h).fits))
    (to_z-of_z w)
    (λ bs i h. of_z-to_z w (little n bs i) (omega (arith, e, little_below n bs i h)))
