use Rattle.std.proofs.Common.{◌≡◌, ℕ, ◌/◌, ◌<◌, ℤ, pos, nat_abs, sym, ap, ◌∙◌, subst, arith, w64, SFits, to_z, of_z}
use native.Mathlib.Nat.{pos_of_dvd_of_pos}
use lib.Signed.{quot_z}
use mir.Syntax.{w128}
use Rattle.std.proofs.lemmas.Int.{to_z-of_z}
use Rattle.std.specs.Int.{IsGcd}
use Rattle.text.specs.Lowest.{shared, top, bottom}
use Rattle.text.proofs.Terms.{shared_is, reduced, operands, quot_wide, quot_cast, top_zero, bottom_zero}
use Rattle.text.proofs.fractions.Fraction.lowest.Goals as goal

same : (c : goal.After-from-2) → to_z w64 (of_z w64 c.args.x) ≡ c.args.x
same c = to_z-of_z w64 c.args.x c.ranges.x

divisor : (c : goal.After-from-2) → IsGcd (nat_abs c.args.x) c.args.w c.gcd-shared.result
divisor c = subst (λ (a : ℕ). IsGcd a c.args.w c.gcd-shared.result) (c.unsigned_abs.ensures.value ∙ ap nat_abs (same c)) c.gcd-shared.ensures

some : (c : goal.After-from-2) → 0 < c.args.w
some c = omega arith

divisor-is : (c : goal.After-from-2) → c.gcd-shared.result ≡ shared c.args.x c.args.w
divisor-is c = sym (shared_is c.args.x c.args.w c.gcd-shared.result (some c) (divisor c))

quotient : (c : goal.After-from-2) → quot_z (to_z w128 (of_z w128 c.from.result)) (to_z w128 (of_z w128 c.from-2.result)) ≡ quot_z c.args.x (pos c.gcd-shared.result)
quotient c = operands c.args.x c.from.result c.from-2.result c.gcd-shared.result c.ranges.x (record { sfits = c.from.type_inv }) (record { sfits = c.from-2.type_inv }) c.from.ensures c.from-2.ensures

pub nonzero_div-result : goal.nonzero_div-result
nonzero_div-result c = pos_of_dvd_of_pos (divisor c).1 (some c)

pub nonzero_div-num : goal.nonzero_div-num
nonzero_div-num c = (
  subst (λ (z : ℤ). 0 < of_z w128 z) (sym c.from-2.ensures) (nonzero_div-result c),
  subst (SFits w128) (sym (quotient c)) (quot_wide c.args.x c.gcd-shared.result c.ranges.x),
)

pub returns-then-w-eq0 : goal.returns-then-w-eq0
returns-then-w-eq0 c =
    let x : to_z w64 (of_z w64 c.args.x) ≡ c.args.x = to_z-of_z w64 c.args.x c.ranges.x in
    reduced c.args.x c.args.w _ _ (x ∙ sym (top_zero c.args.x c.args.w c.if-w-eq0.true)) (sym (bottom_zero c.args.x c.args.w c.if-w-eq0.true))

pub returns : goal.returns
unfolding top bottom
returns c =
    reduced c.args.x c.args.w _ _
    (quot_cast c.args.x _ c.gcd-shared.result c.ranges.x (quotient c) ∙ ap (λ (g : ℕ). quot_z c.args.x (pos g)) (divisor-is c))
    (ap (λ (g : ℕ). c.args.w / g) (divisor-is c))
