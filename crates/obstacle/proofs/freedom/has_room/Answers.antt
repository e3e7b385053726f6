use Rattle.std.proofs.Common.{◌≡◌, ◌*◌, pos, ◌*ℤ◌, sym, refl, ◌∙◌, ap₂, w64, to_z, of_z, rules}
use lib.Signed.{le_z}
use mir.Syntax.{w128}
use Rattle.algebra.proofs.Ranges.{knows, by_size, by_value}
use Rattle.hall.proofs.Sounds.{le_from_le_z, le_z_from_le}
use Rattle.obstacle.proofs.freedom.has_room.Goals as goal

pub overflow_mul-result : goal.overflow_mul-result
overflow_mul-result c = by_size (search knows depth 60 fits 99999) tt

pub returns-then-z-ge0 : goal.returns-then-z-ge0
returns-then-z-ge0 c =
    let z = c.args.z in
    let e : to_z w128 (of_z w128 (to_z w128 c.args.room *ℤ to_z w128 c.args.w)) ≡ pos (c.args.room * c.args.w) = by_value (search knows depth 60 fits 99999) refl in
    let d : to_z w128 (of_z w128 (to_z w64 (of_z w64 z))) ≡ z = by_value (search knows depth 60 fits 99999) refl in
    let f = ap₂ le_z d e in
    (λ h. (search rules, le_from_le_z z _ (sym f ∙ h)), λ p. f ∙ le_z_from_le z _ p.1)
