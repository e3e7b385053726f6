use Rattle.std.proofs.Common.{◌≡◌, ◌*ℤ◌, refl, arith, w64, to_z, of_z}
use borrow.Author.Differences.{ints}
use Rattle.algebra.proofs.Ranges.{knows, by_size, by_value}
use Rattle.exact.proofs.points.Ends.one_side.Goals as goal

pub overflow_mul-result : goal.overflow_mul-result
overflow_mul-result c = by_size (search (knows, c.requires.from, c.requires.to) depth 60 fits 99999) tt

pub returns : goal.returns
returns c =
    let f = c.args.self.from in
    let g = c.args.self.to in
    let e : to_z w64 (of_z w64 (to_z w64 (of_z w64 f) *ℤ to_z w64 (of_z w64 g))) ≡ f *ℤ g = by_value (search (knows, c.requires.from, c.requires.to) depth 60 fits 99999) refl in
    (λ h. grind (arith, ints), λ h. grind (arith, ints))
