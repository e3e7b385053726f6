use Rattle.std.proofs.Common.{◌≡◌, pos, nat_abs, ◌≤ℤ◌, ◌<ℤ◌, ap, ◌∙◌, arith, rules}
use borrow.Author.Differences.{ints}
use Rattle.exact.proofs.Crossings.{size_up, size_down}
use Rattle.ledge.proofs.Spotting.{above_after, above_before, above_all}
use Rattle.ledge.proofs.shadows.course_of.Goals as goal

pub returns-then-e-gt0-2 : goal.returns-then-e-gt0-2
returns-then-e-gt0-2 c t u s =
    let f : pos 0 <ℤ c.args.e.from = search rules in
    let g : pos 0 <ℤ c.args.e.to = search rules in
    above_all c.args.e.from c.args.e.to t u f g s

pub returns-then-e-gt0-3 : goal.returns-then-e-gt0-3
returns-then-e-gt0-3 c t u =
    let f : pos 0 <ℤ c.args.e.from = search rules in
    let g : c.args.e.to ≤ℤ pos 0 = search rules in
    let m : c.unsigned_abs.result ≡ nat_abs c.args.e.from = search rules in
    let n : c.unsigned_abs-2.result ≡ nat_abs c.args.e.to = search rules in
    above_before c.args.e.from c.args.e.to t u c.unsigned_abs.result c.unsigned_abs-2.result
    (ap pos m ∙ size_up c.args.e.from (omega (arith, ints))) (ap pos n ∙ size_down c.args.e.to g)

pub returns-else-e-gt0-3 : goal.returns-else-e-gt0-3
returns-else-e-gt0-3 c t u =
    let f : c.args.e.from ≤ℤ pos 0 = search rules in
    let g : pos 0 ≤ℤ c.args.e.to = search rules in
    let m : c.unsigned_abs.result ≡ nat_abs c.args.e.from = search rules in
    let n : c.unsigned_abs-2.result ≡ nat_abs c.args.e.to = search rules in
    above_after c.args.e.from c.args.e.to t u c.unsigned_abs.result c.unsigned_abs-2.result
    (ap pos m ∙ size_down c.args.e.from f) (ap pos n ∙ size_up c.args.e.to g)
