use Rattle.std.proofs.Common.{◌≡◌, ◌*ℤ◌, ◌∙◌, ap₂, arith}
use borrow.Author.Differences.{ints}
use Rattle.algebra.proofs.Ranges.{knows}
use Rattle.exact.specs.Wide.{thirds_value}
use Rattle.exact.proofs.Bounds.{by_near, ranked_map}
use Rattle.exact.proofs.Splits.{halves_value_same, halves_near}
use Rattle.exact.proofs.wide.product_order.Goals as goal

pub split-requires-3 : goal.split-requires-3
split-requires-3 c = by_near (search (knows, c.requires.c) depth 60 fits 99999) tt

pub split-requires-4 : goal.split-requires-4
split-requires-4 c = by_near (search (knows, c.requires.d) depth 60 fits 99999) tt

pub times-first-requires : goal.times-first-requires
times-first-requires c = record { first = halves_near c.args.a c.split.result c.requires.a c.split.ensures.value c.split.ensures.low; second = halves_near c.args.b c.split-2.result c.requires.b c.split-2.ensures.value c.split-2.ensures.low }

pub times-second-requires : goal.times-second-requires
times-second-requires c = record { first = halves_near c.args.c c.split-3.result c.requires.c c.split-3.ensures.value c.split-3.ensures.low; second = halves_near c.args.d c.split-4.result c.requires.d c.split-4.ensures.value c.split-4.ensures.low }

pub returns : goal.returns
returns c =
    let f : thirds_value c.times-first.result ≡ c.args.a *ℤ c.args.b = c.times-first.ensures.value ∙ ap₂ ◌*ℤ◌ (halves_value_same c.args.a c.split.result c.requires.a c.split.ensures.value) (halves_value_same c.args.b c.split-2.result c.requires.b c.split-2.ensures.value) in
    let g : thirds_value c.times-second.result ≡ c.args.c *ℤ c.args.d = c.times-second.ensures.value ∙ ap₂ ◌*ℤ◌ (halves_value_same c.args.c c.split-3.result c.requires.c c.split-3.ensures.value) (halves_value_same c.args.d c.split-4.result c.requires.d c.split-4.ensures.value) in
    let e = c.minus.ensures.value in
    ranked_map c.sign.result c.sign.ensures (λ h. omega (arith, ints)) (λ h. omega (arith, ints)) (λ h. omega (arith, ints))
