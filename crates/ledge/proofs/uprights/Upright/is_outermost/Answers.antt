use Rattle.std.proofs.Common.{rules}
use borrow.Author.Tests.{tests}
use Rattle.std.proofs.lemmas.Iterator.{cases_from_all}
use Rattle.std.proofs.lemmas.Iterator.Consumers.{YieldsList-from_first}
use Rattle.exact.specs.Points.{place_of}
use Rattle.hall.specs.Shapes.{shape_of}
use Rattle.hall.specs.Sides.{CornerPair, pair_of, sides_of, sides_left}
use Rattle.ledge.specs.Descents.{Farther}
use Rattle.ledge.proofs.Tips.{outermost_decided}
use Rattle.ledge.proofs.uprights.Upright.is_outermost.Goals as goal

pub returns : goal.returns
returns c =
    let s = shape_of c.args.shape.now in
    let p = place_of c.args.self.p in
    let hand = c.args.hand in
    outermost_decided s p hand c.all.result
    (cases_from_all c.all.new.self _ c.all.result (λ (a : CornerPair). Farther a.0 hand p → ⊥) (λ (a : CornerPair). Farther a.0 hand p) c.all.ensures.ran (YieldsList-from_first pair_of sides_left (sides_of s) c.sides.ensures) (λ x q k. search (rules, tests)) (λ x q k. search (rules, tests)))
