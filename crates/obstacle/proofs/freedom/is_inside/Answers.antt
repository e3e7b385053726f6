use Rattle.std.proofs.Common.{pos, ◌<ℤ◌, rules}
use borrow.Author.Tests.{tests}
use Rattle.std.proofs.lemmas.Iterator.{cases_from_all}
use Rattle.std.proofs.lemmas.Iterator.Consumers.{YieldsList-from_first}
use Rattle.algebra.specs.Hall.{side}
use Rattle.exact.specs.Points.{place_of}
use Rattle.hall.specs.Shapes.{shape_of}
use Rattle.hall.specs.Sides.{CornerPair, pair_of, sides_of, sides_left}
use Rattle.obstacle.proofs.Freely.{inside_decided}
use Rattle.obstacle.proofs.freedom.is_inside.Goals as goal

pub returns : goal.returns
returns g c =
    let s = shape_of c.args.shape.now in
    let p = place_of c.args.p in
    inside_decided c.all.result s p
    (cases_from_all c.all.new.self _ c.all.result (λ (a : CornerPair). pos 0 <ℤ side a.0 a.1 p) (λ (a : CornerPair). pos 0 <ℤ side a.0 a.1 p → ⊥) c.all.ensures.ran (YieldsList-from_first pair_of sides_left (sides_of s) c.sides.ensures) (λ x q k. search (rules, tests)) (λ x q k. search (rules, tests)))
