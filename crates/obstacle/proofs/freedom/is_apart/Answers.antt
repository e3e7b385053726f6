use Rattle.std.proofs.Common.{rules}
use borrow.Author.Tests.{tests}
use Rattle.std.proofs.lemmas.Iterator.{YieldsList-from_slice, cases_from_all}
use Rattle.algebra.specs.Hall.{Inside}
use Rattle.exact.specs.Points.{place_of}
use Rattle.hall.specs.Shapes.{shape_of}
use Rattle.obstacle.proofs.Freely.{apart_decided}
use Rattle.obstacle.proofs.freedom.is_apart.Goals as goal

pub returns : goal.returns
returns c =
    let p = place_of c.args.p in
    apart_decided c.all.result c.args.obstacles.now p
    (cases_from_all _ _ c.all.result (λ x. Inside (shape_of x) p → ⊥) (λ x. Inside (shape_of x) p) c.all.ensures.ran (YieldsList-from_slice c.args.obstacles.now cc) (λ x q k. search (rules, tests)) (λ x q k. search (rules, tests)))
