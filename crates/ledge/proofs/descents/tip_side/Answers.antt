use Rattle.std.proofs.Common.{◌≤◌, [], ◌∷◌, length, inl, ap, rules, arith}
use borrow.Author.Tests.{tests}
use Rattle.std.proofs.lemmas.Iterator.{IsFirst-from_position}
use Rattle.std.proofs.lemmas.Iterator.Consumers.{YieldsList-from_first}
use Rattle.hall.specs.Shapes.{shape_of}
use Rattle.hall.specs.Sides.{CornerPair, pair_of, sides_of, sides_left}
use Rattle.ledge.specs.Descents.{TipPair}
use Rattle.hall.proofs.Walks.{length_sides}
use Rattle.ledge.proofs.Numbering.{few_sides}
use Rattle.ledge.proofs.Tips.{tip_side_found}
use Rattle.ledge.proofs.descents.tip_side.Goals as goal

pub position-requires-clause-fits : goal.position-requires-clause-fits
position-requires-clause-fits c =
    let s = c.args.shape.now in
    let few : length (shape_of s) ≤ 16 = few_sides (s ∷ []) 0 (omega arith) in
    inl (omega (arith, ap length c.sides.ensures, length_sides (shape_of s) (length (shape_of s)) 0, few))

pub returns : goal.returns
returns c =
    let g = shape_of c.args.shape.now in
    let hand = c.args.hand in
    tip_side_found g hand c.position.result
    (IsFirst-from_position c.position.new.self _ c.position.result (TipPair g hand) (λ (a : CornerPair). TipPair g hand a → ⊥) c.position.ensures.ran (YieldsList-from_first pair_of sides_left (sides_of g) c.sides.ensures) (λ x q k. search (rules, tests)) (λ x q k. search (rules, tests)))
