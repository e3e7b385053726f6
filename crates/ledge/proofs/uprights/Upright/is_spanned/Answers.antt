use Rattle.std.proofs.Common.{⊎_elim}
use Rattle.std.proofs.lemmas.Bool.{both_ways, cases_Bool, not-true, not_from_false}
use Rattle.exact.specs.Points.{place_of}
use Rattle.hall.specs.Shapes.{shape_of}
use Rattle.ledge.specs.declared.descents.Hand.TheVariants as hand
use Rattle.ledge.proofs.Tips.{spans_from, spanned_not}
use Rattle.ledge.proofs.uprights.Upright.is_spanned.Goals as goal

pub returns-then-not-is_outermost : goal.returns-then-not-is_outermost
returns-then-not-is_outermost c =
    let g = shape_of c.args.shape.now in
    let p = place_of c.args.self.p in
    let left = c.is_outermost in
    let right = c.is_outermost-then-not-is_outermost in (
      λ t. spans_from g p (λ o. both_ways left.result c.if-not-is_outermost.true (left.ensures.1 o)) (λ o. both_ways right.result (not-true _ t) (right.ensures.1 o)),
      λ s. ⊎_elim (λ t. absurd (spanned_not g p s hand.Right (right.ensures.0 t))) (λ f. not_from_false right.result f) (cases_Bool right.result),
    )
