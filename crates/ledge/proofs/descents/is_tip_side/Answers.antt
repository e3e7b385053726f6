use Rattle.std.proofs.Common.{◌<ℤ◌, sym, ap, ◌∙◌, subst, rules, arith}
use Rattle.algebra.specs.Hall as hall
use Rattle.algebra.specs.Hall.{at}
use Rattle.algebra.specs.Near.{Near}
use Rattle.exact.proofs.Bounds.{wider}
use Rattle.hall.specs.Shapes.{shape_of}
use Rattle.ledge.specs.Descents.{Outermost}
use Rattle.ledge.proofs.descents.is_tip_side.Goals as goal

pub invariant_of-end : goal.invariant_of-end
invariant_of-end c =
    let e = c.from.ensures in
    let m = c.end_of.ensures.bound in
    record {
      near = record {
        x = wider (subst (Near 2047) (sym (ap (λ (p : hall.Place). p.x) e)) m.x) tt;
        y = wider (subst (Near 2047) (sym (ap (λ (p : hall.Place). p.y) e)) m.y) tt;
        real = omega (arith, ap (λ (p : hall.Place). p.w) e);
        most = omega (arith, ap (λ (p : hall.Place). p.w) e);
      };
    }

pub returns-then-side : goal.returns-then-side
returns-then-side c =
    let g = shape_of c.args.shape.now in
    let hand = c.args.hand in
    let q = c.from.ensures ∙ ap at c.end_of.ensures.value in
    let runs : c.args.side.to.x <ℤ c.args.side.from.x = search rules in (
      λ t. record { runs = runs; outermost = subst (Outermost g hand) q (c.is_outermost.ensures.0 t) },
      λ o. c.is_outermost.ensures.1 (subst (Outermost g hand) (sym q) o.outermost),
    )
