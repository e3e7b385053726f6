use Rattle.std.proofs.Common.{map, sym, ap, ◌∙◌, ap₂}
use Rattle.exact.specs.declared.points.Side.{Side}
use Rattle.algebra.specs.Forms.{line}
use Rattle.hall.specs.Shapes.{shape_of}
use Rattle.ledge.specs.Landings.{form_of}
use Rattle.ledge.specs.Lines.{surface_of}
use Rattle.ledge.specs.Surfaces.{above}
use Rattle.ledge.specs.declared.surfaces.Surface as code
use Rattle.ledge.proofs.Landing.{bottom_form}
use Rattle.ledge.proofs.surfaces.Surface.slope.Goals as goal
use Rattle.ledge.proofs.surfaces.Surface.slope.Goals.{in-Bottom, in-Top}

pub returns : goal.returns
returns c =
    let gs = map shape_of c.args.obstacles.now in
    elim c.match-self.branch [
      | in-Bottom w ↦ ap (λ (x : Side × Unit {0}). form_of x.0) w.result-is ∙ (bottom_form ∙ sym (ap (λ (s : code.Surface). above gs (surface_of s)) w.in-Bottom.is))
      | in-Top w ↦
          ap (λ (x : Side × Unit {0}). form_of x.0) w.result-is
          ∙ (ap₂ line w.roof_of.ensures.from w.roof_of.ensures.to ∙ sym (ap (λ (s : code.Surface). above gs (surface_of s)) w.in-Top.is))
    ]
