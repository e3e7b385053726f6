use Rattle.std.proofs.Common.{map, ℤ, pos, refl, sym, ap, ◌∙◌, subst, w64, arith}
use Rattle.std.proofs.lemmas.Int.{to_z_pos}
use Rattle.exact.specs.declared.points.Corner.{Corner}
use Rattle.exact.specs.Points.{corner_of}
use Rattle.hall.specs.Halls.{task_of}
use Rattle.hall.specs.Shapes.{shape_of}
use Rattle.ledge.specs.declared.surfaces.Surface as code
use Rattle.ledge.specs.Lines.{surface_of, left_end, right_end}
use Rattle.ledge.specs.Surfaces.{Stands, obstacle}
use Rattle.ledge.proofs.Numbering.{ends_top}
use Rattle.ledge.proofs.surfaces.Surface.line.Goals as goal
use Rattle.ledge.proofs.surfaces.Surface.line.Goals.{in-Bottom, in-Top}

abbrev Ends : Type 0
Ends = Corner × (Corner × Unit {0})

pub roof_of-requires : goal.roof_of-requires
roof_of-requires c = subst (λ (s : code.Surface). Stands (map shape_of c.args.obstacles.now) (surface_of s)) c.in-Top.is c.requires

pub returns : goal.returns
returns c =
    let h = (task_of c.args.hall.now).hall in
    let gs = map shape_of c.args.obstacles.now in
    elim c.match-self.branch [
      | in-Bottom w ↦
          let wide = to_z_pos w64 w.wide.result (omega (arith, w.wide.type_inv)) ∙ ap pos w.wide.ensures in
          record {
            from = ap (λ (x : Ends). corner_of x.0) w.result-is ∙ sym (ap (λ (s : code.Surface). left_end gs (surface_of s)) w.in-Bottom.is);
            to =
                ap (λ (x : Ends). corner_of x.1.0) w.result-is
                ∙ (ap (λ (x : ℤ). corner_of (record { x = x; y = pos 0 })) wide ∙ sym (ap (λ (s : code.Surface). right_end h gs (surface_of s)) w.in-Bottom.is));
          }
      | in-Top w ↦
          let e = ends_top h gs c.args.self w.in-Top.obstacle w.in-Top.side (obstacle gs w.in-Top.obstacle) w.in-Top.is refl in
          let x = w.roof_of.ensures in
          record {
            from = ap (λ (x : Ends). corner_of x.0) w.result-is ∙ (x.from ∙ e.0);
            to = ap (λ (x : Ends). corner_of x.1.0) w.result-is ∙ (x.to ∙ e.1);
          }
    ]
