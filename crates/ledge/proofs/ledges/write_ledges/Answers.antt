use Rattle.std.proofs.Common.{◌≡◌, ℕ, ◌+◌, map, length, subst, arith}
use Rattle.std.proofs.lemmas.List.{length-map}
use Rattle.algebra.specs.Hall.{Corner}
use Rattle.exact.specs.Points.{corner_of}
use Rattle.hall.specs.Halls.{task_of}
use Rattle.hall.specs.Shapes.{shape_of}
use Rattle.ledge.specs.Lights.{Lights}
use Rattle.ledge.specs.Ledges.{PartOf}
use Rattle.ledge.specs.Lines.{surface_of, right_end}
use Rattle.ledge.specs.Parts.{words_part}
use Rattle.ledge.proofs.Mapping.{marked, filled_more, ledged}
use Rattle.ledge.proofs.Numbering.{seen_count}
use Rattle.ledge.proofs.ledges.write_ledges.Goals as goal

pub loop-c-init : goal.loop-c-init
loop-c-init c k l = absurd (omega arith)

pub put_part-requires : goal.put_part-requires
put_part-requires c =
    record {
      room = omega (arith, seen_count _ _ _ c.site.view_is);
      real = marked c.cast_all-shadows.result (corner_of c.line-line.result.from) (corner_of c.line-line.result.to) c.loop-c.c c.part_of.result c.part_of.ensures;
    }

pub loop-c-preserved : goal.loop-c-preserved
loop-c-preserved c =
    filled_more c.cast_all-shadows.result (corner_of c.line-line.result.from) (corner_of c.line-line.result.to) c.loop-c.c c.loop-c.parts c.put_part.new.words c.part_of.result
    c.loop-c.invariant c.part_of.ensures c.put_part.ensures.here c.put_part.ensures.others

pub returns : goal.returns
returns c =
    let os = c.site.inside.obstacles.now in
    let gs = map shape_of os in
    let h = (task_of c.site.inside.hall.now).hall in
    let s = surface_of c.args.surface in
    let ss = c.cast_all-shadows.result in
    let e = c.line-line.ensures in
    let lights = subst (λ (a : Corner). Lights h gs a (right_end h gs s) ss) e.from (subst (λ (b : Corner). Lights h gs (corner_of c.line-line.result.from) b ss) e.to c.cast_all-shadows.ensures) in
    rw (← c.site.view_is)
    (ledged h gs s ss c.site.invariant (rw (← c.site.view_is) at c.requires.stands) lights c.loop-c.parts 0 (length gs + 5) (omega arith)
    (λ k l.
    let z : k ≡ 0 + k = omega arith in
    subst (λ (a : Corner). PartOf ss a (right_end h gs s) k (words_part c.loop-c.parts (0 + k))) e.from
    (subst (λ (b : Corner). PartOf ss (corner_of c.line-line.result.from) b k (words_part c.loop-c.parts (0 + k))) e.to
    (subst (λ (j : ℕ). PartOf ss (corner_of c.line-line.result.from) (corner_of c.line-line.result.to) k (words_part c.loop-c.parts j)) z
    (c.loop-c.invariant k (omega (arith, length-map os shape_of)))))))
