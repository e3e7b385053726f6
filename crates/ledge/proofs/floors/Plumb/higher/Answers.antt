use Rattle.std.proofs.lemmas.Bool.{both_ways}
use Rattle.exact.specs.Points.{place_of}
use Rattle.ledge.specs.Lines.{surface_of}
use Rattle.ledge.proofs.Landing.{higher_second, higher_first}
use Rattle.ledge.proofs.Numbering.{seen}
use Rattle.ledge.proofs.floors.Plumb.higher.Goals as goal
use Rattle.ledge.proofs.floors.Plumb.higher.Goals.{else-is_held_by-via-then-is_held_by+else-is_under, else-is_held_by-via-else-is_held_by}

pub returns-then-is_under : goal.returns-then-is_under
returns-then-is_under c =
    let plumb = c.args.self.now in
    let e = seen _ _ _ c.site.view_is in
    higher_second plumb.site.now.obstacles (place_of plumb.upright.p) plumb.upright.near.real plumb.site.now.task.hall (surface_of c.args.best) (surface_of c.args.surface)
    c.requires.best c.requires.stands (c.is_held_by.ensures.0 c.if-is_held_by.true)
    (rw (c.slope.ensures, c.slope-then-is_held_by.ensures, e) at (c.is_under.ensures.0 c.if-is_under.true))

pub returns-else-is_held_by : goal.returns-else-is_held_by
returns-else-is_held_by c =
    let plumb = c.args.self.now in
    let e = seen _ _ _ c.site.view_is in
    higher_first plumb.site.now.obstacles (place_of plumb.upright.p) plumb.upright.near.real plumb.site.now.task.hall (surface_of c.args.best) (surface_of c.args.surface)
    c.requires.best c.requires.stands
    (λ k u.
    elim c.else-is_held_by.branch [
      | else-is_held_by-via-then-is_held_by+else-is_under w ↦
          both_ways w.is_under.result w.if-is_under.false (w.is_under.ensures.1 (rw (w.slope.ensures, w.slope-then-is_held_by.ensures, e) u))
      | else-is_held_by-via-else-is_held_by w ↦ both_ways c.is_held_by.result w.if-is_held_by.false (c.is_held_by.ensures.1 k)
    ])
