use Rattle.std.proofs.Common.{map, rules, arith}
use Rattle.exact.specs.Points.{place_of}
use Rattle.hall.specs.Shapes.{shape_of}
use Rattle.ledge.specs.Lines.{surface_of, Numbered, Unnumbered}
use Rattle.ledge.proofs.Choosing.{turns_taken, fold_floors}
use Rattle.ledge.proofs.Numbering.{seen, seen_count, seen_sides}
use Rattle.ledge.proofs.floors.floor_of.Goals as goal

pub fold-requires-clause-callable : goal.fold-requires-clause-callable
fold-requires-clause-callable c =
    let s = c.args.site.now in
    let os = c.site.inside.obstacles.now in
    let e = seen _ _ _ c.site.view_is in
    turns_taken _ _ _ _ s.task.hall s.obstacles (place_of c.args.p) c.requires.near.real (seen_sides _ _ _ c.site.view_is)
    (λ n q k. (search rules, let a : Unnumbered (map shape_of os) n = search rules in rw e at a))
    (λ n x q k. (search rules, let a : Numbered (map shape_of os) n (surface_of x) = search rules in rw e at a))
    (λ b x r q k. (search rules, search rules))
    _ _ c.filter_map.ensures.closure c.filter_map.ensures.source c.requires.within
    (λ b x u v. search rules)

pub returns : goal.returns
returns c =
    let s = c.args.site.now in
    let os = c.site.inside.obstacles.now in
    let e = seen _ _ _ c.site.view_is in
    fold_floors _ _ _ _ s.task.hall s.obstacles (place_of c.args.p) c.requires.near.real (seen_sides _ _ _ c.site.view_is)
    (λ n q k. (search rules, let a : Unnumbered (map shape_of os) n = search rules in rw e at a))
    (λ n x q k. (search rules, let a : Numbered (map shape_of os) n (surface_of x) = search rules in rw e at a))
    (λ b x r q k. (search rules, search rules))
    _ _ c.filter_map.ensures.closure c.filter_map.ensures.source c.requires.within
    c.fold.result (omega (arith, seen_count _ _ _ c.site.view_is)) c.fold.ensures.ran
