use Rattle.std.proofs.Common.{arith, rules}
use Rattle.std.proofs.lemmas.Option.{MatchOption-at_some}
use Rattle.hall.specs.Shapes.{shape_of}
use Rattle.obstacle.proofs.GrowEnds.{picked_of_all, not_higher}
use Rattle.obstacle.proofs.growing.highest.Goals as goal

pub returns : goal.returns
returns g c =
    let s = shape_of c.args.s.now in
    let p = c.max_by_key.ensures.runs in
    let w = MatchOption-at_some _ _ _ c.unwrap.ensures p.3 in
    let z = w.1 (search rules) in
    let b = picked_of_all p.0 c.len.result c.unwrap.result p.1 p.2 w.0 _ z.2 in
    record {
      within = omega (arith, b.0, c.len.ensures.value);
      most = λ i h. let q = b.1 i (omega (arith, c.len.ensures.value)) in not_higher s i c.unwrap.result q.0 z.0 (search rules) (search rules) q.2;
    }
