use Rattle.std.proofs.Common.{◌≡◌, length, sym, ap, ◌∙◌, arith, rules}
use Rattle.std.proofs.lemmas.Iterator.{YieldsList-from_slice}
use Rattle.std.proofs.lemmas.Iterator.Adapters.{serves_from_places}
use Rattle.std.proofs.lemmas.Result.{IfOk-weaker}
use Rattle.hall.specs.Shapes.{shape_of, drawn_within}
use Rattle.obstacle.proofs.Freely.{all_pass_at, grown_all}
use Rattle.obstacle.proofs.all.grow_each.Goals as goal

pub collect-requires-clause-can : goal.collect-requires-clause-can
collect-requires-clause-can c = (tt, serves_from_places (YieldsList-from_slice c.args.things.now cc) (λ x q r. search rules) (λ x k h e. let n = all_pass_at (drawn_within 1000) c.args.things.now k x.now h e c.requires.things in search rules))

pub returns : goal.returns
returns c = IfOk-weaker c.collect.result _ _ (λ v h.
    let load = c.args.load.now in
    let p = h tt in
    let q = c.map.ensures.runs p.0 p.0.seen p.1 in
    let s = c.iter.ensures.runs q.0 q.0.seen in
    let e : q.0.from.rest.now ≡ c.args.things.now = cc in
    let g : v.items ≡ p.0.items = cc in
    let n : q.0.len ≡ length c.args.things.now = s.1 (q.2.0 ∙ p.2) ∙ ap length e in
    let l : length p.0.items ≡ length c.args.things.now = sym p.0.long ∙ q.2.1 ∙ n in
    rw g
    (grown_all (shape_of load) c.args.things.now p.0.items _ (λ x y w. search rules) q.0.at p.0.at load l
    (λ k d h. rw e at (s.2 k d (omega arith))) (λ k d h. p.0.reads k d (omega (arith, p.0.long))) (q.2.2 (search rules)).0)) c.collect.ensures.runs
