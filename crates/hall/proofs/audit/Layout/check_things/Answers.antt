use Rattle.std.proofs.Common.{◌≡◌, ◌+◌, ◌<◌, sym, ◌∙◌, arith}
use Rattle.hall.specs.Bytes.{byte}
use Rattle.hall.specs.Format.{past, shape_fault}
use Rattle.hall.proofs.Faults.{found, below_step, exits}
use Rattle.hall.proofs.Sounds.{past_more}
use Rattle.hall.proofs.audit.Layout.check_things.Goals as goal

pub returns-in_err-check_shape : goal.returns-in_err-check_shape
returns-in_err-check_shape c =
    let h : c.loop.counter < c.args.self.now.things = omega arith in
    let bs = c.args.self.now.bytes.now in
    let s : shape_fault 1000 c.loop.thing.bytes.now c.loop.thing.at ≡ shape_fault 1000 bs (past c.loop.counter bs (c.args.self.now.count_from + 1)) = cc in
    exits _ _ _ c.from_residual.ensures.1 (found _ c.loop.counter _ _ h c.loop.invariant.3 (sym s ∙ c.in_err-check_shape.ensures))

pub loop-preserved : goal.loop-preserved
loop-preserved c =
    let bs = c.args.self.now.bytes.now in
    let k = c.loop.counter in
    let e : byte c.loop.thing.bytes.now c.loop.thing.at ≡ byte bs (past k bs (c.args.self.now.count_from + 1)) = cc in
    let s : shape_fault 1000 c.loop.thing.bytes.now c.loop.thing.at ≡ shape_fault 1000 bs (past k bs (c.args.self.now.count_from + 1)) = cc in
    (cc, omega (arith, past_more k bs (c.args.self.now.count_from + 1), e), omega arith, below_step k _ c.loop.invariant.3 (sym s ∙ c.in_ok-check_shape.ensures))
