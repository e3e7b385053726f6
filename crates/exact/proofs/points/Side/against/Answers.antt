use Rattle.std.proofs.Common.{◌≡◌, w64, to_z, of_z}
use Rattle.exact.proofs.Bounds.{kept}
use Rattle.exact.proofs.Crossings.{turned_gap}
use Rattle.exact.proofs.points.Side.against.Goals as goal

pub invariant_of-result : goal.invariant_of-result
invariant_of-result c =
    let f = c.turn in
    let g = c.turn-2 in
    let i : to_z w64 (of_z w64 f.result) ≡ f.result = kept w64 f.result f.ensures.bound tt in
    let j : to_z w64 (of_z w64 g.result) ≡ g.result = kept w64 g.result g.ensures.bound tt in
    record { gap = rw (i, j) (turned_gap c.args.self c.args.line f.result g.result f.ensures.value g.ensures.value) }
