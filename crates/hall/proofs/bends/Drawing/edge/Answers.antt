use Rattle.std.proofs.Common.{◌∙◌, w64, rules}
use Rattle.std.proofs.lemmas.Int.{to_z-of_z}
use Rattle.hall.proofs.Kept.{near_each}
use Rattle.hall.proofs.Outlines.{edge_outline}
use Rattle.hall.proofs.bends.Drawing.edge.Goals as goal

pub turn-requires : goal.turn-requires
turn-requires c =
    let d = c.args.self.now in
    let near = near_each 2047 d.corners.now d.near in
    record { a = near _ (search rules); b = near _ (search rules); c = near _ (search rules) }

pub returns : goal.returns
returns c =
    let e = edge_outline c.args.self.now.corners.now c.args.i c.args.j in
    to_z-of_z w64 c.turn.result (search rules) ∙ (c.turn.ensures.value ∙ simp c.after.ensures.value e)
