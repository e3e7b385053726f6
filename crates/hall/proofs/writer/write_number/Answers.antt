use Rattle.std.proofs.Common.{ap, take, ◌∙◌}
use Rattle.hall.proofs.Written.{adds_from_call, digits_8, take_digits}
use Rattle.hall.proofs.writer.write_number.Goals as goal

pub returns : goal.returns
returns g c =
    adds_from_call c.extend_from_slice.result _ _ _ _ c.extend_from_slice.ensures.items
    (ap (take g.row.N) (c.to_le_bytes.ensures ∙ digits_8 c.args.n) ∙ take_digits g.row.N 8 c.args.n c.requires)
