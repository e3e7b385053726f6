use Rattle.std.proofs.Common.{◌≡◌, vec_items, ◌∙◌, ap, w16, w64, of_z, rules}
use Rattle.std.proofs.lemmas.Int.{to_z-of_z}
use Rattle.hall.specs.Bytes.{digits}
use Rattle.hall.proofs.Written.{adds_next, digits_low}
use Rattle.hall.proofs.writer.write_corner.Goals as goal

pub returns : goal.returns
returns c =
    let x : digits 2 c.cast_unsigned.result ≡ digits 2 (of_z w16 c.args.c.x) =
    ap (digits 2) (c.cast_unsigned.ensures ∙ ap (of_z w64) (to_z-of_z w64 c.args.c.x (search rules))) ∙ digits_low c.args.c.x c.requires.x in
    let y : digits 2 c.cast_unsigned-2.result ≡ digits 2 (of_z w16 c.args.c.y) =
    ap (digits 2) (c.cast_unsigned-2.ensures ∙ ap (of_z w64) (to_z-of_z w64 c.args.c.y (search rules))) ∙ digits_low c.args.c.y c.requires.y in
    adds_next c.write_number-2.result (vec_items c.args.out.now) _ _ _ _ c.in_ok-write_number.ensures x c.write_number-2.ensures y
