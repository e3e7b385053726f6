use Rattle.std.proofs.Common.{pos, refl, arith, rules}
use lib.Signed.{le_z}
use Rattle.std.proofs.lemmas.Int.{ints}
use Rattle.algebra.specs.Hall.{at, corner, edge}
use Rattle.hall.specs.Outlines.{outline_of}
use Rattle.hall.proofs.Each.{all_of_each}
use Rattle.hall.proofs.Outlines.{length_outline}
use Rattle.hall.proofs.bends.Drawing.covers.Goals as goal

pub returns : goal.returns
returns c =
    let s = outline_of c.args.self.now.corners.now in
    rw length_outline (all_of_each _ _ (λ i. le_z (pos 0) (edge s i (at (corner s c.args.j)))) (λ k b q h. (search rules, grind (arith, ints))) _ _ c.all.result refl c.all.ensures.ran)
