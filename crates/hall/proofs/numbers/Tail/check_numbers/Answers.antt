use Rattle.std.proofs.Common.{refl, rules}
use Rattle.hall.specs.Format.{number_at}
use Rattle.hall.proofs.Each.{first_of_each}
use Rattle.hall.proofs.numbers.Tail.check_numbers.Goals as goal

pub returns : goal.returns
returns c =
    simp (c.from.ensures, c.byte.ensures) at
    (first_of_each _ _ (number_at c.args.limit c.args.self.now.bytes.now c.args.self.now.at) (λ k v q h. search rules) _ _ c.try_for_each.result refl c.try_for_each.ensures.ran)
