use Rattle.std.proofs.Common.{◌+◌, ◌-◌, ◌*◌, ◌^◌, refl, rules}
use Rattle.hall.specs.Format.{place_fault}
use Rattle.hall.proofs.Each.{first_of_each}
use Rattle.hall.proofs.audit.check_places.Goals as goal

pub returns : goal.returns
returns c =
    simp c.from.ensures at
    (first_of_each _ _ (λ k. place_fault (2 ^ 60 - 1) c.args.bytes.now (2 + 24 * k)) (λ k v q h. search rules) _ _ c.try_for_each.result refl c.try_for_each.ensures.ran)
