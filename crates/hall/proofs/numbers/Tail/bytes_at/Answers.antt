use Rattle.std.proofs.Common.{◌≡◌, ◌+◌, rules}
use Rattle.hall.specs.Bytes.{byte}
use Rattle.hall.proofs.Made.{made_each}
use Rattle.hall.proofs.numbers.Tail.bytes_at.Goals as goal

pub returns : goal.returns
returns g c =
    let tail = c.args.self.now in
    λ i l. made_each _ _ (λ j y. y ≡ byte tail.bytes.now (tail.at + c.args.k + j)) (λ j y q h. search rules) g.row.N c.from_fn.result c.from_fn.ensures.items i 0 l
