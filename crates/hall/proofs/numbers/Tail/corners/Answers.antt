use Rattle.std.proofs.Common.{◌≡◌, ◌+◌, ◌*◌, rules}
use Rattle.exact.specs.Points.{corner_of, zero}
use Rattle.hall.specs.Format.{corner_at}
use Rattle.hall.proofs.Made.{made_each}
use Rattle.hall.proofs.numbers.Tail.corners.Goals as goal

pub returns : goal.returns
returns c =
    λ k l. made_each _ _ (λ j y. corner_of y ≡ corner_at c.args.self.now.bytes.now (c.args.self.now.at + 1 + 4 * j)) (λ j y q h. search rules) 8 c.from_fn.result c.from_fn.ensures.items k zero l
