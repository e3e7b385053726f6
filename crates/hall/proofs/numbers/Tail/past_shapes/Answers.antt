use Rattle.std.proofs.Common.{◌≡◌, ℕ, ◌+◌, ◌*◌, ◌≤◌, refl, rules, arith}
use Rattle.hall.specs.declared.numbers.Tail.{Tail}
use Rattle.hall.specs.Bytes.{byte}
use Rattle.hall.specs.Format.{past}
use Rattle.hall.proofs.Each.{handed_at_each, handed_over}
use Rattle.hall.proofs.Sounds.{past_more}
use Rattle.hall.proofs.numbers.Tail.past_shapes.Goals as goal

-- what follows after k shapes
record Past (tail : Tail) (k : ℕ) (rest : Tail) : Type 0 where
  bytes : rest.bytes ≡ tail.bytes
  at : rest.at ≡ past k tail.bytes.now tail.at
  bound : rest.at ≤ tail.at + 1021 * k

first : (tail : Tail) → Past tail 0 tail
first tail = record { bytes = refl; at = refl; bound = omega arith }

next : (tail a b : Tail) (k : ℕ) → Past tail k a → b.bytes ≡ a.bytes → b.at ≡ a.at + 1 + 4 * byte a.bytes.now a.at → b.at ≤ a.at + 1021 → Past tail (k + 1) b
next tail a b k p same later near =
    let e : byte a.bytes.now a.at ≡ byte tail.bytes.now (past k tail.bytes.now tail.at) = cc in
    record { bytes = cc; at = omega (arith, past_more k tail.bytes.now tail.at, e); bound = omega arith }

pub fold-requires-clause-callable : goal.fold-requires-clause-callable
fold-requires-clause-callable c =
    let tail = c.args.self.now in
    handed_at_each _ _ (Past tail) (λ k a b q j h. (refl, next tail a b k j (search rules) (search rules) (search rules))) _ tail (first tail) _ (λ k b l j. search rules)

pub returns : goal.returns
returns c =
    let tail = c.args.self.now in
    let p = handed_over _ _ (Past tail) (λ k a b q j h. (refl, next tail a b k j (search rules) (search rules) (search rules))) _ tail c.fold.result (omega arith) (first tail) c.fold.ensures.ran in
    record { bytes = p.bytes; at = p.at; bound = p.bound }
