use Rattle.std.proofs.Common.{◌≡◌, ◌+◌, ap, ◌∙◌, add-zero, w64, to_z, of_z, rules}
use Rattle.std.proofs.lemmas.Int.{to_z-of_z}
use Rattle.hall.specs.Bytes.{signed_8}
use Rattle.hall.specs.Format.{place_fault}
use Rattle.hall.proofs.Faults.{some_then, none_then, tells_second, exits}
use Rattle.hall.proofs.numbers.Tail.check_place.Goals as goal
use Rattle.hall.proofs.numbers.Tail.check_place.Goals.{After-i64, After-i64-2}

-- the numbers that were read are those of the definition
x : (c : After-i64) → to_z w64 (of_z w64 c.i64.result) ≡ signed_8 c.args.self.now.bytes.now c.args.self.now.at
x c = to_z-of_z w64 c.i64.result (search rules) ∙ (c.i64.ensures ∙ ap (signed_8 c.args.self.now.bytes.now) (add-zero c.args.self.now.at))

y : (c : After-i64-2) → to_z w64 (of_z w64 c.i64-2.result) ≡ signed_8 c.args.self.now.bytes.now (c.args.self.now.at + 8)
y c = to_z-of_z w64 c.i64-2.result (search rules) ∙ c.i64-2.ensures

pub returns-in_err-check_near : goal.returns-in_err-check_near
unfolding place_fault
returns-in_err-check_near c =
    let e = x (goal.at.returns-in_err-check_near c).After-i64 in
    exits _ _ _ c.from_residual.ensures.1 (some_then _ _ _ (simp (e, add-zero) at c.in_err-check_near.ensures))

pub returns-in_err-check_near-2 : goal.returns-in_err-check_near-2
unfolding place_fault
returns-in_err-check_near-2 c =
    let e = x (goal.at.returns-in_err-check_near-2 c).After-i64 in
    let f = y (goal.at.returns-in_err-check_near-2 c).After-i64-2 in
    exits _ _ _ c.from_residual-in_err-check_near-2.ensures.1
    (none_then _ _ (simp (e, add-zero) at c.in_ok-check_near.ensures) ∙ some_then _ _ _ (simp f at c.in_err-check_near-2.ensures))

pub returns : goal.returns
unfolding place_fault
returns c =
    let e = x (goal.at.returns c).After-i64 in
    let f = y (goal.at.returns c).After-i64-2 in
    tells_second _ _ _ (simp (e, add-zero) at c.in_ok-check_near.ensures) (tells_second _ _ _ (simp f at c.in_ok-check_near-2.ensures) c.check_weight.ensures)
