use Rattle.std.proofs.Common.{◌≡◌, ℕ, ◌+◌, ◌-◌, ◌*◌, ◌<◌, ◌≤◌, true, leb, length, take, ap, ◌∙◌, arith, rules}
use Rattle.std.proofs.lemmas.Bool.{leb-true, and_parts}
use Rattle.hall.specs.Bytes.{byte, signed_2}
use Rattle.hall.specs.Format.{shape_fault, near, corners_at, shape_at}
use Rattle.hall.specs.Outlines.{outline_of}
use Rattle.hall.proofs.Faults.{some_then, none_then, tells_second, exits, test_from_none}
use Rattle.hall.proofs.Drawings.{holds}
use Rattle.hall.proofs.Corners.{within_read, outline_read, length_read, numbers_near}
use Rattle.hall.proofs.numbers.Tail.check_shape.Goals as goal

pub returns-in_err-check_count : goal.returns-in_err-check_count
unfolding shape_fault
returns-in_err-check_count c = exits _ _ _ c.from_residual.ensures.1 (some_then _ _ _ (simp c.byte-n.ensures at c.in_err-check_count.ensures))

pub returns-in_err-check_numbers : goal.returns-in_err-check_numbers
unfolding shape_fault
returns-in_err-check_numbers c =
    exits _ _ _ c.from_residual-in_err-check_numbers.ensures.1
    (none_then _ _ (simp c.byte-n.ensures at c.in_ok-check_count.ensures) ∙ some_then _ _ _ c.in_err-check_numbers.ensures)

pub invariant_of-drawing : goal.invariant_of-drawing
invariant_of-drawing c =
    let n = c.byte-n.result in
    let h : n ≤ 8 = leb-true n 8 (and_parts (leb 3 n) (leb n 8) (test_from_none _ _ c.in_ok-check_count.ensures)).1 in
    let z : n - 0 ≡ n = omega arith in
    let room : length c.corners-corners.result ≡ 8 = search rules in
    let bs = c.args.self.now.bytes.now in
    let at = c.args.self.now.at in
    let t : (k : ℕ) → k < 2 * n → near c.args.limit (signed_2 bs (at + 1 + 2 * k)) ≡ true =
    λ k l. numbers_near c.args.limit bs at (2 * byte bs at) c.in_ok-check_numbers.ensures k (omega (arith, c.byte-n.ensures)) in
    let e : length (take n c.corners-corners.result) ≡ n = length_read bs c.corners-corners.result (at + 1) n room h c.corners-corners.ensures in
    record {
      near = rw z (holds (within_read bs c.corners-corners.result (at + 1) n room h c.corners-corners.ensures c.args.limit 2047 c.requires t));
      few = rw z (omega (arith, e));
      early = omega arith;
    }

pub returns : goal.returns
unfolding shape_fault
returns c =
    let n = c.byte-n.result in
    let h : n ≤ 8 = leb-true n 8 (and_parts (leb 3 n) (leb n 8) (test_from_none _ _ c.in_ok-check_count.ensures)).1 in
    let z : n - 0 ≡ n = omega arith in
    let room : length c.corners-corners.result ≡ 8 = search rules in
    let bs = c.args.self.now.bytes.now in
    let at = c.args.self.now.at in
    let e : outline_of (take n c.corners-corners.result) ≡ corners_at n bs (at + 1) = outline_read bs c.corners-corners.result (at + 1) n room h c.corners-corners.ensures in
    let f : outline_of (take (n - 0) c.corners-corners.result) ≡ shape_at bs at =
    ap (λ (m : ℕ). outline_of (take m c.corners-corners.result)) z ∙ (e ∙ ap (λ (m : ℕ). corners_at m bs (at + 1)) c.byte-n.ensures) in
    tells_second _ _ _ (simp c.byte-n.ensures at c.in_ok-check_count.ensures)
    (tells_second _ _ _ c.in_ok-check_numbers.ensures (simp (f, c.index.ensures.value) at c.check.ensures))
