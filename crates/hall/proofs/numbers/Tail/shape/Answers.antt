use Rattle.std.proofs.Common.{◌≡◌, ℕ, ◌+◌, ◌*◌, ◌<◌, ◌≤◌, List, length, get_or, ap, ◌∙◌, arith, rules}
use Rattle.exact.specs.declared.points.Corner.{Corner}
use Rattle.exact.specs.Points.{corner_of, zero}
use Rattle.hall.specs.Bytes.{byte}
use Rattle.hall.specs.Format.{sound, shape_at, corner_at, corners_at}
use Rattle.hall.specs.Outlines.{outline, within}
use Rattle.hall.specs.Reading.{Drawn}
use Rattle.hall.proofs.Corners.{outline_read}
use Rattle.hall.proofs.Drawings.{holds, within_from_sized}
use Rattle.hall.proofs.Sounds.{length_corners_at, true_sound}
use Rattle.hall.proofs.numbers.Tail.shape.Goals as goal

-- the count of what is drawn is at most eight, and the corners that were read make that shape
module _ (bs : List ℕ) (cs : List Corner) (at n : ℕ) (room : length cs ≡ 8) (count : n ≡ byte bs at)
    (reads : (k : ℕ) → k < 8 → corner_of (get_or cs k zero) ≡ corner_at bs (at + 1 + 4 * k)) (d : Drawn 2047 (shape_at bs at)) where
  few : n ≤ 8
  few = omega (arith, d.sized.few, length_corners_at (byte bs at) bs (at + 1))

  made : outline n cs ≡ shape_at bs at
  made = outline_read bs cs (at + 1) n room few reads ∙ ap (λ (m : ℕ). corners_at m bs (at + 1)) count

pub invariant_of-result : goal.invariant_of-result
invariant_of-result c =
    let bs = c.args.self.now.bytes.now in
    let cs = c.corners.result in
    let room : length cs ≡ 8 = search rules in
    let e = made bs cs c.args.self.now.at c.byte.result room c.byte.ensures c.corners.ensures c.requires in
    let f = few bs cs c.args.self.now.at c.byte.result room c.byte.ensures c.corners.ensures c.requires in
    record {
      few = (f, room, omega arith);
      near = holds (ap (within 2047) e ∙ within_from_sized 2047 (shape_at bs c.args.self.now.at) c.requires.sized);
      sound = holds (ap sound e ∙ true_sound (shape_at bs c.args.self.now.at) c.requires.sound);
    }

pub returns : goal.returns
returns c =
    let room : length c.corners.result ≡ 8 = search rules in
    made c.args.self.now.bytes.now c.corners.result c.args.self.now.at c.byte.result room c.byte.ensures c.corners.ensures c.requires
