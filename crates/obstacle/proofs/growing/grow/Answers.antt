use Rattle.std.proofs.Common.{◌≡◌, ℕ, ◌+◌, ◌<◌, ◌≤◌, List, length, replicate, set, refl, ◌∙◌, arith, rules}
use Rattle.std.proofs.lemmas.List.{length-set, length-replicate}
use Rattle.algebra.specs.Hall as hall
use Rattle.exact.specs.declared.points.Corner.{Corner}
use Rattle.exact.specs.Points.{zero}
use Rattle.hall.specs.declared.shapes.Shape.{Shape as Shaped}
use Rattle.hall.specs.Outlines.{outline}
use Rattle.hall.specs.Shapes.{shape_of}
use Rattle.hall.proofs.Drawings.{holds}
use Rattle.hall.proofs.Kept.{sound_kept}
use Rattle.hall.proofs.Sounds.{true_sound}
use Rattle.obstacle.specs.declared.walks.Walks.{Walks}
use Rattle.obstacle.specs.Growing.{IsRound, MetAt, StepsOn}
use Rattle.obstacle.proofs.Freely.{within_wider}
use Rattle.obstacle.proofs.GrowBounds.{both_fit}
use Rattle.obstacle.proofs.GrowShape.{GrownShape, grown_from_walk}
use Rattle.obstacle.proofs.GrowWalk.{Walked, walked_none, walked_few, walked_on}
use Rattle.obstacle.proofs.Merging.{merging}
use Rattle.obstacle.proofs.growing.grow.Goals as goal

pub loop-corner-init : goal.loop-corner-init
loop-corner-init g c =
    let walks = c.into_iter-corner-iterator.result in
    record {
      walked = walked_none (shape_of c.args.load.now) (shape_of c.args.thing.now) walks (search rules) (replicate g.row.G zero);
      room = length-replicate g.row.G zero;
    }

-- one turn of the loop
turn : {k m n : ℕ} (load : Shaped m) (thing : Shaped n) (p q : Walks m n) (cs : List Corner) (count : ℕ) (x : Corner) → Walked (shape_of load) (shape_of thing) p cs count → length cs ≡ k → m + n ≤ k →
    MetAt p x × StepsOn p q → (count < k) × Walked (shape_of load) (shape_of thing) q (set cs count x) (count + 1)
turn {k} load thing p q cs count x w e room on = walked_on (shape_of load) (shape_of thing) p q cs count w x on.0 on.1 k e (both_fit load thing room)

pub bounds-corners-count : goal.bounds-corners-count
bounds-corners-count g c =
    let l = c.loop-corner in
    (turn c.args.load.now c.args.thing.now l.corner-iterator c.next.new.self l.corners l.count c.in-Some.corner l.invariant.walked l.invariant.room c.requires.room c.in-Some.ensures.steps).0

pub loop-corner-preserved : goal.loop-corner-preserved
loop-corner-preserved g c =
    let l = c.loop-corner in
    let x = c.in-Some.corner in
    record {
      walked = (turn c.args.load.now c.args.thing.now l.corner-iterator c.next.new.self l.corners l.count x l.invariant.walked l.invariant.room c.requires.room c.in-Some.ensures.steps).1;
      room = length-set l.corners l.count x ∙ l.invariant.room;
    }

-- what the corners that were met make, under any name
made : {k m n : ℕ} (load : Shaped m) (thing : Shaped n) (p : Walks m n) (cs : List Corner) (count : ℕ) → Walked (shape_of load) (shape_of thing) p cs count → length cs ≡ k → m + n ≤ k → IsRound p →
    (s : hall.Shape) → s ≡ outline count cs → (count ≤ k) × GrownShape (shape_of load) (shape_of thing) s
made load thing p cs count w e room round s is =
    let few = walked_few (shape_of load) (shape_of thing) p cs count w in
    let fit : count ≤ length cs = omega (arith, both_fit load thing room) in (
      omega arith,
      grown_from_walk merging (shape_of load) (shape_of thing) p cs count (sound_kept (shape_of load) load.sound) (sound_kept (shape_of thing) thing.sound) fit w round s is,
    )

pub new-requires : goal.new-requires
new-requires g c =
    let l = c.loop-corner in
    let s = outline l.count l.corners in
    let m = made c.args.load.now c.args.thing.now l.corner-iterator l.corners l.count l.invariant.walked l.invariant.room c.requires.room c.in-None.ensures.steps s refl in
    (search rules, (search rules, ((m.0, l.invariant.room), (within_wider 2000 2047 s (omega arith) m.1.near, holds (true_sound s m.1.sound)))))

pub returns : goal.returns
returns g c =
    let l = c.loop-corner in
    let m =
    made c.args.load.now c.args.thing.now l.corner-iterator l.corners l.count l.invariant.walked l.invariant.room c.requires.room c.in-None.ensures.steps (shape_of c.new.result) c.new.ensures in
    record { grown = m.1.grown; few = m.1.few; near = m.1.near }
