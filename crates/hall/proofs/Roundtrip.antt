-- Writing and reading undo each other: the laws of the format. Assumes nothing.
use Rattle.std.proofs.Common.{◌≡◌, ℕ, ◌-◌, ◌^◌, ◌<◌, List, [], length, get_or, ℤ, pos, sym, ap, subst, arith, w16, w64, SFits}
use mir.Syntax.{Width}
use mir.Val.{hbits}
use borrow.Author.Differences.{ints}
use Rattle.std.proofs.ByRecursion.{All-from_get_or}
use Rattle.algebra.specs.Hall.{Place, Shape, corner}
use Rattle.algebra.specs.Near.{Near}
use Rattle.hall.specs.Bytes.{little}
use Rattle.hall.specs.Format.{task_bytes, task_at, task_due, way_bytes, way_at, way_due}
use Rattle.hall.specs.Laws.{Bytes, TaskReadsBack, TaskWritesBack, WayReadsBack, WayWritesBack}
use Rattle.hall.specs.Tasks.{Task, Sized, Bounded, Fit, Fitting}
use Rattle.hall.proofs.Digits.{number, little_below}
use Rattle.hall.proofs.Pieces.{pair, reads_all, writes_all}
use Rattle.hall.proofs.Laid.{CornerRoom, PlaceRoom, ShapeRoom, shape_piece, things_piece, place_piece, way_piece}
use Rattle.hall.proofs.Sounds.{length_places_at}
use Rattle.hall.proofs.Taken.{fit_from_fault, fault_from_fit, bounded_from_way_fault, way_fault_from_bounded}

-- ---- what fits has room in its bytes
near_fits : (w : Width) (m : ℕ) (z : ℤ) → m < 2 ^ hbits w → Near m z → SFits w z
near_fits w m z l h = omega (arith, ints)

shape_room : (m : ℕ) (s : Shape) → m < 2 ^ 15 → Sized m s → ShapeRoom s
shape_room m s l h = (
  tt,
  All-from_get_or CornerRoom s (record { x = pos 0; y = pos 0 })
      (λ i k. record { x = near_fits w16 m (corner s i).x l (h.near i k).0; y = near_fits w16 m (corner s i).y l (h.near i k).1 }),
)

place_room : (m : ℕ) (p : Place) → m < 2 ^ 63 → Bounded m p → PlaceRoom p
place_room m p l h = record { x = near_fits w64 m p.x l h.x; y = near_fits w64 m p.y l h.y; w = omega (arith, h.w) }

-- ---- tasks
abbrev Parts : Type 0
Parts = ℕ × (ℕ × (Shape × (List Shape × (Place × Place))))

abbrev parts : Task → Parts
parts t = (t.hall.wide, (t.hall.high, (t.hall.load, (t.hall.things, (t.start, t.goal)))))

abbrev whole : Parts → Task
whole p = record { hall = record { load = p.1.1.0; things = p.1.1.1.0; wide = p.0; high = p.1.0 }; start = p.1.1.1.1.0; goal = p.1.1.1.1.1 }

-- a task is its parts, one after the other
task_back : ((t : Task) → Fit t → (task_at (task_bytes t) ≡ t) × (length (task_bytes t) ≡ task_due (task_bytes t))) × ((bs : List ℕ) → Bytes bs → length bs ≡ task_due bs → task_bytes (task_at bs) ≡ bs)
unfolding task_bytes task_at
task_back =
    let P = pair (number 2) (pair (number 2) (pair shape_piece (pair things_piece (pair place_piece place_piece)))) in (
      λ t h.
          let a = reads_all P (parts t) (
            omega (arith, h.wide),
            (
              omega (arith, h.high),
              (
                shape_room 200 t.hall.load (omega arith) h.load,
                (
                  (tt, All-from_get_or ShapeRoom t.hall.things [] (λ k l. shape_room 1000 (get_or t.hall.things k []) (omega arith) (h.things k l))),
                  (place_room (2 ^ 20) t.start (omega arith) h.start, place_room (2 ^ 20) t.goal (omega arith) h.goal),
                ),
              ),
            ),
          ) in
          (ap whole a.0, a.1),
      writes_all P,
    )

pub task_reads_back : TaskReadsBack
task_reads_back t h =
    let a = task_back.0 t h in
    (fault_from_fit (task_bytes t) a.1 (subst Fit (sym a.0) h), a.0)

pub task_writes_back : TaskWritesBack
task_writes_back bs h e =
    let a = fit_from_fault bs e in
    (task_back.1 bs h a.0, a.1)

-- ---- ways
way_read : (ps : List Place) → Fitting ps → (way_at (way_bytes ps) ≡ ps) × (length (way_bytes ps) ≡ way_due (way_bytes ps))
unfolding way_bytes way_at
way_read ps h =
    reads_all way_piece ps
    (omega (arith, h.few), All-from_get_or PlaceRoom ps nowhere (λ k l. place_room (2 ^ 60 - 1) (get_or ps k nowhere) (omega arith) (h.places k nowhere l)))
  where
    nowhere : Place
    nowhere = record { x = pos 0; y = pos 0; w = 0 }

pub way_reads_back : WayReadsBack
way_reads_back ps h =
    let a = way_read ps h in
    (way_fault_from_bounded (way_bytes ps) a.1 (subst Fitting (sym a.0) h).places, a.0)

pub way_writes_back : WayWritesBack
unfolding way_bytes way_at
way_writes_back bs h e =
    let a = bounded_from_way_fault bs e in
    (writes_all way_piece bs h a.0, record { few = omega (arith, little_below 2 bs 0 h, length_places_at (little 2 bs 0) bs 2); places = a.1 })
