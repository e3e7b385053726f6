use Rattle.std.proofs.Common.{◌≡◌, ℕ, ◌+◌, ◌^◌, ◌<◌, List, [], length, get_or, sym, ap, ◌∙◌, subst, ap₂, arith}
use Rattle.std.specs.BTreeMap.{values}
use Rattle.algebra.specs.Hall.{Shape}
use Rattle.hall.specs.declared.audit.Layout.{Layout}
use Rattle.hall.specs.Format.{shape_at, shapes_at, place_at, count_from, thing_count, things_from, start_from, goal_from, task_at, task_bytes, task_fault}
use Rattle.hall.specs.Halls.{task_of}
use Rattle.hall.specs.Outlines.{within}
use Rattle.hall.specs.Tasks.{Sized, Bounded, Fit}
use Rattle.hall.proofs.Drawings.{holds, within_from_sized, bounded_from}
use Rattle.hall.proofs.Readings.{bytes_from_fits, refuses, fit, load_sized, load_drawn, thing_drawn, few_things, all_within_from, same_task}
use Rattle.hall.proofs.Roundtrip.{task_reads_back, task_writes_back}
use Rattle.hall.proofs.reader.read_hall.Goals as goal

pub returns-in_err-check_task : goal.returns-in_err-check_task
returns-in_err-check_task c =
    refuses task_fault task_at Fit task_bytes task_of (λ t f. (task_reads_back t f).0) c.args.bytes.now _ _ c.from_residual.ensures.1 c.in_err-check_task.ensures

pub read_things-requires : goal.read_things-requires
read_things-requires c =
    let g = c.lay_out-layout.ensures in
    λ k l. simp (g.bytes, g.count_from) (thing_drawn c.args.bytes.now c.in_ok-check_task.ensures k (omega (arith, g.things)))

pub shape-requires : goal.shape-requires
shape-requires c = load_drawn c.args.bytes.now c.in_ok-check_task.ensures

-- the things, the start and the goal as they stand in the bytes
module _ (bs : List ℕ) (l : Layout) (same : l.bytes.now ≡ bs) (count : l.count_from ≡ count_from bs) (things : l.things ≡ thing_count bs) (start : l.start_from ≡ start_from bs) where
  things-are : shapes_at l.things l.bytes.now (l.count_from + 1) ≡ shapes_at (thing_count bs) bs (things_from bs)
  things-are = ap (λ cs. shapes_at l.things cs (l.count_from + 1)) same ∙ ap₂ (λ (n c : ℕ). shapes_at n bs (c + 1)) things count

  start_is : place_at bs l.start_from ≡ place_at bs (start_from bs)
  start_is = ap (place_at bs) start

  goal-is : place_at bs (l.start_from + 24) ≡ place_at bs (goal_from bs)
  goal-is = ap (λ (i : ℕ). place_at bs (i + 24)) start

abbrev EachSized : List Shape → Type 0
EachSized ss = (k : ℕ) → k < length ss → Sized 1000 (get_or ss k [])

pub invariant_of-result : goal.invariant_of-result
unfolding task_at
invariant_of-result c =
    let bs = c.args.bytes.now in
    let l = c.lay_out-layout.result in
    let g = c.lay_out-layout.ensures in
    let e = c.in_ok-check_task.ensures in
    let f = fit bs e in
    let m = c.in_ok-things.ensures in
    let b = few_things bs e in
    let ts = m.0 ∙ things-are bs l (ap (λ b. b.now) g.bytes) g.count_from g.things g.start_from in
    let s = c.place.ensures ∙ start_is bs l (ap (λ b. b.now) g.bytes) g.count_from g.things g.start_from in
    let t = c.place-2.ensures ∙ goal-is bs l (ap (λ b. b.now) g.bytes) g.count_from g.things g.start_from in
    record {
      walls = (omega (arith, f.wide, c.u16.ensures), omega (arith, f.high, c.u16-2.ensures));
      few = omega (arith, m.1, g.things);
      lawful = m.2;
      near = (
        holds (ap (within 200) c.shape.ensures ∙ within_from_sized 200 (shape_at bs 4) (load_sized bs e)),
        holds (all_within_from 1000 (values c.in_ok-things.things) (subst EachSized (sym ts) f.things)),
      );
      ends = (
        holds (bounded_from (2 ^ 20) c.place.result (subst (Bounded (2 ^ 20)) (sym s) f.start)),
        holds (bounded_from (2 ^ 20) c.place-2.result (subst (Bounded (2 ^ 20)) (sym t) f.goal)),
      );
    }

pub returns : goal.returns
unfolding task_at
returns c =
    let bs = c.args.bytes.now in
    let l = c.lay_out-layout.result in
    let g = c.lay_out-layout.ensures in
    let e = c.in_ok-check_task.ensures in
    let r =
    same_task c.shape.ensures (c.in_ok-things.ensures.0 ∙ things-are bs l (ap (λ b. b.now) g.bytes) g.count_from g.things g.start_from) c.u16.ensures c.u16-2.ensures
    (c.place.ensures ∙ start_is bs l (ap (λ b. b.now) g.bytes) g.count_from g.things g.start_from) (c.place-2.ensures ∙ goal-is bs l (ap (λ b. b.now) g.bytes) g.count_from g.things g.start_from) in
    let w = task_writes_back bs (bytes_from_fits bs c.type_inv.bytes) e in
    record { faultless = e; read = r; written = sym w.0 ∙ ap task_bytes (sym r); good = subst Fit (sym r) w.1 }
