-- What bytes without a fault give to the reader, and what a refusal says. Assumes nothing.
use Rattle.std.proofs.Common.{◌≡◌, ℕ, suc, ◌<◌, ◌≤◌, true, List, [], ◌∷◌, map, length, get_or, IsErrAnd, Some, None, Option, Result, refl, ap, ◌∙◌, subst, inl, arith, w8, Fits}
use Rattle.std.specs.List.{list_all}
use Rattle.std.proofs.lemmas.Result.{err_from_is_err_and}
use Rattle.std.proofs.lemmas.Int.{ints}
use Rattle.std.proofs.lemmas.Bool.{and_from}
use Rattle.algebra.specs.Hall as hall
use Rattle.algebra.specs.Hall.{Place, Sound}
use Rattle.algebra.specs.Near.{Near}
use Rattle.exact.specs.declared.points.Place as code
use Rattle.exact.specs.Points.{place_of}
use Rattle.hall.specs.declared.refusals.Refusal.{Refusal}
use Rattle.hall.specs.declared.shapes.Shape.{Shape}
use Rattle.hall.specs.Format.{shape_at, past, thing_count, things_from, task_at, task_fault}
use Rattle.hall.specs.Laws.{Bytes}
use Rattle.hall.specs.Outlines.{bounded}
use Rattle.hall.specs.Reading.{Drawn, Refused, Read}
use Rattle.hall.specs.Shapes.{shape_of, drawn_within}
use Rattle.hall.specs.Tasks.{Task, Sized, Bounded, Fit}
use Rattle.hall.proofs.Drawings.{within_from_sized, bounded_from}
use Rattle.hall.proofs.Sounds.{length_shapes_at, item_shapes_at}
use Rattle.hall.proofs.Taken.{fit_from_fault}

-- bytes of the code are bytes
pub bytes_from_fits : (bs : List ℕ) → ((i : ℕ) → Fits w8 (get_or bs i 0)) → Bytes bs
bytes_from_fits [] h = tt
bytes_from_fits (b ∷ bs) h = (let f = h 0 in omega (arith, f.fits), bytes_from_fits bs (λ i. h (suc i)))

-- ---- a refusal
module _ {X V : Type 0} (fault : List ℕ → Option Refusal) (at : List ℕ → X) (Good : X → Type 0) (write : X → List ℕ) (of : V → X)
    (back : (x : X) → Good x → fault (write x) ≡ None) where
  refused_from : (bs : List ℕ) (e : Refusal) → fault bs ≡ Some e → Refused fault at Good write bs e
  refused_from bs e h =
      record { first = h; nothing = λ x g w. let n : fault bs ≡ None = ap fault w ∙ back x g in let z : ◌≡◌ {A = ℕ} 0 1 = cc in omega arith }

  -- the exit of the `?` after the audit
  pub refuses : (bs : List ℕ) (r : Result V Refusal) (e : Refusal) → IsErrAnd r (λ y. y ≡ e) → fault bs ≡ Some e → Read fault at Good write of bs r
  refuses bs r e b h = let p = err_from_is_err_and r b in rw (p.1, p.2) (inl (refused_from bs e h))

-- ---- shapes
near_wider : (m l : ℕ) → m ≤ l → {z : _} → Near m z → Near l z
near_wider m l h n = record { low = omega (arith, ints); high = omega (arith, ints) }

wider : (m l : ℕ) (s : hall.Shape) → m ≤ l → Sized m s → Sized l s
wider m l s h z = record { few = z.few; near = λ i k. (near_wider m l h (z.near i k).0, near_wider m l h (z.near i k).1) }

module _ (bs : List ℕ) (e : task_fault bs ≡ None) where
  pub fit : Fit (task_at bs)
  fit = (fit_from_fault bs e).1

  pub load_sized : Sized 200 (shape_at bs 4)
  unfolding task_at
  load_sized = fit.load

  pub load_drawn : Drawn 2047 (shape_at bs 4)
  unfolding task_at
  load_drawn = record { sized = wider 200 2047 (shape_at bs 4) (omega arith) load_sized; sound = fit.proper.load }

  pub thing_sized : (k : ℕ) → k < thing_count bs → Sized 1000 (shape_at bs (past k bs (things_from bs)))
  unfolding task_at
  thing_sized k h =
      subst (Sized 1000) (item_shapes_at (thing_count bs) bs (things_from bs) k h) (fit.things k (rw length_shapes_at h))

  pub thing_drawn : (k : ℕ) → k < thing_count bs → Drawn 2047 (shape_at bs (past k bs (things_from bs)))
  unfolding task_at
  thing_drawn k h =
      record {
        sized = wider 1000 2047 (shape_at bs (past k bs (things_from bs))) (omega arith) (thing_sized k h);
        sound = subst Sound (item_shapes_at (thing_count bs) bs (things_from bs) k h) (fit.proper.things k (rw length_shapes_at h));
      }

  pub few_things : thing_count bs ≤ 40
  unfolding task_at
  few_things = omega (arith, fit.few, length_shapes_at (thing_count bs) bs (things_from bs))

-- several shapes of the code, by what they are
pub all_within_from : {n : ℕ} (m : ℕ) (ss : List (Shape n)) → ((k : ℕ) → k < length (map shape_of ss) → Sized m (get_or (map shape_of ss) k [])) → list_all (drawn_within m) ss ≡ true
all_within_from m [] h = refl
all_within_from m (s ∷ ss) h = and_from _ _ (within_from_sized m (shape_of s) (h 0 (omega arith))) (all_within_from m ss (λ k l. h (suc k) (omega arith)))

-- the same of places
pub all_bounded_from : (m : ℕ) (ps : List code.Place) → ((k : ℕ) (d : Place) → k < length (map place_of ps) → Bounded m (get_or (map place_of ps) k d)) → list_all (bounded m) ps ≡ true
all_bounded_from m [] h = refl
all_bounded_from m (p ∷ ps) h = and_from _ _ (bounded_from m p (h 0 (place_of p) (omega arith))) (all_bounded_from m ps (λ k d l. h (suc k) d (omega arith)))

-- a task, part by part
pub same_task : {l l' : hall.Shape} {ts ts' : List hall.Shape} {w w' h h' : ℕ} {s s' g g' : Place} → l ≡ l' → ts ≡ ts' → w ≡ w' → h ≡ h' → s ≡ s' → g ≡ g' →
    ◌≡◌ {A = Task} (record { hall = record { load = l; things = ts; wide = w; high = h }; start = s; goal = g })
    (record { hall = record { load = l'; things = ts'; wide = w'; high = h' }; start = s'; goal = g' })
same_task a b c d e f = cc
