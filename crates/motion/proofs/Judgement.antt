-- From what the parts of the checker say of obstacles to what the checker says of things. Assumes nothing.
use Rattle.std.proofs.Common.{vec_items, ◌-◌, ◌^◌, ◌≡◌, ℕ, ◌<◌, List, [], length, get_or, IsErrAnd, Ok, Err, Result, sym, subst, arith}
use Rattle.std.proofs.lemmas.Result.{err_from_is_err_and}
use Rattle.algebra.specs.Hall.{Place, Shape, Hall, between}
use Rattle.algebra.proofs.Forms.{stretch}
use Rattle.hall.specs.declared.refusals.Refusal.{Refusal}
use Rattle.hall.specs.declared.refusals.Refusal.TheVariants.{Memory}
use Rattle.obstacle.specs.Freedom.{Obstacles}
use Rattle.std.proofs.lemmas.List.{length-map}
use Rattle.exact.specs.Points.{place_of}
use Rattle.hall.specs.declared.halls.Hall as hall
use Rattle.hall.specs.declared.routes.Route as route
use Rattle.hall.specs.Halls.{task_of}
use Rattle.hall.specs.Routes.{places_of}
use Rattle.motion.specs.Checking.{AllRight, WrongPlace, Blocked, StretchPasses, PassesAll, StretchesJudged}
use Rattle.motion.specs.Driving.{place, ahead, stretches, Drives, Judged, Collides}
use Rattle.motion.specs.Stretch.{Enters}
use Rattle.motion.proofs.DriveClear.{drives_if_clear}
use Rattle.motion.proofs.DriveNever.{never_refused}
use Rattle.motion.proofs.Judging.{bounded_holds, route_bounded, stretches_within, ahead_within}

-- ---- the verdict
pub judged_wrong : (h : Hall) (s t : Place) (ps : List Place) (r : Result (Unit {0}) Refusal) (e : Refusal) → IsErrAnd r (λ y. y ≡ e) → WrongPlace h s t ps e → Judged h s t ps r
judged_wrong h s t ps r e b w =
    let p = err_from_is_err_and r b in
    rw (p.1, p.2) (subst (λ (x : Refusal). Judged h s t ps (Err x)) (sym w.is) w.first)

module _ (h : Hall) (s t : Place) (ps : List Place) (gs : List Shape) (o : Obstacles h gs) (sw : 0 < s.w) (tw : 0 < t.w) (real : (k : ℕ) → k < length ps → 0 < (place ps k).w) where
  -- on a stretch, the load meets a thing exactly if the stretch enters its obstacle
  meets_from : (k j : ℕ) → k < length ps → ahead (length ps) k < length ps → j < length h.things → Enters (get_or gs j []) (place ps k) (place ps (ahead (length ps) k)) → Collides h ps k j
  meets_from k j l m n e =
      let z = between (place ps k) (place ps (ahead (length ps) k)) e.t e.u in
      let w : 0 < z.w = stretch.real (place ps k) (place ps (ahead (length ps) k)) e.t e.u (real k l) (real (ahead (length ps) k) m) e.some in
      record { t = e.t; u = e.u; some = e.some; meets = (o.grown j n).inside_meets z w e.inside }

  enters_from : (k j : ℕ) → k < length ps → ahead (length ps) k < length ps → j < length h.things → Collides h ps k j → Enters (get_or gs j []) (place ps k) (place ps (ahead (length ps) k))
  enters_from k j l m n c =
      let z = between (place ps k) (place ps (ahead (length ps) k)) c.t c.u in
      let w : 0 < z.w = stretch.real (place ps k) (place ps (ahead (length ps) k)) c.t c.u (real k l) (real (ahead (length ps) k) m) c.some in
      record { t = c.t; u = c.u; some = c.some; inside = (o.grown j n).meets_inside z w c.meets }

  -- no thing is met on a stretch that passes all obstacles
  none_met : (k : ℕ) → k < stretches (length ps) → StretchPasses gs ps k → (b : ℕ) → b < length h.things → Collides h ps k b → ⊥
  unfolding StretchPasses PassesAll
  none_met k l p b n c =
      let m = stretches_within (length ps) k l in
      p b (omega (arith, o.count)) (enters_from k b m (ahead_within (length ps) k m) n c)

  pub judged_blocked : (e : Refusal) → AllRight h s t ps → Blocked gs ps e → Judged h s t ps (Err e)
  judged_blocked e a b =
      let k = b.k in
      let f = b.here.first in
      let m = stretches_within (length ps) k b.within in
      let n = ahead_within (length ps) k m in
      let j : b.here.j < length h.things = omega (arith, o.count, f.thing) in
      subst (λ (x : Refusal). Judged h s t ps (Err x)) (sym b.here.is)
      (record {
        right = a.right;
        stretch = b.within;
        thing = j;
        here = meets_from k b.here.j m n j f.here;
        on_it = λ i l c. f.on_it i l (enters_from k i m n (omega arith) c);
        before = λ i l. none_met i (omega (arith, b.within)) (b.before i l);
      })

  pub judged_clear : AllRight h s t ps → ((a : ℕ) → a < stretches (length ps) → StretchPasses gs ps a) → Drives h s t ps
  judged_clear a p = drives_if_clear h s t ps sw tw real a.some a.right (λ k l. none_met k l (p k l))

  pub judged : (r : Result (Unit {0}) Refusal) → AllRight h s t ps → StretchesJudged gs ps r → Judged h s t ps r
  judged (Ok x) a j = judged_clear a j
  judged (Err e) a j = judged_blocked e a j

-- ---- of a hall and a way of the code
module _ (h : hall.Hall) (r : route.Route) where
  start-real : 0 < (task_of h).start.w
  start-real = (bounded_holds (2 ^ 20) h.start h.ends.0).real

  goal-real : 0 < (task_of h).goal.w
  goal-real = (bounded_holds (2 ^ 20) h.goal h.ends.1).real

  route-real : (k : ℕ) → k < length (places_of r) → 0 < (place (places_of r) k).w
  route-real k l = (route_bounded (2 ^ 60 - 1) (vec_items r.places) r.near k (omega (arith, length-map (vec_items r.places) place_of))).real

  -- a way that can be driven is never refused
  pub exactly : (x : Result (Unit {0}) Refusal) → Judged (task_of h).hall (task_of h).start (task_of h).goal (places_of r) x → Drives (task_of h).hall (task_of h).start (task_of h).goal (places_of r) → (e : Refusal) → x ≡ Err e → e ≡ Memory
  exactly x j d e q =
      never_refused (task_of h).hall (task_of h).start (task_of h).goal (places_of r) e start-real goal-real route-real
      (subst (Judged (task_of h).hall (task_of h).start (task_of h).goal (places_of r)) q j) d

  pub judged_route : (gs : List Shape) → Obstacles (task_of h).hall gs → (x : Result (Unit {0}) Refusal) → AllRight (task_of h).hall (task_of h).start (task_of h).goal (places_of r) → StretchesJudged gs (places_of r) x → Judged (task_of h).hall (task_of h).start (task_of h).goal (places_of r) x
  judged_route gs o = judged (task_of h).hall (task_of h).start (task_of h).goal (places_of r) gs o start-real goal-real route-real
