-- The walk over the stretches of a way, as the code goes: the places, beside each where its stretch ends. Assumes nothing.
use Rattle.std.proofs.Common.{T, ◌≡◌, ℕ, ◌+◌, ◌<◌, Bor, Iter, List, Option, Some, None, map, length, get_or, sym, ap, ◌∙◌, subst, arith}
use Rattle.std.specs.declared.iter.Enumerate.{Enumerate}
use Rattle.std.specs.declared.iter.Zip.{Zip}
use Rattle.std.specs.Iterator.{Yields}
use Rattle.std.specs.Iterator.Adapters.{enumerate_steps}
use Rattle.std.specs.List.{zip, enumerate_from, list_all}
use Rattle.std.proofs.iter.Yields.{fronts}
use Rattle.std.proofs.lemmas.Iterator.{YieldsList, zips}
use Rattle.std.proofs.lemmas.Iterator.Consumers.{YieldsList-turn, YieldsList-end}
use Rattle.std.proofs.lemmas.List.{get_or-map, length-map}
use Rattle.algebra.specs.Hall.{Place}
use Rattle.std.proofs.lemmas.List.FromFn.{length-enumerate_from, get_or-enumerate_from}
use Rattle.std.proofs.lemmas.Slice.Zip.{length-zip, get_or-zip}
use Rattle.exact.specs.declared.points.Place as code
use Rattle.exact.specs.Points.{place_of}
use Rattle.motion.specs.Driving.{place, stretches, ahead}
use Rattle.motion.proofs.Judging.{route_bounded, stretches_few, stretches_within, ahead_within}
use Rattle.hall.specs.Outlines.{bounded}
use Rattle.hall.specs.Tasks.{Bounded}

abbrev pub Walk : Type 0
Walk = Enumerate (Zip (Iter code.Place) (Iter code.Place))

abbrev pub walks : Walk → Option (ℕ × (Bor code.Place × Bor code.Place)) → Walk → Type 0
walks = enumerate_steps (zips fronts fronts)

-- a walk goes along the stretches of a way
pub record Along (ps : List code.Place) (s : Walk) : Type 0 where
  pub ends : List code.Place
  pub count : length ends ≡ stretches (length ps)
  pub each : (k : ℕ) (d : code.Place) → k < stretches (length ps) → get_or ends k d ≡ get_or ps (ahead (length ps) k) d
  pub road : YieldsList walks (λ x. (x.0, (x.1.0.now, x.1.1.now))) s (enumerate_from 0 (zip ps ends))

-- its turn n is stretch n
pub record Turn (ps : List code.Place) (n k : ℕ) (p q : code.Place) : Type 0 where
  pub number : k ≡ n
  pub within : n < stretches (length (map place_of ps))
  pub from : place_of p ≡ place (map place_of ps) n
  pub to : place_of q ≡ place (map place_of ps) (ahead (length (map place_of ps)) n)

module _ (ps : List code.Place) (s : Walk) (a : Along ps s) (xs : List (ℕ × (Bor code.Place × Bor code.Place))) (t : Walk) (y : Yields walks s xs t) (r : Option (ℕ × (Bor code.Place × Bor code.Place))) (u : Walk) where
  pub turn : (k : ℕ) (p q : Bor code.Place) → r ≡ Some (k, (p, q)) → walks t r u → Turn ps (length xs) k p.now q.now
  turn k p q e w =
      let n = length xs in
      let x = YieldsList-turn a.road xs t y r u (k, (p, q)) e w in
      let l : n < length (zip ps a.ends) = omega (arith, length-enumerate_from 0 (zip ps a.ends), x.0) in
      let m : n < length ps = omega (arith, length-zip ps a.ends) in
      let o : n < stretches (length ps) = omega (arith, length-zip ps a.ends, a.count) in
      let z = x.1 ∙ get_or-enumerate_from 0 (zip ps a.ends) n (k, (p.now, q.now)) l ∙ ap (λ (y : code.Place × code.Place). (0 + n, y)) (get_or-zip ps a.ends n (p.now, q.now) m (omega (arith, a.count))) in
      let f : p.now ≡ get_or ps n p.now = ap (λ (y : ℕ × (code.Place × code.Place)). y.1.0) z in
      let g : q.now ≡ get_or ps (ahead (length ps) n) q.now = ap (λ (y : ℕ × (code.Place × code.Place)). y.1.1) z ∙ a.each n q.now o in
      let h = sym (length-map ps place_of) in
      record {
        number = let v : k ≡ 0 + n = ap (λ (y : ℕ × (code.Place × code.Place)). y.0) z in omega arith;
        within = subst (λ (i : ℕ). n < stretches i) h o;
        from = ap place_of f ∙ sym (get_or-map place_of ps n p.now _ m);
        to = subst (λ (i : ℕ). place_of q.now ≡ place (map place_of ps) (ahead i n)) h (ap place_of g ∙ sym (get_or-map place_of ps (ahead (length ps) n) q.now _ (ahead_within (length ps) n m)));
      }

  pub finished : r ≡ None → walks t r u → length xs ≡ stretches (length (map place_of ps))
  finished e w =
      let x = YieldsList-end a.road xs t y r u e w in
      let n = length-enumerate_from 0 (zip ps a.ends) in
      let o : length xs ≡ stretches (length ps) = omega (arith, x.1, n, length-zip ps a.ends, a.count, stretches_few (length ps)) in
      subst (λ (i : ℕ). length xs ≡ stretches i) (sym (length-map ps place_of)) o

-- what holds of a turn's places holds of the ends of stretch n
pub at_turn : (P : Place → Place → Type 0) (ps : List code.Place) (n k : ℕ) (p q : code.Place) → Turn ps n k p q → P (place_of p) (place_of q) → P (place (map place_of ps) n) (place (map place_of ps) (ahead (length (map place_of ps)) n))
at_turn P ps n k p q t h = subst (P (place (map place_of ps) n)) t.to (subst (λ (x : Place). P x (place_of q)) t.from h)

-- and they are as near as all places are
module _ (m : ℕ) (ps : List code.Place) (n k : ℕ) (p q : code.Place) (near : T (list_all (bounded m) ps)) (t : Turn ps n k p q) where
  starts : n < length ps
  starts = omega (arith, stretches_within (length (map place_of ps)) n t.within, length-map ps place_of)

  pub near_from : Bounded m (place_of p)
  near_from = subst (Bounded m) (sym t.from) (route_bounded m ps near n starts)

  pub near_to : Bounded m (place_of q)
  near_to =
      let l : ahead (length (map place_of ps)) n < length ps = omega (arith, ahead_within (length (map place_of ps)) n (omega (arith, starts, length-map ps place_of)), length-map ps place_of) in
      subst (Bounded m) (sym t.to) (route_bounded m ps near (ahead (length (map place_of ps)) n) l)
