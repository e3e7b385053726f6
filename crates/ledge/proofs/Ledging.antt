-- A surface's shadows give its ledges: each run is one, and every free place is on one. Assumes nothing.
use Rattle.std.proofs.Common.{◌≡◌, ℕ, ◌+◌, ◌-◌, ◌*◌, ◌<◌, List, length, get_or, ℤ, pos, ◌<ℤ◌, Some, None, Option, sym, refl, ap, ◌∙◌, subst, inl, inr, ⊎_elim, arith}
use borrow.Author.Differences.{ints}
use Rattle.std.proofs.lemmas.Int.{by_lt_z}
use Rattle.std.proofs.lemmas.Bool.{cases_lt}
use Rattle.std.proofs.lemmas.List.{get_or_past}
use Rattle.algebra.specs.Hall as hall
use Rattle.algebra.specs.Hall.{Corner, Shape, Hall, Free, Straight, at, between}
use Rattle.algebra.specs.Forms.{Same}
use Rattle.algebra.proofs.Forms.{same_place, stretch}
use Rattle.algebra.proofs.Places.{same_standing, straightness}
use Rattle.exact.specs.Meets.{Among}
use Rattle.exact.specs.Points.{place_of}
use Rattle.motion.proofs.DriveStretches.{straight_same}
use Rattle.obstacle.specs.Freedom.{Obstacles}
use Rattle.obstacle.proofs.Freely.{free_exactly}
use Rattle.ledge.specs.declared.parts.Ledge.{Ledge}
use Rattle.ledge.specs.declared.runs.Run.{Run}
use Rattle.ledge.specs.declared.shadows.Shadow.{Shadow}
use Rattle.ledge.specs.declared.spots.Spot.{Spot}
use Rattle.ledge.specs.Coverage.{EndsAt, Beginning, Covered}
use Rattle.ledge.specs.Ledges.{BeginningAt, RunLedge, RunsFrom, LedgeOf, LedgeLaws}
use Rattle.ledge.specs.Lights.{Lights}
use Rattle.ledge.specs.Lines.{left_end, right_end}
use Rattle.ledge.specs.Parts.{Along}
use Rattle.ledge.specs.Runs.{Lit, RunFrom}
use Rattle.ledge.specs.Shadows.{Before, NotAfter}
use Rattle.ledge.specs.Surfaces.{Surface, bottom, top, Stands, On}
use Rattle.ledge.proofs.Covering.{coverage}
use Rattle.ledge.proofs.Lining.{on_lines}
use Rattle.ledge.proofs.Spotting.{not_after_then}
use Rattle.ledge.proofs.Standing as standing
use Rattle.ledge.proofs.Placing.{spot, spot_real, left_to_right, no_order, spots_order, single_same, mix_after, mix_until, mixed_some, mixed_same, free_between}

-- a surface whose ends have one abscissa is a single place
single : (h : Hall) (gs : List Shape) (s : Surface) → Stands gs s → (left_end gs s).x ≡ (right_end h gs s).x → left_end gs s ≡ right_end h gs s
single h gs bottom st e = ap (λ (z : ℤ). record { x = z; y = pos 0 }) e
single h gs (top k i) st e = absurd (omega (arith, ints, st.1.runs))

-- some beginning's run holds p
abbrev OnSome : Hall → List Shape → Surface → List (Option Shadow) → hall.Place → Type 0
OnSome h gs s ss p =
    (c : ℕ) × (c < length gs + 5) × ((e : Spot) × BeginningAt ss c (Some e) × Lit ss e.t e.u × ((l : Ledge) → RunsFrom ss (left_end gs s) (right_end h gs s) c l → Along l p))

on_stands : (h : Hall) (gs : List Shape) (s : Surface) (p : hall.Place) → On h gs s p → Stands gs s
on_stands h gs s p op = standing.stands h gs s p op.reaches

-- a run from another spot of the same parts
run_move : (ss : List (Option Shadow)) (s e : Spot) (r : Run) → s.t ≡ e.t → s.u ≡ e.u → RunFrom ss s r → RunFrom ss e (record { from = e; to = r.to })
run_move ss s e r f g run =
    record {
      from = refl;
      onward = subst (λ (t : ℕ). NotAfter t e.u r.to.t r.to.u) f (subst (λ (u : ℕ). NotAfter s.t u r.to.t r.to.u) g run.onward);
      lit = λ t u z h k. run.lit t u z (subst (λ (y : ℕ). NotAfter y s.u t u) (sym f) (subst (λ (y : ℕ). NotAfter e.t y t u) (sym g) h)) k;
      end = run.end;
    }

-- a shadow has one end
same_end : (o : Option Shadow) (x y : Shadow) (d e : Spot) → o ≡ Some x → o ≡ Some y → x.to ≡ Some d → y.to ≡ Some e → d ≡ e
same_end o x y d e f g h k = let m : x ≡ y = cc in cc

-- a shadow that the list has is within it
ends_within : (ss : List (Option Shadow)) (j : ℕ) (x : Shadow) → get_or ss j None ≡ Some x → j < length ss
ends_within ss j x e =
    ⊎_elim (λ l. l) (λ l. let n = get_or_past ss j None l in let z : ◌≡◌ {A = ℕ} 0 1 = cc in absurd (omega arith)) (cases_lt j (length ss))

module _ (h : Hall) (gs : List Shape) (s : Surface) (ss : List (Option Shadow)) (o : Obstacles h gs) (stands : Stands gs s) (lights : Lights h gs (left_end gs s) (right_end h gs s) ss) where
  module _ (t u : ℕ) (some : 0 < t + u) where
    lit_free : Lit ss t u → Free h (spot (left_end gs s) (right_end h gs s) t u)
    lit_free l =
        (free_exactly h gs (spot (left_end gs s) (right_end h gs s) t u) o (spot_real (left_end gs s) (right_end h gs s) t u some)).1 (lights.clear t u some l)

    free_lit : Free h (spot (left_end gs s) (right_end h gs s) t u) → Lit ss t u
    free_lit f =
        lights.lit t u some ((free_exactly h gs (spot (left_end gs s) (right_end h gs s) t u) o (spot_real (left_end gs s) (right_end h gs s) t u some)).0 f)

  -- ---- a run and its ledge
  module _ (c : Spot) (begins : Beginning ss c) (r : Run) (run : RunFrom ss c r) (l : Ledge) (ledge : RunLedge (left_end gs s) (right_end h gs s) r l) where
    -- the ledge's ends, as spots
    first : Same (place_of l.from) (spot (left_end gs s) (right_end h gs s) c.t c.u)
    first = subst (λ (d : Spot). Same (place_of l.from) (spot (left_end gs s) (right_end h gs s) d.t d.u)) run.from (subst (Same (place_of l.from)) ledge.from (same_place.reflexive (place_of l.from)))

    last : Same (place_of l.to) (spot (left_end gs s) (right_end h gs s) r.to.t r.to.u)
    last = subst (Same (place_of l.to)) ledge.to (same_place.reflexive (place_of l.to))

    real_first : 0 < l.from.w
    real_first = omega (arith, ledge.near.from.real)

    real_last : 0 < l.to.w
    real_last = omega (arith, ledge.near.to.real)

    pub on_first : On h gs s (place_of l.from)
    on_first = on_lines.on h gs s (place_of l.from) stands real_first (record { t = c.t; u = c.u; some = c.some; same = first })

    pub on_last : On h gs s (place_of l.to)
    on_last = on_lines.on h gs s (place_of l.to) stands real_last (record { t = r.to.t; u = r.to.u; some = r.to.some; same = last })

    -- a place at a spot of the run is along the ledge
    module _ (p : hall.Place) (t u : ℕ) (some : 0 < t + u) (same : Same p (spot (left_end gs s) (right_end h gs s) t u)) where
      pub along_run : NotAfter c.t c.u t u → NotAfter t u r.to.t r.to.u → Along l p
      along_run f g =
          let w = on_lines.onward h gs s stands in
          record {
            from = left_to_right (left_end gs s) (right_end h gs s) (place_of l.from) p c.t c.u t u c.some some first same w f;
            to = left_to_right (left_end gs s) (right_end h gs s) p (place_of l.to) t u r.to.t r.to.u some r.to.some same last w g;
          }

      -- and one along the ledge is at a spot of the run
      run_from : 0 < p.w → (left_end gs s).x <ℤ (right_end h gs s).x → Along l p → NotAfter c.t c.u t u
      run_from wp w a = spots_order (left_end gs s) (right_end h gs s) (place_of l.from) p c.t c.u t u c.some some first same real_first wp w a.from

      run_to : 0 < p.w → (left_end gs s).x <ℤ (right_end h gs s).x → Along l p → NotAfter t u r.to.t r.to.u
      run_to wp w a = spots_order (left_end gs s) (right_end h gs s) p (place_of l.to) t u r.to.t r.to.u some r.to.some same last wp real_last w a.to

    -- ---- between two spots of the run all is free
    straight_run : (t u v w : ℕ) → 0 < t + u → 0 < v + w → NotAfter c.t c.u t u → NotAfter t u r.to.t r.to.u → NotAfter c.t c.u v w → NotAfter v w r.to.t r.to.u →
        Straight h (spot (left_end gs s) (right_end h gs s) t u) (spot (left_end gs s) (right_end h gs s) v w)
    unfolding Straight
    straight_run t u v w n m f g i j x y z =
        let a = left_end gs s in
        let b = right_end h gs s in
        let p = (t + u) * x in
        let q = (v + w) * y in
        let e = mixed_some t u v w x y n m z in
        let k = run.lit (v * p + t * q) (w * p + u * q) e (mix_after t u v w p q c.t c.u f i) (mix_until t u v w p q r.to.t r.to.u g j) in
        let mid = between (spot a b t u) (spot a b v w) x y in
        let there = spot a b (v * p + t * q) (w * p + u * q) in
        let real = mid_real t u v w x y n m z in
        same_standing.free h there mid real (same_place.symmetric mid there (mixed_same a b t u v w x y)) (lit_free (v * p + t * q) (w * p + u * q) e k)
      where
        mid_real : (t u v w x y : ℕ) → 0 < t + u → 0 < v + w → 0 < x + y → 0 < (between (spot (left_end gs s) (right_end h gs s) t u) (spot (left_end gs s) (right_end h gs s) v w) x y).w
        mid_real t u v w x y n m z =
            stretch.real (spot (left_end gs s) (right_end h gs s) t u) (spot (left_end gs s) (right_end h gs s) v w) x y
            (spot_real (left_end gs s) (right_end h gs s) t u n) (spot_real (left_end gs s) (right_end h gs s) v w m) z

    -- on a single place all is as at the run's beginning
    straight_single : left_end gs s ≡ right_end h gs s → (t u v w : ℕ) → 0 < t + u → 0 < v + w → Straight h (spot (left_end gs s) (right_end h gs s) t u) (spot (left_end gs s) (right_end h gs s) v w)
    straight_single e t u v w n m =
        let a = left_end gs s in
        let b = right_end h gs s in
        straight_same h (spot a b c.t c.u) (spot a b c.t c.u) (spot a b t u) (spot a b v w) (spot_real a b t u n) (spot_real a b v w m)
        (single_same a b c.t c.u t u e) (single_same a b c.t c.u v w e)
        (straight_run c.t c.u c.t c.u c.some c.some (omega arith) run.onward (omega arith) run.onward)

    pub joins : (p q : hall.Place) → On h gs s p → On h gs s q → Along l p → Along l q → Straight h p q
    joins p q op oq ap aq =
        let a = left_end gs s in
        let b = right_end h gs s in
        let k = on_lines.among h gs s p op in
        let m = on_lines.among h gs s q oq in
        straight_same h (spot a b k.t k.u) (spot a b m.t m.u) p q op.real oq.real (same_place.symmetric p (spot a b k.t k.u) k.same) (same_place.symmetric q (spot a b m.t m.u) m.same)
        (by_lt_z a.x b.x
        (λ w.
        straight_run k.t k.u m.t m.u k.some m.some
        (run_from p k.t k.u k.some k.same op.real w ap) (run_to p k.t k.u k.some k.same op.real w ap)
        (run_from q m.t m.u m.some m.same oq.real w aq) (run_to q m.t m.u m.some m.same oq.real w aq))
        (λ w. straight_single (single h gs s stands (omega (arith, ints, on_lines.onward h gs s stands, w))) k.t k.u m.t m.u k.some m.some))

    -- ---- a free stretch doesn't leave the run: what parts its end from the rest of the surface would be on the stretch
    module _ (p q : hall.Place) (op : On h gs s p) (oq : On h gs s q) (ap : Along l p) (free : Straight h p q) where
      -- the stretch, by its spots
      spots_straight : (k : Among (left_end gs s) (right_end h gs s) p) (m : Among (left_end gs s) (right_end h gs s) q) → Straight h (spot (left_end gs s) (right_end h gs s) k.t k.u) (spot (left_end gs s) (right_end h gs s) m.t m.u)
      spots_straight k m =
          straight_same h p q (spot (left_end gs s) (right_end h gs s) k.t k.u) (spot (left_end gs s) (right_end h gs s) m.t m.u)
          (spot_real (left_end gs s) (right_end h gs s) k.t k.u k.some) (spot_real (left_end gs s) (right_end h gs s) m.t m.u m.some) k.same m.same free

      module _ (k : Among (left_end gs s) (right_end h gs s) p) (m : Among (left_end gs s) (right_end h gs s) q) (w : (left_end gs s).x <ℤ (right_end h gs s).x) where
        not_before : Before m.t m.u c.t c.u → ⊥
        not_before d =
            let a = left_end gs s in
            let b = right_end h gs s in
            let x = coverage.parted_before ss lights.opens c begins m.t m.u m.some d in
            let f = run_from p k.t k.u k.some k.same op.real w ap in
            let g = not_after_then x.a x.b c.t c.u k.t k.u c.some x.to f in
            x.dark (free_lit x.a x.b x.some
            (free_between h a b m.t m.u k.t k.u x.a x.b m.some k.some x.some (straightness.back h (spot a b k.t k.u) (spot a b m.t m.u) (spots_straight k m)) x.from g))

        not_past : Before r.to.t r.to.u m.t m.u → ⊥
        not_past d =
            let a = left_end gs s in
            let b = right_end h gs s in
            let x = coverage.parted_after ss lights.opens c r run m.t m.u m.some d in
            let f = run_to p k.t k.u k.some k.same op.real w ap in
            let g = not_after_then k.t k.u r.to.t r.to.u x.a x.b r.to.some f x.from in
            x.dark (free_lit x.a x.b x.some (free_between h a b k.t k.u m.t m.u x.a x.b k.some m.some x.some (spots_straight k m) g x.to))

      pub whole : Along l q
      whole =
          let a = left_end gs s in
          let b = right_end h gs s in
          let k = on_lines.among h gs s p op in
          let m = on_lines.among h gs s q oq in
          by_lt_z a.x b.x
          (λ w.
          along_run q m.t m.u m.some m.same
          (⊎_elim (λ d. absurd (not_before k m w d)) (λ d. d) (cases_lt (m.t * c.u) (c.t * m.u)))
          (⊎_elim (λ d. absurd (not_past k m w d)) (λ d. d) (cases_lt (r.to.t * m.u) (m.t * r.to.u))))
          (λ w.
          let e : a.x ≡ b.x = omega (arith, ints, on_lines.onward h gs s stands, w) in
          record {
            from = no_order a b (place_of l.from) q c.t c.u m.t m.u c.some m.some first m.same e;
            to = no_order a b q (place_of l.to) m.t m.u r.to.t r.to.u m.some r.to.some m.same last e;
          })

    pub ledge_of_run : LedgeOf h gs s l
    ledge_of_run =
        record {
          near = ledge.near;
          from = on_first;
          to = on_last;
          free = joins (place_of l.from) (place_of l.to) on_first on_last
              (along_run (place_of l.from) c.t c.u c.some first (omega arith) run.onward)
              (along_run (place_of l.to) r.to.t r.to.u r.to.some last run.onward (omega arith));
          whole = λ p q op oq ap f. whole p q op oq ap f;
          joins = joins;
        }

  -- ---- beginnings by their numbers
  beginning_of : (c : ℕ) (e : Spot) → BeginningAt ss c (Some e) → Beginning ss e
  beginning_of c e b =
      ⊎_elim
      (λ z. inl z.1)
      (λ z.
      let w = z.1 in
      inr (record { j = c - 1; within = ends_within ss (c - 1) w.0 w.1; shadow = w.0; is = w.1; here = w.2 }))
      b

  pub sound : (c : ℕ) (l : Ledge) → RunsFrom ss (left_end gs s) (right_end h gs s) c l → LedgeOf h gs s l
  sound c l r = ledge_of_run r.spot (beginning_of c r.spot r.begins) r.run r.runs l r.ledge

  -- ---- a free place of the surface is on the run of some beginning
  module _ (p : hall.Place) (op : On h gs s p) (free : Free h p) where
    here : Among (left_end gs s) (right_end h gs s) p
    here = on_lines.among h gs s p op

    lit_here : Lit ss here.t here.u
    lit_here = free_lit here.t here.u here.some (same_standing.free h p (spot (left_end gs s) (right_end h gs s) here.t here.u) (spot_real (left_end gs s) (right_end h gs s) here.t here.u here.some) here.same free)

    cover : Covered ss here.t here.u
    cover = coverage.covers ss lights.opens here.t here.u here.some lit_here

    -- the run of that beginning holds the place
    along_cover : (c : ℕ) → ((e : Spot) → BeginningAt ss c (Some e) → (e.t ≡ cover.from.t) × (e.u ≡ cover.from.u)) → (l : Ledge) → RunsFrom ss (left_end gs s) (right_end h gs s) c l → Along l p
    along_cover c only l r =
        let e = only r.spot r.begins in
        along_run r.spot (beginning_of c r.spot r.begins) r.run r.runs l r.ledge p here.t here.u here.some here.same
        (subst (λ (t : ℕ). NotAfter t r.spot.u here.t here.u) (sym e.0) (subst (λ (u : ℕ). NotAfter cover.from.t u here.t here.u) (sym e.1) cover.after))
        (cover.before (record { from = cover.from; to = r.run.to }) (run_move ss r.spot cover.from r.run e.0 e.1 r.runs))

    shadow_end : (c : EndsAt ss cover.from) → c.j < 4 + length gs
    shadow_end c =
        ⊎_elim (λ l. l)
        (λ l. absurd (lights.none c.j l (omega (arith, lights.count, c.within)) c.shadow c.is))
        (cases_lt c.j (4 + length gs))

    from_left : (cover.from.t ≡ 0) × (cover.from.u ≡ 1) → OnSome h gs s ss p
    from_left z = (
      0,
      omega arith,
      (
        cover.from,
        inl (refl, z.0, z.1),
        cover.lit,
        along_cover 0 (λ e b. ⊎_elim (λ y. (y.1 ∙ sym z.0, y.2 ∙ sym z.1)) (λ y. absurd (omega (arith, y.0))) b),
      ),
    )

    from_end : EndsAt ss cover.from → OnSome h gs s ss p
    from_end c =
        let n : c.j + 1 - 1 ≡ c.j = omega arith in
        let is : get_or ss (c.j + 1 - 1) None ≡ Some c.shadow = ap (λ (k : ℕ). get_or ss k None) n ∙ c.is in (
          c.j + 1,
          omega (arith, shadow_end c),
          (
            cover.from,
            inr (omega arith, (c.shadow, is, c.here)),
            cover.lit,
            along_cover (c.j + 1)
                (λ e b.
                ⊎_elim
                (λ y. absurd (omega (arith, y.0)))
                (λ y. let same = same_end (get_or ss (c.j + 1 - 1) None) y.1.0 c.shadow e cover.from y.1.1 is y.1.2 c.here in (ap (λ (d : Spot). d.t) same, ap (λ (d : Spot). d.u) same))
                b),
          ),
        )

    pub complete : OnSome h gs s ss p
    complete = ⊎_elim from_left from_end cover.begins

pub ledge_laws : LedgeLaws
ledge_laws =
    record {
      sound = λ h gs s ss o st lights c l r. sound h gs s ss o st lights c l r;
      complete = λ h gs s ss o lights p op free. complete h gs s ss o (on_stands h gs s p op) lights p op free;
    }
