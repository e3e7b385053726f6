-- What bars the places of a surface: how far its ends are beyond a wall, and the shadows of all bars together. Assumes nothing.
use Rattle.std.proofs.Common.{◌≡◌, ℕ, zero, suc, ◌+◌, ◌-◌, ◌*◌, ◌<◌, ◌≤◌, List, [], ◌∷◌, length, get_or, ℤ, pos, ◌+ℤ◌, ◌-ℤ◌, ◌*ℤ◌, ◌<ℤ◌, Some, None, Option, sym, refl, ◌∙◌, subst, ap₂, ⊎_elim, arith, MatchOption}
use borrow.Author.Differences.{ints}
use Rattle.std.proofs.lemmas.Bool.{cases_eq, cases_lt}
use Rattle.std.proofs.lemmas.List.{length-replicate, get_or_past, get_or-replicate, get_or-set_same, get_or-set_other, length-set}
use Rattle.std.proofs.Math.ListN.{set, replicate}
use Rattle.std.proofs.lemmas.Int.{by_lt_z}
use Rattle.algebra.specs.Hall.{Corner, Place, Shape, Hall, at, between}
use Rattle.algebra.specs.Near.{Near}
use Rattle.algebra.proofs.Polynomial.{forms, by_ring}
use Rattle.algebra.proofs.Forms.{of_corner}
use Rattle.obstacle.specs.Freedom.{Clear, Apart}
use Rattle.exact.specs.declared.points.Ends.{Ends}
use Rattle.exact.specs.declared.points.Corner as exact
use Rattle.exact.specs.Points.{corner_of}
use Rattle.exact.specs.Sides.{CornerNear}
use Rattle.ledge.specs.declared.lights.Wall.{Wall}
use Rattle.ledge.specs.declared.lights.Wall.TheVariants.{Left, Right, Lower, Upper}
use Rattle.ledge.specs.declared.shadows.Shadow.{Shadow}
use Rattle.ledge.specs.Coverage.{AllOpen}
use Rattle.ledge.specs.Lights.{past, wall_number, Barred, Bars, Lights}
use Rattle.ledge.specs.Runs.{Lit, Shaded}
use Rattle.ledge.specs.Shadows.{Dark, Opens, reading, Cut, Gone, Casts}
use Rattle.ledge.specs.Surfaces.{obstacle}

-- ---- the walls
-- how far a place is beyond a wall is a linear form of it
past_along : (h : Hall) (w : Wall) (a b : Corner) (t u : ℕ) → (past h w (at a) *ℤ pos u) +ℤ (past h w (at b) *ℤ pos t) ≡ past h w (between (at a) (at b) t u)
unfolding between
past_along h Left a b t u = by_ring (of_corner a (of_corner b (pos t ∷ pos u ∷ []))) (search forms depth 60 fits 99999) refl
past_along h Right a b t u = by_ring (of_corner a (of_corner b (pos h.wide ∷ pos t ∷ pos u ∷ []))) (search forms depth 60 fits 99999) refl
past_along h Lower a b t u = by_ring (of_corner a (of_corner b (pos t ∷ pos u ∷ []))) (search forms depth 60 fits 99999) refl
past_along h Upper a b t u = by_ring (of_corner a (of_corner b (pos h.high ∷ pos t ∷ pos u ∷ []))) (search forms depth 60 fits 99999) refl

pub past_near : (h : Hall) (w : Wall) (a b : exact.Corner) → CornerNear 2047 a → CornerNear 2047 b → Near 33521672 (past h w (at (corner_of a)) -ℤ past h w (at (corner_of b)))
past_near h Left a b m n = record { low = omega (arith, ints, m.x, n.x); high = omega (arith, ints, m.x, n.x) }
past_near h Right a b m n = record { low = omega (arith, ints, m.x, n.x); high = omega (arith, ints, m.x, n.x) }
past_near h Lower a b m n = record { low = omega (arith, ints, m.y, n.y); high = omega (arith, ints, m.y, n.y) }
past_near h Upper a b m n = record { low = omega (arith, ints, m.y, n.y); high = omega (arith, ints, m.y, n.y) }

-- ---- the shadow of one bar
module _ (h : Hall) (gs : List Shape) (a b : Corner) where
  barred_by : (w : Wall) (p : Place) → (Barred h gs (wall_number w) p → pos 0 <ℤ past h w p) × (pos 0 <ℤ past h w p → Barred h gs (wall_number w) p)
  barred_by Left p = (λ d. d, λ d. d)
  barred_by Right p = (λ d. d, λ d. d)
  barred_by Lower p = (λ d. d, λ d. d)
  barred_by Upper p = (λ d. d, λ d. d)

  -- s is the whole surface, and e has the values at its ends
  module _ (w : Wall) (s : Shadow) (e : Ends) (r : Option Shadow) (cut : MatchOption r (Gone s e) (Cut s e)) (open_from : s.from ≡ None) (open_to : s.to ≡ None)
      (from : e.from ≡ past h w (at a)) (to : e.to ≡ past h w (at b)) where
    read : (t u : ℕ) → reading e t u ≡ past h w (between (at a) (at b) t u)
    read t u = ap₂ (λ (i j : ℤ). (i *ℤ pos u) +ℤ (j *ℤ pos t)) from to ∙ past_along h w a b t u

    all_dark : (t u : ℕ) → Dark s t u
    all_dark t u = record { after = rw open_from tt; until = rw open_to tt }

    shadowed : (o : Option Shadow) → MatchOption o (Gone s e) (Cut s e) → Bars h gs a b (wall_number w) o
    unfolding Gone
    shadowed None n = λ t u q p. n t u q (all_dark t u) (rw read ((barred_by w _).0 p))
    shadowed (Some x) n =
        record {
          barred = λ t u q d. (barred_by w _).1 (rw (← read t u) (n.less t u q d).1);
          dark = λ t u q p. n.all t u q (all_dark t u) (rw read ((barred_by w _).0 p));
          opens = n.opens;
        }

    pub wall_bars : (j : ℕ) → j ≡ wall_number w → Bars h gs a b j r
    wall_bars j i = rw i (shadowed r cut)

  thing_at : (k : ℕ) (r : Option Shadow) → Casts (obstacle gs k) a b r → Bars h gs a b (suc (suc (suc (suc k)))) r
  thing_at k None n = n
  thing_at k (Some x) n = record { barred = n.inside; dark = n.dark; opens = n.opens }

  pub thing_bars : (j : ℕ) (g : Shape) → 4 ≤ j → obstacle gs (j - 4) ≡ g → (r : Option Shadow) → Casts g a b r → Bars h gs a b j r
  thing_bars j g l e r n =
      let k : suc (suc (suc (suc (j - 4)))) ≡ j = omega arith in
      subst (λ (i : ℕ). Bars h gs a b i r) k (thing_at (j - 4) r (subst (λ (y : Shape). Casts y a b r) (sym e) n))

  -- ---- what no bar bars is clear
  pub unbarred : (p : Place) → Clear h gs p → (j : ℕ) → j < 4 + length gs → Barred h gs j p → ⊥
  unfolding Apart
  unbarred p c zero l d = omega (arith, ints, c.walls.left)
  unbarred p c (suc zero) l d = omega (arith, ints, c.walls.right)
  unbarred p c (suc (suc zero)) l d = omega (arith, ints, c.walls.low)
  unbarred p c (suc (suc (suc zero))) l d = omega (arith, ints, c.walls.high)
  unbarred p c (suc (suc (suc (suc k)))) l d = c.apart k (omega arith) d

  pub clear_from : (p : Place) → ((j : ℕ) → j < 4 + length gs → Barred h gs j p → ⊥) → Clear h gs p
  unfolding Apart
  clear_from p n =
      record {
        walls = record {
          left = by_lt_z p.x (pos 0) (λ d. absurd (n 0 (omega arith) (omega (arith, ints)))) (λ d. d);
          right = by_lt_z (pos (h.wide * p.w)) p.x (λ d. absurd (n 1 (omega arith) (omega (arith, ints)))) (λ d. d);
          low = by_lt_z p.y (pos 0) (λ d. absurd (n 2 (omega arith) (omega (arith, ints)))) (λ d. d);
          high = by_lt_z (pos (h.high * p.w)) p.y (λ d. absurd (n 3 (omega arith) (omega (arith, ints)))) (λ d. d);
        };
        apart = λ k l d. n (suc (suc (suc (suc k)))) (omega arith) d;
      }

  -- ---- the shadows of the first n bars
  pub record Cast (n : ℕ) (ss : List (Option Shadow)) : Type 0 where
    pub count : length ss ≡ 44
    pub bars : (k : ℕ) → k < n → Bars h gs a b k (get_or ss k None)
    pub none : (k : ℕ) → n ≤ k → get_or ss k None ≡ None

  pub cast_none : Cast 0 (replicate 44 None)
  cast_none =
      record {
        count = length-replicate {A = Option Shadow} 44 None;
        bars = λ k l. absurd (omega arith);
        none = λ k _.
            ⊎_elim
            (λ l. get_or-replicate 44 k None None l)
            (λ l. get_or_past (replicate 44 None) k None (omega (arith, length-replicate {A = Option Shadow} 44 None)))
            (cases_lt k 44);
      }

  pub cast_more : (n : ℕ) (ss : List (Option Shadow)) (r : Option Shadow) → Cast n ss → n < 44 → Bars h gs a b n r → Cast (n + 1) (set ss n r)
  cast_more n ss r c l d =
      let m : n < length ss = omega (arith, c.count) in
      record {
        count = length-set ss n r ∙ c.count;
        bars = λ k i.
            ⊎_elim
            (λ e. subst (λ (j : ℕ). Bars h gs a b j (get_or (set ss n r) j None)) (sym e) (subst (Bars h gs a b n) (sym (get_or-set_same ss n r None m)) d))
            (λ e. subst (Bars h gs a b k) (sym (get_or-set_other ss n k r None e)) (c.bars k (omega arith)))
            (cases_eq k n);
        none = λ k i. get_or-set_other ss n k r None (omega arith) ∙ c.none k (omega arith);
      }

  shaded_barred : (j : ℕ) (o : Option Shadow) → Bars h gs a b j o → (t u : ℕ) → 0 < t + u → Shaded o t u → Barred h gs j (between (at a) (at b) t u)
  shaded_barred j None d t u s f = absurd f
  shaded_barred j (Some x) d t u s f = d.barred t u s f

  barred_shaded : (j : ℕ) (o : Option Shadow) → Bars h gs a b j o → (t u : ℕ) → 0 < t + u → Barred h gs j (between (at a) (at b) t u) → Shaded o t u
  barred_shaded j None d t u s f = d t u s f
  barred_shaded j (Some x) d t u s f = d.dark t u s f

  opens_of : (j : ℕ) (o : Option Shadow) (x : Shadow) → Bars h gs a b j o → o ≡ Some x → Opens x
  opens_of j None x d e = let z : ◌≡◌ {A = ℕ} 0 1 = cc in absurd (omega arith)
  opens_of j (Some y) x d e = let z : y ≡ x = cc in subst Opens z d.opens

  pub cast_lights : (ss : List (Option Shadow)) → length gs ≤ 40 → Cast (4 + length gs) ss → Lights h gs a b ss
  unfolding Lit AllOpen
  cast_lights ss few c =
      record {
        count = c.count;
        opens = λ j l x e.
            ⊎_elim
            (λ m. opens_of j (get_or ss j None) x (c.bars j m) e)
            (λ m. let n = c.none j m in let z : ◌≡◌ {A = ℕ} 0 1 = cc in absurd (omega arith))
            (cases_lt j (4 + length gs));
        clear = λ t u s l.
            clear_from (between (at a) (at b) t u) (λ j m d. l j (omega (arith, c.count)) (barred_shaded j (get_or ss j None) (c.bars j m) t u s d));
        lit = λ t u s k j l d.
            ⊎_elim
            (λ m. unbarred (between (at a) (at b) t u) k j m (shaded_barred j (get_or ss j None) (c.bars j m) t u s d))
            (λ m. subst (λ (o : Option Shadow). Shaded o t u) (c.none j m) d)
            (cases_lt j (4 + length gs));
        none = λ j l m x e. let n = c.none j l in let z : ◌≡◌ {A = ℕ} 0 1 = cc in absurd (omega arith);
      }
