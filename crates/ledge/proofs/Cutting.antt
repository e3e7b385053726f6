-- What steady free stretches carry on, every free stretch carries on: it is cut where a corner is passed, or where a surface passes another. Assumes nothing.
use Rattle.std.proofs.Common.{ℕ, zero, suc, ◌+◌, ◌<◌, List, length, pos, ◌≤ℤ◌, ◌<ℤ◌, sym, subst, ⊎_elim, arith}
use borrow.Author.Differences.{ints}
use Rattle.std.proofs.lemmas.Int.{by_lt_z}
use Rattle.std.proofs.lemmas.Bool.{cases_eq}
use Rattle.algebra.specs.Hall.{Place, Shape, Hall, Straight, corner, between}
use Rattle.algebra.specs.Forms.{Form, value, Crosses}
use Rattle.algebra.proofs.Forms.{sign_along, crossing, stretch, same_place}
use Rattle.algebra.proofs.Places.{straightness}
use Rattle.obstacle.proofs.Signs.{by_sign}
use Rattle.motion.proofs.DriveStretches.{straight_same, from_free, to_free}
use Rattle.ledge.specs.Heights.{gap, upright}
use Rattle.ledge.specs.Surfaces.{Surface, bottom, top, obstacle, above, Stands, Steady, AllSteady, Cutting}

-- a form that is above 0 at p is not below 0 at q, nor above where it is below at p
record Calm (f : Form) (p q : Place) : Type 0 where
  up : pos 0 <ℤ value f p → pos 0 ≤ℤ value f q
  down : value f p <ℤ pos 0 → value f q ≤ℤ pos 0

-- what is so of a stretch is so of both its parts, however it is cut
abbrev Inherited : (Place → Place → Type 0) → Type 0
Inherited K = (p q : Place) (t u : ℕ) → 0 < p.w → 0 < q.w → K p q → K p (between p q t u) × K (between p q t u) q

calm_parts : (f : Form) → Inherited (Calm f)
calm_parts f p q t u wp wq c =
    let a = sign_along f p q t u wp wq in (
      record { up = λ h. a.stays≥0 (omega (arith, ints)) (c.up h); down = λ h. a.stays≤0 (omega (arith, ints)) (c.down h) },
      record { up = λ h. ⊎_elim c.up (λ k. omega (arith, ints)) (a.comes>0 h); down = λ h. ⊎_elim c.down (λ k. omega (arith, ints)) (a.comes<0 h) },
    )

-- it is steady from the middle of the stretch to either end
calm_steady : (f : Form) (p q : Place) → 0 < p.w → 0 < q.w → Calm f p q → Steady f (between p q 1 1) p × Steady f (between p q 1 1) q
calm_steady f p q wp wq c =
    let a = sign_along f p q 1 1 wp wq in (
      record {
        up = λ h. by_lt_z (value f p) (pos 0) (λ k. absurd (omega (arith, ints, a.starts<0 k (c.down k) (omega arith)))) (λ k. k);
        down = λ h. by_lt_z (pos 0) (value f p) (λ k. absurd (omega (arith, ints, a.starts>0 k (c.up k) (omega arith)))) (λ k. k);
      },
      record {
        up = λ h. by_lt_z (value f q) (pos 0)
            (λ k. absurd (by_lt_z (pos 0) (value f p) (λ l. omega (arith, ints, c.up l)) (λ l. omega (arith, ints, a.ends<0 l k (omega arith)))))
            (λ k. k);
        down = λ h. by_lt_z (pos 0) (value f q)
            (λ k. absurd (by_lt_z (value f p) (pos 0) (λ l. omega (arith, ints, c.down l)) (λ l. omega (arith, ints, a.ends>0 l k (omega arith)))))
            (λ k. k);
      },
    )

-- ---- the forms that tell whether a stretch is steady: at every corner, and for every two surfaces; lower sides may be among them
abbrev Numbered : List Shape → (ℕ → ℕ → Place → Place → Type 0) → Place → Place → Type 0
Numbered gs A p q = (k : ℕ) → k < length gs → (i : ℕ) → i < length (obstacle gs k) → A k i p q

abbrev Each : List Shape → (Surface → Place → Place → Type 0) → Place → Place → Type 0
Each gs A p q = A bottom p q × Numbered gs (λ (k i : ℕ). A (top k i)) p q

of_each : (gs : List Shape) (A : Surface → Place → Place → Type 0) (p q : Place) → Each gs A p q → (s : Surface) → Stands gs s → A s p q
of_each gs A p q c bottom a = c.0
of_each gs A p q c (top k i) a = c.1 k a.0 i a.1.within

abbrev CalmCorner : List Shape → ℕ → ℕ → Place → Place → Type 0
CalmCorner gs k j = Calm (upright (corner (obstacle gs k) j))

abbrev CalmGap : List Shape → Surface → Surface → Place → Place → Type 0
CalmGap gs s t = Calm (gap (above gs s) (above gs t))

abbrev AllCalm : List Shape → Place → Place → Type 0
AllCalm gs p q = Numbered gs (CalmCorner gs) p q × Each gs (λ (s : Surface). Each gs (CalmGap gs s)) p q

-- ---- the parts of a free stretch are free
module _ (h : Hall) (p q : Place) (t u : ℕ) (some : 0 < t + u) (s : Straight h p q) where
  pub first_part : Straight h p (between p q t u)
  first_part =
      let x = between p q t u in
      let wp = (from_free h p q s).real in
      straight_same h (between p q 0 1) x p x wp (stretch.real p q t u wp (to_free h p q s).real some)
      (stretch.start p q 1) (same_place.reflexive x) (straightness.part h p q 0 1 t u (omega arith) some s)

  pub last_part : Straight h (between p q t u) q
  last_part =
      let x = between p q t u in
      let wq = (to_free h p q s).real in
      straight_same h x (between p q 1 0) x q (stretch.real p q t u (from_free h p q s).real wq some) wq
      (same_place.reflexive x) (stretch.finish p q 1) (straightness.part h p q t u 1 0 some (omega arith) s)

-- ---- P is carried on by the free stretches of which K is so
module _ (h : Hall) (P : Place → Type 0) where
  abbrev Carried : (Place → Place → Type 0) → Type 0
  Carried K = (p q : Place) → Straight h p q → K p q → P p → P q

  -- it may be assumed of a stretch, whatever else is: stretches are cut until it is so
  record Granted (A : Place → Place → Type 0) : Type 1 where
    parts : Inherited A
    cut : (K : Place → Place → Type 0) → Inherited K → Carried (λ (p q : Place). K p q × A p q) → Carried K

  -- where f is not calm, the stretch is cut at a place where f is 0
  calm : (f : Form) → Granted (Calm f)
  calm f = record { parts = calm_parts f; cut = cut_once }
    where
      cut_once : (K : Place → Place → Type 0) → Inherited K → Carried (λ (p q : Place). K p q × Calm f p q) → Carried K
      cut_once K parts carried p q s k at_p =
          by_sign (value f p)
          (λ l. by_lt_z (pos 0) (value f q)
          (λ r. across (crossing.up f p q wp wq (omega (arith, ints)) (omega (arith, ints)) (λ z. omega (arith, ints, z.0))))
          (λ r. whole (record { up = λ n. absurd (omega (arith, ints)); down = λ n. r })))
          (λ l. whole (record { up = λ n. absurd (omega (arith, ints)); down = λ n. absurd (omega (arith, ints)) }))
          (λ l. by_lt_z (value f q) (pos 0)
          (λ r. across (crossing.down f p q wp wq (omega (arith, ints)) (omega (arith, ints)) (λ z. omega (arith, ints, z.0))))
          (λ r. whole (record { up = λ n. r; down = λ n. absurd (omega (arith, ints)) })))
        where
          wp : 0 < p.w
          wp = (from_free h p q s).real

          wq : 0 < q.w
          wq = (to_free h p q s).real

          whole : Calm f p q → P q
          whole c = carried p q s (k, c) at_p

          across : Crosses f p q → P q
          across c =
              let x = between p q c.t c.u in
              let ks = parts p q c.t c.u wp wq k in
              let to_x : Calm f p x = record { up = λ n. omega (arith, ints, c.zero); down = λ n. omega (arith, ints, c.zero) } in
              let from_x : Calm f x q = record { up = λ n. absurd (omega (arith, ints, c.zero)); down = λ n. absurd (omega (arith, ints, c.zero)) } in
              carried x q (last_part h p q c.t c.u c.some s) (ks.1, from_x) (carried p x (first_part h p q c.t c.u c.some s) (ks.0, to_x) at_p)

  inherited_both : {A B : Place → Place → Type 0} → Inherited A → Inherited B → Inherited (λ (p q : Place). A p q × B p q)
  inherited_both a b p q t u wp wq k = let x = a p q t u wp wq k.0 in let y = b p q t u wp wq k.1 in ((x.0, y.0), (x.1, y.1))

  both : {A B : Place → Place → Type 0} → Granted A → Granted B → Granted (λ (p q : Place). A p q × B p q)
  both {A} {B} a b =
      record {
        parts = inherited_both a.parts b.parts;
        cut = λ K parts carried. a.cut K parts (b.cut (λ (p q : Place). K p q × A p q) (inherited_both parts a.parts) (λ p q s k. carried p q s (k.0.0, (k.0.1, k.1))));
      }

  -- the same, said otherwise
  equally : {A B : Place → Place → Type 0} → ((p q : Place) → A p q → B p q) → ((p q : Place) → B p q → A p q) → Granted A → Granted B
  equally to from a =
      record {
        parts = λ p q t u wp wq c. let x = a.parts p q t u wp wq (from p q c) in (to p (between p q t u) x.0, to (between p q t u) q x.1);
        cut = λ K parts carried. a.cut K parts (λ p q s k. carried p q s (k.0, to p q k.1));
      }

  -- for all numbers below n
  all : (n : ℕ) (A : ℕ → Place → Place → Type 0) → ((k : ℕ) → Granted (A k)) → Granted (λ (p q : Place). (k : ℕ) → k < n → A k p q)
  all zero A each =
      record {
        parts = λ p q t u wp wq c. (λ k l. absurd (omega arith), λ k l. absurd (omega arith));
        cut = λ K parts carried p q s k. carried p q s (k, λ i l. absurd (omega arith));
      }
  all (suc n) A each =
      equally
      (λ p q c k l. ⊎_elim (λ e. subst (λ (i : ℕ). A i p q) (sym e) c.0) (λ r. c.1 k (omega arith)) (cases_eq k n))
      (λ p q c. (c n (omega arith), λ k l. c k (omega arith)))
      (both (each n) (all n A each))

  -- for all sides of all shapes, and for all surfaces
  numbered : (gs : List Shape) (A : ℕ → ℕ → Place → Place → Type 0) → ((k i : ℕ) → Granted (A k i)) → Granted (Numbered gs A)
  numbered gs A each = all (length gs) (λ (k : ℕ) (p q : Place). (i : ℕ) → i < length (obstacle gs k) → A k i p q) (λ k. all (length (obstacle gs k)) (A k) (each k))

  each_surface : (gs : List Shape) (A : Surface → Place → Place → Type 0) → ((s : Surface) → Granted (A s)) → Granted (Each gs A)
  each_surface gs A each = both (each bottom) (numbered gs (λ (k i : ℕ). A (top k i)) (λ k i. each (top k i)))

  all_calm : (gs : List Shape) → Granted (AllCalm gs)
  all_calm gs =
      both
      (numbered gs (CalmCorner gs) (λ k j. calm (upright (corner (obstacle gs k) j))))
      (each_surface gs (λ (s : Surface). Each gs (CalmGap gs s)) (λ s. each_surface gs (CalmGap gs s) (λ t. calm (gap (above gs s) (above gs t)))))

-- ---- where all is calm, all is steady from the middle
all_steady : (gs : List Shape) (p q : Place) → 0 < p.w → 0 < q.w → AllCalm gs p q → AllSteady gs (between p q 1 1) p × AllSteady gs (between p q 1 1) q
all_steady gs p q wp wq c =
    let corners = λ (k : ℕ) (l : k < length gs) (j : ℕ) (n : j < length (obstacle gs k)). calm_steady (upright (corner (obstacle gs k) j)) p q wp wq (c.0 k l j n) in
    let gaps = λ (s t : Surface) (a : Stands gs s) (b : Stands gs t).
    calm_steady (gap (above gs s) (above gs t)) p q wp wq (of_each gs (CalmGap gs s) p q (of_each gs (λ (r : Surface). Each gs (CalmGap gs r)) p q c.1 s a) t b) in (
      record { corners = λ k l j n. (corners k l j n).0; gaps = λ s t a b. (gaps s t a b).0 },
      record { corners = λ k l j n. (corners k l j n).1; gaps = λ s t a b. (gaps s t a b).1 },
    )

pub cutting : Cutting
cutting h gs P steps p q s at_p = (all_calm h P gs).cut (λ (a b : Place). Unit {0}) (λ a b t u wa wb k. (tt, tt)) carried p q s tt at_p
  where
    carried : (a b : Place) → Straight h a b → Unit {0} × AllCalm gs a b → P a → P b
    carried a b r c at_a =
        let m = between a b 1 1 in
        let steady = all_steady gs a b (from_free h a b r).real (to_free h a b r).real c.1 in
        let to_m = straightness.back h a m (first_part h a b 1 1 (omega arith) r) in
        (steps m b (last_part h a b 1 1 (omega arith) r) steady.1).0 ((steps m a to_m steady.0).1 at_a)
