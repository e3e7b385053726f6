-- How high a place is over a surface, its foot there, and which of several surfaces is its floor. Assumes nothing.
use Rattle.std.proofs.Common.{◌≡◌, ℕ, ◌+◌, ◌*◌, ◌<◌, ◌≤◌, List, [], length, ℤ, pos, ◌-ℤ◌, ◌*ℤ◌, nat_abs, ◌≤ℤ◌, ◌<ℤ◌, Decides, Ordering, sym, refl, ◌∙◌, subst, ap₂, ⊎_elim, arith}
use borrow.Author.Differences.{ints}
use Rattle.std.specs.Ordering.{MatchOrdering, is_le}
use Rattle.std.proofs.lemmas.Int.{by_lt_z}
use Rattle.std.proofs.lemmas.Bool.{cases_eq}
use Rattle.std.proofs.Math.Nat.{mul-le-mul_left, mul-le-mul_right}
use Rattle.algebra.specs.Hall.{Corner, Place, Shape, Hall, Within}
use Rattle.algebra.specs.Forms.{Form, value, line}
use Rattle.algebra.proofs.Polynomial.{forms, by_ring}
use Rattle.algebra.proofs.Order.{pos>0, factor>0, factor≡0, factor<0}
use Rattle.algebra.proofs.Forms.{of_corner, of_place}
use Rattle.exact.specs.declared.points.Place as code_place
use Rattle.exact.specs.declared.points.Side.{Side}
use Rattle.exact.specs.Points.{corner_of, place_of}
use Rattle.exact.specs.Orders.{Over, Lower, Level}
use Rattle.exact.proofs.Bounds.{ranked_map}
use Rattle.exact.proofs.Crossings.{size_up}
use Rattle.ledge.specs.declared.surfaces.Surface as code
use Rattle.ledge.specs.declared.surfaces.Surface.TheVariants as code_case
use Rattle.ledge.specs.Heights.{Rises, foot}
use Rattle.ledge.specs.Landings.{Under, Higher, Floors, form_of}
use Rattle.ledge.specs.Lines.{surface_of, number, Numbered, Unnumbered}
use Rattle.ledge.specs.Surfaces.{Surface, bottom, top, above, Stands, Holds}
use Rattle.ledge.proofs.Feet.{feet, gaps, rise}
use Rattle.ledge.proofs.Lining.{line_side}
use Rattle.ledge.proofs.Numbering.{FewSides}
use Rattle.ledge.proofs.Sharing.{at_most}
use Rattle.ledge.proofs.Standing.{rises, stands, bottom_holds}

-- ---- a foot, by its parts
parts : (x y v z : ℤ) (w u : ℕ) → x ≡ v → y ≡ z → w ≡ u → ◌≡◌ {A = Place} (record { x = x; y = y; w = w }) (record { x = v; y = z; w = u })
parts x y v z w u e f g = cc

foot_y : (a b : Corner) (p : Place) → ((b.y -ℤ a.y) *ℤ p.x) -ℤ (((a.x *ℤ b.y) -ℤ (a.y *ℤ b.x)) *ℤ pos p.w) ≡ (foot (line a b) p).y
unfolding foot line
foot_y a b p = by_ring (of_corner a (of_corner b (of_place p []))) (search forms depth 60 fits 99999) refl

pub foot_is : (a b : Corner) (p q : Place) → q.x ≡ (b.x -ℤ a.x) *ℤ p.x → q.y ≡ ((b.y -ℤ a.y) *ℤ p.x) -ℤ (((a.x *ℤ b.y) -ℤ (a.y *ℤ b.x)) *ℤ pos p.w) → q.w ≡ nat_abs (b.x -ℤ a.x) * p.w → q ≡ foot (line a b) p
unfolding foot line
foot_is a b p q e f g = parts q.x q.y ((b.x -ℤ a.x) *ℤ p.x) (foot (line a b) p).y q.w (nat_abs (b.x -ℤ a.x) * p.w) e (f ∙ foot_y a b p) g

-- the size of a run to the right
pub run_size : (z : ℤ) → pos 0 <ℤ z → z ≤ℤ pos 4094 → (0 < nat_abs z) × (nat_abs z ≤ 4094)
run_size z h k = let e = size_up z (omega (arith, ints)) in (omega (arith, ints, e), omega (arith, ints, e))

pub times_most : (m n : ℕ) → m ≤ 4094 → n ≤ 1048576 → m * n ≤ 8589934592
times_most m n h k = omega (arith, mul-le-mul_left m k, mul-le-mul_right 1048576 h)

-- ---- the forms of lines that run to the right
module _ (a b : Corner) where
  pub slope_rises : a.x <ℤ b.x → Rises (line a b)
  unfolding line
  slope_rises h = omega (arith, ints)

-- that of the bottom wall
pub bottom_form : line (record { x = pos 0; y = pos 0 }) (record { x = pos 1; y = pos 0 }) ≡ above [] bottom
unfolding line
bottom_form = refl

-- the bottom wall holds up every place of the hall
pub bottom_up : (gs : List Shape) (s : code.Surface) (p : Place) (h : Hall) → s ≡ code_case.Bottom → Within h p → Holds h gs (surface_of s) p
bottom_up gs s p h e w = subst (λ (r : code.Surface). Holds h gs (surface_of r) p) (sym e) (bottom_holds h gs p w)

-- ---- which of two sides that run to the right is lower over an abscissa
-- the foot is over it, and on the line
over_foot : (s : Side) (here : code_place.Place) → s.from.x <ℤ s.to.x → 0 < here.w → Over s here (foot (form_of s) (place_of here))
over_foot s here r w =
    let f = form_of s in
    let p = place_of here in
    let k = slope_rises (corner_of s.from) (corner_of s.to) r in
    record {
      real = feet.real f p k w;
      line = sym (line_side (corner_of s.from) (corner_of s.to) (foot f p)) ∙ feet.level f p k;
      above = feet.abreast f p k;
    }

-- what that says of the one line's form at the foot on the other
module _ (s t : Side) (here : code_place.Place) (rs : s.from.x <ℤ s.to.x) (rt : t.from.x <ℤ t.to.x) (w : 0 < here.w) where
  abbrev f : Form
  f = form_of s

  abbrev g : Form
  g = form_of t

  abbrev p : Place
  p = place_of here

  rise_at : ((foot g p).y *ℤ pos (foot f p).w) -ℤ ((foot f p).y *ℤ pos (foot g p).w) ≡ pos here.w *ℤ value f (foot g p)
  rise_at = rise f g p (slope_rises (corner_of s.from) (corner_of s.to) rs) (slope_rises (corner_of t.from) (corner_of t.to) rt)

  over_first : Over s here (foot f p)
  over_first = over_foot s here rs w

  over_second : Over t here (foot g p)
  over_second = over_foot t here rt w

  lower_at : Lower s t here → pos 0 <ℤ value f (foot g p)
  unfolding Lower
  lower_at h = factor>0 (pos here.w) (value f (foot g p)) (pos>0 here.w w) (omega (arith, ints, rise_at, h (foot f p) (foot g p) over_first over_second))

  level_at : Level s t here → pos 0 ≡ value f (foot g p)
  unfolding Level
  level_at h = sym (factor≡0 (pos here.w) (value f (foot g p)) (pos>0 here.w w) (omega (arith, ints, rise_at, h (foot f p) (foot g p) over_first over_second)))

  higher_at : Lower t s here → value f (foot g p) <ℤ pos 0
  unfolding Lower
  higher_at h = factor<0 (pos here.w) (value f (foot g p)) (pos>0 here.w w) (omega (arith, ints, rise_at, h (foot g p) (foot f p) over_second over_first))

  pub not_higher_at : (r : Ordering) → MatchOrdering r (Lower s t here) (Level s t here) (Lower t s here) → Decides (is_le r) (pos 0 ≤ℤ value f (foot g p))
  not_higher_at r h = at_most r (pos 0) (value f (foot g p)) (ranked_map r h lower_at level_at higher_at)

-- ---- which of two surfaces is higher over an abscissa
module _ (gs : List Shape) (p : Place) (real : 0 < p.w) where
  pub level_under : (s : Surface) → Stands gs s → Under gs p s s
  level_under s st = omega (arith, ints, feet.level (above gs s) p (rises gs s st))

  pub under_back : (s t : Surface) → Stands gs s → Stands gs t → (Under gs p s t → ⊥) → Under gs p t s
  under_back s t ss st none =
      by_lt_z (value (above gs s) (foot (above gs t) p)) (pos 0)
      (λ l. omega (arith, ints, gaps.back (above gs s) (above gs t) p (rises gs s ss) (rises gs t st)))
      (λ l. absurd (none l))

  pub under_trans : (r s t : Surface) → Stands gs r → Stands gs s → Stands gs t → Under gs p r s → Under gs p s t → Under gs p r t
  under_trans r s t sr ss st a b = gaps.on (above gs t) (above gs s) (above gs r) p (rises gs t st) (rises gs s ss) (rises gs r sr) real b a

  module _ (h : Hall) (s t : Surface) (ks : Holds h gs s p) (st : Stands gs t) where
    ss : Stands gs s
    ss = stands h gs s p ks.reaches

    pub higher_second : Holds h gs t p → Under gs p s t → Higher h gs p s t t
    higher_second kt u = record { holds = kt; first = u; second = λ _. level_under t st }

    pub higher_first : (Holds h gs t p → Under gs p s t → ⊥) → Higher h gs p s t s
    higher_first none = record { holds = ks; first = level_under s ss; second = λ kt. under_back s t ss st (none kt) }

-- ---- the highest of the surfaces whose numbers are below n
pub record Best (h : Hall) (gs : List Shape) (p : Place) (n : ℕ) (s : Surface) : Type 0 where
  pub holds : Holds h gs s p
  pub highest : (t : Surface) → Holds h gs t p → number t < n → Under gs p t s

module _ (gs : List Shape) (few : FewSides gs) where
  side_few : (k i : ℕ) → Stands gs (top k i) → i < 16
  side_few k i st = omega (arith, st.1.within, few k st.0)

  pub same_number : (s t : Surface) → Stands gs s → Stands gs t → number s ≡ number t → s ≡ t
  same_number bottom bottom a b e = refl
  same_number bottom (top k i) a b e = absurd (omega arith)
  same_number (top k i) bottom a b e = absurd (omega arith)
  same_number (top k i) (top l j) a b e =
      let x = side_few k i a in
      let y = side_few l j b in
      let f : k ≡ l = omega arith in
      let g : i ≡ j = omega arith in
      ap₂ top f g

  pub number_below : (s : Surface) → Stands gs s → number s < 16 * length gs + 1
  number_below bottom a = omega arith
  number_below (top k i) a = omega (arith, side_few k i a, a.0)

module _ (h : Hall) (gs : List Shape) (p : Place) (real : 0 < p.w) where
  pub best_none : Within h p → Best h gs p 0 bottom
  best_none w = record { holds = bottom_holds h gs p w; highest = λ t k l. absurd (omega arith) }

  module _ (few : FewSides gs) where
    module _ (n : ℕ) (s : Surface) (best : Best h gs p n s) where
      -- no surface has number n
      pub best_pass : Unnumbered gs n → Best h gs p (n + 1) s
      best_pass none =
          record {
            holds = best.holds;
            highest = λ x k l.
                ⊎_elim (λ e. absurd (none x (record { stands = stands h gs x p k.reaches; is = e }))) (λ e. best.highest x k (omega arith)) (cases_eq (number x) n);
          }

      pub best_more : (t r : Surface) → Numbered gs n t → Higher h gs p s t r → Best h gs p (n + 1) r
      best_more t r m o =
          let sr = stands h gs r p o.holds.reaches in
          let ss = stands h gs s p best.holds.reaches in
          record {
            holds = o.holds;
            highest = λ x k l.
                let sx = stands h gs x p k.reaches in
                ⊎_elim
                (λ e.
                let f = same_number gs few x t sx m.stands (e ∙ sym m.is) in
                subst (λ (y : Surface). Under gs p y r) (sym f) (o.second (subst (λ (y : Surface). Holds h gs y p) f k)))
                (λ e. under_trans gs p real x s r sx ss sr (best.highest x k (omega arith)) o.first)
                (cases_eq (number x) n);
          }

    pub best_floors : (n : ℕ) (s : Surface) → 16 * length gs < n → Best h gs p n s → Floors h gs p s
    best_floors n s l best =
        record {
          holds = best.holds;
          highest = λ t k. best.highest t k (omega (arith, number_below gs few t (stands h gs t p k.reaches)));
        }
