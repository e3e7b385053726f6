-- The feet of a place on the lines of forms that rise, and how far one line lies above another. Assumes nothing.
use Rattle.std.proofs.Common.{◌≡◌, ℕ, ◌*◌, ◌<◌, [], ◌∷◌, ℤ, pos, negsuc, ◌+ℤ◌, ◌-ℤ◌, ◌*ℤ◌, neg_ℤ, nat_abs, ◌≤ℤ◌, ◌<ℤ◌, sym, refl, ap, ◌∙◌, ap₂, mul-pos, arith}
use borrow.Author.Differences.{ints}
use Rattle.algebra.specs.Hall.{Place, between}
use Rattle.algebra.specs.Forms.{Form, value, Same}
use Rattle.algebra.proofs.Polynomial.{forms, by_ring}
use Rattle.algebra.proofs.Order.{signs, pos>0, by-≡, factor≥0}
use Rattle.algebra.proofs.Forms.{of_corner, of_place, of_form}
use Rattle.ledge.specs.Heights.{Rises, foot, gap, upright, Abreast, Feet, Gaps, Uprights}

-- ---- a foot's w is that of the place, times how fast the form rises
natural : (z : ℤ) → pos 0 <ℤ z → pos (nat_abs z) ≡ z
natural (pos n) h = refl
natural (negsuc n) h = absurd (omega (arith, ints))

weight : (f : Form) (p : Place) → Rises f → pos (nat_abs f.b * p.w) ≡ f.b *ℤ pos p.w
weight f p r = ap (λ (z : ℤ). z *ℤ pos p.w) (natural f.b r)

module _ (f : Form) (p : Place) (rises : Rises f) where
  real : 0 < p.w → 0 < (foot f p).w
  unfolding foot
  real h = mul-pos (omega (arith, ints, natural f.b rises)) h

  abreast : Abreast (foot f p) p
  unfolding foot
  abreast = rw (weight f p rises) (by_ring (of_form f (of_place p [])) (search forms depth 60 fits 99999) refl)

  values : (g : Form) → value g (foot f p) ≡ (f.b *ℤ value g p) -ℤ (g.b *ℤ value f p)
  unfolding foot value
  values g = rw (weight f p rises) (by_ring (of_form f (of_form g (of_place p []))) (search forms depth 60 fits 99999) refl)

  level : value f (foot f p) ≡ pos 0
  level = values f ∙ by_ring (f.b ∷ value f p ∷ []) (search forms depth 60 fits 99999) refl

  own : value f p ≡ pos 0 → Same (foot f p) p
  unfolding foot value
  own z =
      record {
        x = abreast;
        y =
            rw (weight f p rises)
            (by-≡ (pos 0 *ℤ pos p.w) (value f p *ℤ pos p.w) (ap (λ (v : ℤ). v *ℤ pos p.w) (sym z))
            (by_ring (of_form f (of_place p [])) (search forms depth 60 fits 99999) refl));
      }

spread : (f : Form) (p q : Place) (t u : ℕ) → Same (between (foot f p) (foot f q) t u) (foot f (between p q t u))
unfolding foot between
spread f p q t u =
    record {
      x = by_ring (pos (nat_abs f.b) ∷ of_form f (of_place p (of_place q (pos t ∷ pos u ∷ [])))) (search forms depth 60 fits 99999) refl;
      y = by_ring (pos (nat_abs f.b) ∷ of_form f (of_place p (of_place q (pos t ∷ pos u ∷ [])))) (search forms depth 60 fits 99999) refl;
    }

-- x / v is y / w: so are the abscissas of the feet, and their ordinates
module _ (a b c x y : ℤ) (v w n : ℕ) (e : x *ℤ pos w ≡ y *ℤ pos v) where
  same_x : (b *ℤ x) *ℤ pos (n * w) ≡ (b *ℤ y) *ℤ pos (n * v)
  same_x =
      by-≡ ((b *ℤ pos n) *ℤ (x *ℤ pos w)) ((b *ℤ pos n) *ℤ (y *ℤ pos v)) (ap (λ (z : ℤ). (b *ℤ pos n) *ℤ z) e)
      (by_ring (b ∷ x ∷ y ∷ pos v ∷ pos w ∷ pos n ∷ []) (search forms depth 60 fits 99999) refl)

  same_y : neg_ℤ ((a *ℤ x) +ℤ (c *ℤ pos v)) *ℤ pos (n * w) ≡ neg_ℤ ((a *ℤ y) +ℤ (c *ℤ pos w)) *ℤ pos (n * v)
  same_y =
      by-≡ ((a *ℤ pos n) *ℤ (y *ℤ pos v)) ((a *ℤ pos n) *ℤ (x *ℤ pos w)) (ap (λ (z : ℤ). (a *ℤ pos n) *ℤ z) (sym e))
      (by_ring (a ∷ c ∷ x ∷ y ∷ pos v ∷ pos w ∷ pos n ∷ []) (search forms depth 60 fits 99999) refl)

same : (f : Form) (p q : Place) → Same p q → Same (foot f p) (foot f q)
unfolding foot
same f p q s =
    record {
      x = same_x f.a f.b f.c p.x q.x p.w q.w (nat_abs f.b) s.x;
      y = same_y f.a f.b f.c p.x q.x p.w q.w (nat_abs f.b) s.x;
    }

pub feet : Feet
feet =
    record {
      real = λ f p r. real f p r;
      level = λ f p r. level f p r;
      abreast = λ f p r. abreast f p r;
      values = λ f g p r. values f p r g;
      spread = λ f p q t u r. spread f p q t u;
      same = λ f p q r. same f p q;
      own = λ f p r. own f p r;
    }

-- ---- the lines of two forms
gap_values : (f g : Form) (p : Place) → Rises f → value (gap f g) p ≡ value g (foot f p)
unfolding gap value
gap_values f g p r = by_ring (of_form f (of_form g (of_place p []))) (search forms depth 60 fits 99999) refl ∙ sym (values f p r g)

back : (f g : Form) (p : Place) → Rises f → Rises g → value g (foot f p) ≡ neg_ℤ (value f (foot g p))
back f g p rf rg = rw (values f p rf g, values g p rg f) (by_ring (f.b ∷ g.b ∷ value f p ∷ value g p ∷ []) (search forms depth 60 fits 99999) refl)

-- how much higher the foot on g's line is than that on f's, times both denominators
pub rise : (f g : Form) (p : Place) → Rises f → Rises g →
    ((foot g p).y *ℤ pos (foot f p).w) -ℤ ((foot f p).y *ℤ pos (foot g p).w) ≡ pos p.w *ℤ value f (foot g p)
unfolding foot value
rise f g p rf rg = rw (weight f p rf, weight g p rg) (by_ring (of_form f (of_form g (of_place p []))) (search forms depth 60 fits 99999) refl)

-- g's rise times the value of h at f's foot is put together from the two steps, from f to g and from g to h
over : (f g h : Form) (p : Place) → Rises f → Rises g → g.b *ℤ value h (foot f p) ≡ (f.b *ℤ value h (foot g p)) +ℤ (h.b *ℤ value g (foot f p))
over f g h p rf rg =
    rw (values f p rf h, values g p rg h, values f p rf g)
    (by_ring (f.b ∷ g.b ∷ h.b ∷ value f p ∷ value g p ∷ value h p ∷ []) (search forms depth 60 fits 99999) refl)

on : (f g h : Form) (p : Place) → Rises f → Rises g → Rises h → pos 0 ≤ℤ value g (foot f p) → pos 0 ≤ℤ value h (foot g p) → pos 0 ≤ℤ value h (foot f p)
on f g h p rf rg rh k l = factor≥0 g.b (value h (foot f p)) rg (rw (over f g h p rf rg) (search signs))

-- the value at a foot, seen from a place of the same abscissa
pub across : (f g : Form) (p q : Place) → Rises f → Abreast p q → pos q.w *ℤ value g (foot f p) ≡ pos p.w *ℤ value g (foot f q)
unfolding value gap
across f g p q r e =
    rw (← gap_values f g p r, ← gap_values f g q r)
    (by-≡ ((gap f g).a *ℤ (p.x *ℤ pos q.w)) ((gap f g).a *ℤ (q.x *ℤ pos p.w)) (ap (λ (z : ℤ). (gap f g).a *ℤ z) e)
    (by_ring (of_form f (of_form g (of_place p (of_place q [])))) (search forms depth 60 fits 99999) refl))

-- the feet on two lines at places of the same abscissa, where the lines have one height
pub one_foot : (f g : Form) (p q : Place) → Rises f → Rises g → Abreast p q → value g (foot f p) ≡ pos 0 → Same (foot f p) (foot g q)
unfolding foot value gap
one_foot f g p q rf rg e z =
    record {
      x =
          rw (weight f p rf, weight g q rg)
          (by-≡ ((f.b *ℤ g.b) *ℤ (p.x *ℤ pos q.w)) ((f.b *ℤ g.b) *ℤ (q.x *ℤ pos p.w)) (ap (λ (v : ℤ). (f.b *ℤ g.b) *ℤ v) e)
          (by_ring (of_form f (of_form g (of_place p (of_place q [])))) (search forms depth 60 fits 99999) refl));
      y =
          rw (weight f p rf, weight g q rg)
          (by-≡ ((value (gap f g) p *ℤ pos q.w) +ℤ ((f.b *ℤ g.a) *ℤ (q.x *ℤ pos p.w))) ((pos 0 *ℤ pos q.w) +ℤ ((f.b *ℤ g.a) *ℤ (p.x *ℤ pos q.w)))
          (ap₂ (λ (v x : ℤ). (v *ℤ pos q.w) +ℤ ((f.b *ℤ g.a) *ℤ x)) (gap_values f g p rf ∙ z) (sym e))
          (by_ring (of_form f (of_form g (of_place p (of_place q [])))) (search forms depth 60 fits 99999) refl));
    }

meet : (f g : Form) (p q : Place) → Rises f → Rises g → 0 < p.w → 0 < q.w → Abreast p q →
    pos 0 ≤ℤ value g (foot f p) → pos 0 ≤ℤ value f (foot g q) → Same (foot f p) (foot g q)
meet f g p q rf rg wp wq e h k =
    let other : pos 0 ≤ℤ value f (foot g p) = factor≥0 (pos q.w) (value f (foot g p)) (pos>0 q.w wq) (rw (across g f p q rg e) (search signs)) in
    one_foot f g p q rf rg e (omega (arith, ints, back f g p rf rg))

pub gaps : Gaps
gaps =
    record {
      values = gap_values;
      back = back;
      on = λ f g h p rf rg rh w. on f g h p rf rg rh;
      meet = meet;
    }

pub uprights : Uprights
unfolding upright value
uprights = record { values = λ c p. by_ring (of_corner c (of_place p [])) (search forms depth 60 fits 99999) refl }
