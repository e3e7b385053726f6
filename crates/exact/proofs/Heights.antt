-- The heights of two lines over one abscissa. Assumes nothing.
use Rattle.std.proofs.Common.{◌≡◌, ◌<◌, [], ◌∷◌, ℤ, pos, ◌+ℤ◌, ◌-ℤ◌, ◌*ℤ◌, neg_ℤ, ◌<ℤ◌, sym, refl, ap, ◌∙◌, ap₂}
use Rattle.algebra.specs.Hall as hall
use Rattle.algebra.specs.Hall.{side}
use Rattle.algebra.proofs.Polynomial.{forms, by_ring}
use Rattle.algebra.proofs.Order.{signs, by-<, by-≡, untimes-<, untimes-≡, weaker, product>0, pos>0}
use Rattle.exact.specs.declared.orders.Fall.{Fall}
use Rattle.exact.specs.declared.points.Place.{Place}
use Rattle.exact.specs.declared.points.Side.{Side}
use Rattle.exact.specs.Points.{corner_of}
use Rattle.exact.specs.Orders.{Over, Lower, Level, FallOf}

-- the value of a side at height 0, as the code computes it
pub foot_is : (s : Side) (here : Place) (dx dy : ℤ) → dx ≡ s.to.x -ℤ s.from.x → dy ≡ s.to.y -ℤ s.from.y →
    (pos 0 -ℤ (dx *ℤ (s.from.y *ℤ pos here.w))) -ℤ (dy *ℤ (here.x -ℤ (s.from.x *ℤ pos here.w))) ≡ side (corner_of s.from) (corner_of s.to) (record { x = here.x; y = pos 0; w = here.w })
unfolding side
foot_is s here dx dy i j =
    ap₂ (λ (y z : ℤ). (pos 0 -ℤ (y *ℤ (s.from.y *ℤ pos here.w))) -ℤ (z *ℤ (here.x -ℤ (s.from.x *ℤ pos here.w)))) i j
    ∙ by_ring (s.from.x ∷ s.from.y ∷ s.to.x ∷ s.to.y ∷ here.x ∷ pos here.w ∷ []) (search forms depth 60 fits 99999) refl

-- a place over the abscissa is as high as the fall says
pub height : (s : Side) (here : Place) (f : Fall) → FallOf s here f → (p : hall.Place) → Over s here p → (f.run *ℤ pos here.w) *ℤ p.y ≡ neg_ℤ (f.foot *ℤ pos p.w)
unfolding side
height s here f h p o =
    let e = h.sign in
    ap (λ (z : ℤ). (z *ℤ pos here.w) *ℤ p.y) h.run
    ∙ by-≡ (e *ℤ ((pos here.w *ℤ side (corner_of s.from) (corner_of s.to) p) +ℤ ((s.to.y -ℤ s.from.y) *ℤ (p.x *ℤ pos here.w))))
    (e *ℤ ((pos here.w *ℤ pos 0) +ℤ ((s.to.y -ℤ s.from.y) *ℤ (here.x *ℤ pos p.w))))
    (ap₂ (λ (y z : ℤ). e *ℤ ((pos here.w *ℤ y) +ℤ ((s.to.y -ℤ s.from.y) *ℤ z))) o.line o.above)
    (by_ring (s.from.x ∷ s.from.y ∷ s.to.x ∷ s.to.y ∷ here.x ∷ pos here.w ∷ p.x ∷ p.y ∷ pos p.w ∷ e ∷ []) (search forms depth 60 fits 99999) refl)
    ∙ sym (ap (λ (z : ℤ). neg_ℤ (z *ℤ pos p.w)) h.foot)

module _ (s t : Side) (here : Place) (f g : Fall) (hf : FallOf s here f) (hg : FallOf t here g) (w : 0 < here.w) (p q : hall.Place) (hp : Over s here p) (hq : Over t here q) where
  -- both heights, over one denominator
  denominator : ℤ
  denominator = (f.run *ℤ g.run) *ℤ pos here.w

  above_0 : pos 0 <ℤ denominator
  unfolding denominator
  above_0 = product>0 (f.run *ℤ g.run) (pos here.w) (product>0 f.run g.run hf.right hg.right) (pos>0 here.w w)

  first : (p.y *ℤ pos q.w) *ℤ denominator ≡ neg_ℤ (f.foot *ℤ pos p.w) *ℤ (g.run *ℤ pos q.w)
  unfolding denominator
  first =
      by-≡ (((f.run *ℤ pos here.w) *ℤ p.y) *ℤ (g.run *ℤ pos q.w)) (neg_ℤ (f.foot *ℤ pos p.w) *ℤ (g.run *ℤ pos q.w)) (ap (λ (z : ℤ). z *ℤ (g.run *ℤ pos q.w)) (height s here f hf p hp))
      (by_ring (f.run ∷ f.foot ∷ g.run ∷ pos here.w ∷ p.y ∷ pos p.w ∷ pos q.w ∷ []) (search forms depth 60 fits 99999) refl)

  second : (q.y *ℤ pos p.w) *ℤ denominator ≡ neg_ℤ (g.foot *ℤ pos q.w) *ℤ (f.run *ℤ pos p.w)
  unfolding denominator
  second =
      by-≡ (((g.run *ℤ pos here.w) *ℤ q.y) *ℤ (f.run *ℤ pos p.w)) (neg_ℤ (g.foot *ℤ pos q.w) *ℤ (f.run *ℤ pos p.w)) (ap (λ (z : ℤ). z *ℤ (f.run *ℤ pos p.w)) (height t here g hg q hq))
      (by_ring (g.run ∷ g.foot ∷ f.run ∷ pos here.w ∷ q.y ∷ pos q.w ∷ pos p.w ∷ []) (search forms depth 60 fits 99999) refl)

  lower : (g.foot *ℤ f.run) <ℤ (f.foot *ℤ g.run) → (p.y *ℤ pos q.w) <ℤ (q.y *ℤ pos p.w)
  lower h =
      untimes-< (p.y *ℤ pos q.w) (q.y *ℤ pos p.w) denominator (weaker denominator above_0)
      (by-< (((f.foot *ℤ g.run) -ℤ (g.foot *ℤ f.run)) *ℤ (pos p.w *ℤ pos q.w)) (search (signs, hp.real, hq.real))
      (second ∙ by_ring (f.foot ∷ g.foot ∷ f.run ∷ g.run ∷ pos p.w ∷ pos q.w ∷ []) (search forms depth 60 fits 99999) refl
      ∙ sym (ap (λ (z : ℤ). z +ℤ (((f.foot *ℤ g.run) -ℤ (g.foot *ℤ f.run)) *ℤ (pos p.w *ℤ pos q.w))) first)))

  level : g.foot *ℤ f.run ≡ f.foot *ℤ g.run → p.y *ℤ pos q.w ≡ q.y *ℤ pos p.w
  level h =
      untimes-≡ (p.y *ℤ pos q.w) (q.y *ℤ pos p.w) denominator above_0
      (first
      ∙ by-≡ ((g.foot *ℤ f.run) *ℤ (pos p.w *ℤ pos q.w)) ((f.foot *ℤ g.run) *ℤ (pos p.w *ℤ pos q.w)) (ap (λ (z : ℤ). z *ℤ (pos p.w *ℤ pos q.w)) h)
      (by_ring (f.foot ∷ g.foot ∷ f.run ∷ g.run ∷ pos p.w ∷ pos q.w ∷ []) (search forms depth 60 fits 99999) refl)
      ∙ sym second)

module _ (s t : Side) (here : Place) (f g : Fall) (hf : FallOf s here f) (hg : FallOf t here g) (w : 0 < here.w) where
  pub falls_lower : (g.foot *ℤ f.run) <ℤ (f.foot *ℤ g.run) → Lower s t here
  unfolding Lower
  falls_lower h p q hp hq = lower s t here f g hf hg w p q hp hq h

  pub falls_level : g.foot *ℤ f.run ≡ f.foot *ℤ g.run → Level s t here
  unfolding Level
  falls_level h p q hp hq = level s t here f g hf hg w p q hp hq h
