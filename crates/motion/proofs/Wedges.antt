-- Forms a u + b t over the rays of a quarter, u and t at least 0 and not both 0: either all of them are above 0 on some ray, or one of them or
-- two show that they are not. The rays that are left after n of the forms lie between two. Assumes nothing.
use Rattle.std.proofs.Common.{◌≡◌, ℕ, zero, suc, ◌+◌, ◌<◌, ◌⊎◌, [], ◌∷◌, ℤ, pos, ◌+ℤ◌, ◌-ℤ◌, ◌*ℤ◌, neg_ℤ, ◌≤ℤ◌, ◌<ℤ◌, refl, inl, inr, add-one, arith, below_more}
use borrow.Author.Differences.{ints}
use Rattle.std.proofs.lemmas.Int.{by_lt_z}
use Rattle.motion.specs.Ends.{Late}
use Rattle.algebra.proofs.Polynomial.{forms, by_ring}
use Rattle.algebra.proofs.Order.{signs, neg>0, neg≥0, product>0, product≥0, factor>0, factor≥0, by-<, by-≤}

-- of n values that go from a i to b i, one is above 0 at neither end
pub record Nowhere (a b : ℕ → ℤ) (n : ℕ) : Type 0 where
  pub i : ℕ
  pub within : i < n
  pub from : a i ≤ℤ pos 0
  pub to : b i ≤ℤ pos 0

-- two of them are nowhere both above 0
pub record Apart (a b : ℕ → ℤ) (n : ℕ) : Type 0 where
  pub i : ℕ
  pub j : ℕ
  pub i_within : i < n
  pub j_within : j < n
  pub pair : Late (a i) (b i) (a j) (b j)

-- the form's value on a ray
abbrev pub on : ℤ → ℤ → ℤ → ℤ → ℤ
on a b u t = (a *ℤ u) +ℤ (b *ℤ t)

-- the ray (u, t) is the one where a form j rises above 0
pub record Rises (a b : ℕ → ℤ) (n : ℕ) (u t : ℤ) : Type 0 where
  pub j : ℕ
  pub within : j < n
  pub from : a j ≤ℤ pos 0
  pub to : pos 0 <ℤ b j
  pub u_is : u ≡ b j
  pub t_is : t ≡ neg_ℤ (a j)

-- a form is above 0 on every ray between (u, t) and (v, s)
pub record Above (a b u t v s : ℤ) : Type 0 where
  pub first : pos 0 ≤ℤ on a b u t
  pub last : pos 0 ≤ℤ on a b v s
  pub between : pos 0 <ℤ (on a b u t +ℤ on a b v s)

-- the rays on which n forms are above 0: those from (u, t) to (v, s)
pub record Wedge (a b : ℕ → ℤ) (n : ℕ) : Type 0 where
  pub u : ℤ
  pub t : ℤ
  pub v : ℤ
  pub s : ℤ
  pub u>0 : pos 0 <ℤ u
  pub t≥0 : pos 0 ≤ℤ t
  pub v≥0 : pos 0 ≤ℤ v
  pub s>0 : pos 0 <ℤ s
  pub size : pos 0 <ℤ ((u *ℤ s) -ℤ (t *ℤ v))
  pub first : (t ≡ pos 0) ⊎ Rises a b n u t
  pub last : (v ≡ pos 0) ⊎ Rises b a n s v
  pub above : (i : ℕ) → i < n → Above (a i) (b i) u t v s

abbrev pub Outcome : (ℕ → ℤ) → (ℕ → ℤ) → ℕ → Type 0
Outcome a b n = Wedge a b n ⊎ (Nowhere a b n ⊎ Apart a b n)

-- ---- the other way round
above_flip : (a b u t v s : ℤ) → Above a b u t v s → Above b a s v t u
above_flip a b u t v s h = record { first = omega (arith, ints, h.last); last = omega (arith, ints, h.first); between = omega (arith, ints, h.between) }

wedge_flip : (a b : ℕ → ℤ) (n : ℕ) → Wedge a b n → Wedge b a n
wedge_flip a b n w =
    record {
      u = w.s;
      t = w.v;
      v = w.t;
      s = w.u;
      u>0 = w.s>0;
      t≥0 = w.v≥0;
      v≥0 = w.t≥0;
      s>0 = w.u>0;
      size = by-< ((w.u *ℤ w.s) -ℤ (w.t *ℤ w.v)) w.size (by_ring (w.u ∷ w.t ∷ w.v ∷ w.s ∷ []) (search forms depth 60 fits 99999) refl);
      first = w.last;
      last = w.first;
      above = λ i h. above_flip (a i) (b i) w.u w.t w.v w.s (w.above i h);
    }

late_flip : (a b c d : ℤ) → Late a b c d → Late d c b a
late_flip a b c d h =
    record {
      first_from = h.second_to;
      first_to = h.second_from;
      second_from = h.first_to;
      second_to = h.first_from;
      late =
          let late = h.late in
          by-≤ ((c *ℤ b) -ℤ (a *ℤ d)) (search signs) (by_ring (a ∷ b ∷ c ∷ d ∷ []) (search forms depth 60 fits 99999) refl);
    }

apart_flip : (a b : ℕ → ℤ) (n : ℕ) → Apart a b n → Apart b a n
apart_flip a b n p =
    record { i = p.j; j = p.i; i_within = p.j_within; j_within = p.i_within; pair = late_flip (a p.i) (b p.i) (a p.j) (b p.j) p.pair }

outcome_flip : (a b : ℕ → ℤ) (n : ℕ) → Outcome a b n → Outcome b a n
outcome_flip a b n (inl w) = inl (wedge_flip a b n w)
outcome_flip a b n (inr (inl h)) = inr (inl (record { i = h.i; within = h.within; from = h.to; to = h.from }))
outcome_flip a b n (inr (inr p)) = inr (inr (apart_flip a b n p))

-- ---- one form more
rises_more : {a b : ℕ → ℤ} {n : ℕ} {u t : ℤ} {P : Type 0} → P ⊎ Rises a b n u t → P ⊎ Rises a b (n + 1) u t
rises_more (inl e) = inl e
rises_more (inr r) = inr (record { j = r.j; within = omega (arith, r.within); from = r.from; to = r.to; u_is = r.u_is; t_is = r.t_is })

-- the rays are the same
wedge_kept : (a b : ℕ → ℤ) (n : ℕ) (w : Wedge a b n) → Above (a n) (b n) w.u w.t w.v w.s → Wedge a b (n + 1)
wedge_kept a b n w h =
    record {
      u = w.u;
      t = w.t;
      v = w.v;
      s = w.s;
      u>0 = w.u>0;
      t≥0 = w.t≥0;
      v≥0 = w.v≥0;
      s>0 = w.s>0;
      size = w.size;
      first = rises_more w.first;
      last = rises_more w.last;
      above = below_more _ _ w.above h;
    }

-- a form (g, h) above 0 up to (v, s) is above 0 up to where the form (a, b) falls to 0, on the ray (- b, a)
module _ (a b u t v s : ℤ) (size : pos 0 <ℤ ((u *ℤ s) -ℤ (t *ℤ v))) (f : pos 0 <ℤ on a b u t) (l : on a b v s <ℤ pos 0) where
  -- times the size of the wedge
  scaled : (g h : ℤ) → ((u *ℤ s) -ℤ (t *ℤ v)) *ℤ on g h (neg_ℤ b) a ≡ (on a b u t *ℤ on g h v s) +ℤ (neg_ℤ (on a b v s) *ℤ on g h u t)
  scaled g h = by_ring (a ∷ b ∷ u ∷ t ∷ v ∷ s ∷ g ∷ h ∷ []) (search forms depth 60 fits 99999) refl

  above_less : (g h : ℤ) → Above g h u t v s → Above g h u t (neg_ℤ b) a
  above_less g h k =
      let m : pos 0 <ℤ neg_ℤ (on a b v s) = neg>0 (on a b v s) l in
      let last : pos 0 ≤ℤ on g h (neg_ℤ b) a =
      factor≥0 ((u *ℤ s) -ℤ (t *ℤ v)) (on g h (neg_ℤ b) a) size (rw scaled (search signs depth 12 fits 5000)) in
      record {
        first = k.first;
        last = last;
        between =
            by_lt_z (pos 0) (on g h u t) (λ e. omega (arith, ints))
            (λ e. let p : pos 0 <ℤ on g h v s = omega (arith, ints, k.between) in
            let q : pos 0 <ℤ on g h (neg_ℤ b) a = factor>0 ((u *ℤ s) -ℤ (t *ℤ v)) (on g h (neg_ℤ b) a) size (rw scaled (search signs depth 12 fits 5000)) in
            omega (arith, ints, k.first));
      }

wedge_cut : (a b : ℕ → ℤ) (n : ℕ) (w : Wedge a b n) → pos 0 <ℤ a n → b n ≤ℤ pos 0 → pos 0 <ℤ on (a n) (b n) w.u w.t → on (a n) (b n) w.v w.s <ℤ pos 0 → Wedge a b (n + 1)
wedge_cut a b n w x y f l =
    let zero_there : on (a n) (b n) (neg_ℤ (b n)) (a n) ≡ pos 0 = by_ring (a n ∷ b n ∷ []) (search forms depth 60 fits 99999) refl in
    record {
      u = w.u;
      t = w.t;
      v = neg_ℤ (b n);
      s = a n;
      u>0 = w.u>0;
      t≥0 = w.t≥0;
      v≥0 = neg≥0 (b n) y;
      s>0 = x;
      size = by-< (on (a n) (b n) w.u w.t) f (by_ring (a n ∷ b n ∷ w.u ∷ w.t ∷ []) (search forms depth 60 fits 99999) refl);
      first = rises_more w.first;
      last = inr (record { j = n; within = omega arith; from = y; to = x; u_is = refl; t_is = refl });
      above = below_more _ _ (λ i h. above_less (a n) (b n) w.u w.t w.v w.s w.size f l (a i) (b i) (w.above i h))
          (record { first = omega (arith, ints); last = omega (arith, ints); between = omega (arith, ints) });
    }

-- a form that is not above 0 where the wedge begins falls too early
too_late : (a b : ℕ → ℤ) (n : ℕ) (u t : ℤ) → pos 0 <ℤ u → (t ≡ pos 0) ⊎ Rises a b n u t → pos 0 <ℤ a n → b n ≤ℤ pos 0 → on (a n) (b n) u t ≤ℤ pos 0 → Apart a b (n + 1)
too_late a b n u t k (inl e) x y f = absurd (omega (arith, ints, product>0 (a n) u x k, simp e at f))
too_late a b n u t k (inr r) x y f =
    record {
      i = n;
      j = r.j;
      i_within = omega arith;
      j_within = omega (arith, r.within);
      pair = record {
        first_from = x;
        first_to = y;
        second_from = r.from;
        second_to = r.to;
        late =
            let g : on (a n) (b n) (b r.j) (neg_ℤ (a r.j)) ≤ℤ pos 0 = rw (r.u_is, r.t_is) at f in
            by-≤ (neg_ℤ (on (a n) (b n) (b r.j) (neg_ℤ (a r.j)))) (neg≥0 _ g) (by_ring (a n ∷ b n ∷ a r.j ∷ b r.j ∷ []) (search forms depth 60 fits 99999) refl);
      };
    }

falling : (a b : ℕ → ℤ) (n : ℕ) → Wedge a b n → pos 0 <ℤ a n → b n ≤ℤ pos 0 → Outcome a b (n + 1)
falling a b n w x y =
    by_lt_z (pos 0) (on (a n) (b n) w.u w.t)
    (λ f. by_lt_z (on (a n) (b n) w.v w.s) (pos 0) (λ l. inl (wedge_cut a b n w x y f l))
    (λ l. inl (wedge_kept a b n w (record { first = omega (arith, ints); last = l; between = omega (arith, ints) }))))
    (λ f. inr (inr (too_late a b n w.u w.t w.u>0 w.first x y f)))

-- a form that is above 0 at both ends of the quarter is so on every ray
throughout : (a b u t v s : ℤ) → pos 0 <ℤ a → pos 0 <ℤ b → pos 0 <ℤ u → pos 0 ≤ℤ t → pos 0 ≤ℤ v → pos 0 <ℤ s → Above a b u t v s
throughout a b u t v s x y u>0 t≥0 v≥0 s>0 = record { first = search signs; last = search signs; between = search signs depth 12 fits 5000 }

one_more : (a b : ℕ → ℤ) (n : ℕ) → Wedge a b n → Outcome a b (n + 1)
one_more a b n w =
    by_lt_z (pos 0) (a n)
    (λ x. by_lt_z (pos 0) (b n)
    (λ y. inl (wedge_kept a b n w (throughout (a n) (b n) w.u w.t w.v w.s x y w.u>0 w.t≥0 w.v≥0 w.s>0)))
    (λ y. falling a b n w x y))
    (λ x. by_lt_z (pos 0) (b n)
    (λ y. outcome_flip b a (n + 1) (falling b a n (wedge_flip a b n w) y x))
    (λ y. inr (inl (record { i = n; within = omega arith; from = x; to = y }))))

outcome_more : (a b : ℕ → ℤ) (n : ℕ) → Outcome a b n → Outcome a b (n + 1)
outcome_more a b n (inl w) = one_more a b n w
outcome_more a b n (inr (inl h)) = inr (inl (record { i = h.i; within = omega (arith, h.within); from = h.from; to = h.to }))
outcome_more a b n (inr (inr p)) =
    inr (inr (record { i = p.i; j = p.j; i_within = omega (arith, p.i_within); j_within = omega (arith, p.j_within); pair = p.pair }))

pub outcome : (a b : ℕ → ℤ) (n : ℕ) → Outcome a b n
outcome a b zero =
    inl (record {
      u = pos 1;
      t = pos 0;
      v = pos 0;
      s = pos 1;
      u>0 = omega (arith, ints);
      t≥0 = omega (arith, ints);
      v≥0 = omega (arith, ints);
      s>0 = omega (arith, ints);
      size = omega (arith, ints);
      first = inl refl;
      last = inl refl;
      above = λ i h. absurd (omega arith);
    })
outcome a b (suc n) = rw add-one at (outcome_more a b n (outcome a b n))

-- ---- and back: two forms that are apart are on no ray both above 0
pub never_both : (a b c d u t : ℤ) → pos 0 ≤ℤ u → Late a b c d → pos 0 <ℤ on a b u t → pos 0 <ℤ on c d u t → ⊥
never_both a b c d u t k h f g =
    let late = h.late in
    let p : pos 0 <ℤ (d *ℤ on a b u t) = product>0 d (on a b u t) h.second_to f in
    let q : pos 0 ≤ℤ (neg_ℤ b *ℤ on c d u t) = product≥0 (neg_ℤ b) (on c d u t) (neg≥0 b h.first_to) (omega (arith, ints)) in
    let r : pos 0 ≤ℤ (((c *ℤ b) -ℤ (a *ℤ d)) *ℤ u) = search signs in
    let e : (d *ℤ on a b u t) +ℤ (neg_ℤ b *ℤ on c d u t) ≡ neg_ℤ (((c *ℤ b) -ℤ (a *ℤ d)) *ℤ u) = by_ring (a ∷ b ∷ c ∷ d ∷ u ∷ t ∷ []) (search forms depth 60 fits 99999) refl in
    omega (arith, ints)
