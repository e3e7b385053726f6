-- The highest of the surfaces that come by their numbers, one after another. Assumes nothing.
use Rattle.std.proofs.Common.{◌≡◌, ℕ, ◌+◌, ◌*◌, ◌<◌, List, [], ◌∷◌, length, Some, None, Option, MatchOption, refl, sym, ap, ◌∙◌, subst, arith}
use Rattle.std.proofs.lemmas.Bool.{false≢true}
use Rattle.std.proofs.iter.Yields.{nat_range_steps}
use Rattle.std.specs.declared.ops.Range.{Range}
use Rattle.std.specs.declared.iter.FilterMap.{FilterMap}
use Rattle.std.specs.Fn.{Called, Takes}
use Rattle.std.specs.Iterator.{Yields, YieldsThen, FoldTurn, FoldsItems, CallableInFold}
use Rattle.std.specs.Iterator.Adapters.{filter_map_steps}
use Rattle.std.specs.List.{FoldsTo}
use Rattle.std.specs.Option.{IsSome}
use denote.Param.Members.{Mut}
use Rattle.algebra.specs.Hall.{Place, Shape, Hall, Within}
use Rattle.ledge.specs.declared.surfaces.Surface as code
use Rattle.ledge.specs.declared.surfaces.Surface.TheVariants as code_case
use Rattle.ledge.specs.Landings.{Higher, Floors}
use Rattle.ledge.specs.Lines.{surface_of, Numbered, Unnumbered}
use Rattle.ledge.specs.Surfaces.{Stands, Holds}
use Rattle.ledge.proofs.Landing.{Best, best_none, best_pass, best_more, best_floors}
use Rattle.ledge.proofs.Numbering.{FewSides}

module _ {F : Type 0} (g : Mut F (ℕ × Unit {0}) (Option code.Surface)) (f : F) {K : Type 0} (turn : Mut K (code.Surface × (code.Surface × Unit {0})) code.Surface) (k : K)
    (h : Hall) (gs : List Shape) (p : Place) (real : 0 < p.w) (few : FewSides gs)
    (none : (n : ℕ) (q : F) → Called g f (n, tt) None q → (q ≡ f) × Unnumbered gs n)
    (some : (n : ℕ) (s : code.Surface) (q : F) → Called g f (n, tt) (Some s) q → (q ≡ f) × Numbered gs n (surface_of s))
    (higher : (b s r : code.Surface) (q : K) → Called turn k (b, (s, tt)) r q → (q ≡ k) × Higher h gs p (surface_of b) (surface_of s) (surface_of r)) where
  abbrev steps : FilterMap (Range ℕ) F → Option code.Surface → FilterMap (Range ℕ) F → Type 0
  steps = filter_map_steps nat_range_steps g

  -- numbers of no surface are passed over
  passed : (ns : List ℕ) (s t : Range ℕ) (b : code.Surface) (q : F) → Yields nat_range_steps s ns t → FoldsTo (λ i n j. Called g i (n, tt) None j) f ns q → Best h gs p s.start (surface_of b) →
      (q ≡ f) × (t.end ≡ s.end) × Best h gs p t.start (surface_of b)
  passed [] s t b q y c best = (sym c, ap (λ (r : Range ℕ). r.end) (sym y), subst (λ (r : Range ℕ). Best h gs p r.start (surface_of b)) y best)
  passed (n ∷ ns) s t b q y c best =
      let u = none n c.0 c.1 in
      let e : s.start + 1 ≡ y.0.start = omega (arith, y.1.1.2) in
      let on = subst (λ (m : ℕ). Best h gs p m (surface_of b)) e (best_pass h gs p real few s.start (surface_of b) best (subst (Unnumbered gs) y.1.1.1 u.1)) in
      let r = passed ns y.0 t b q y.2 (subst (λ (z : F). FoldsTo (λ i n j. Called g i (n, tt) None j) z ns q) u.0 c.2) on in
      (r.0, r.1 ∙ y.1.0, r.2)

  -- b is the highest of those before s's number
  record At (s : FilterMap (Range ℕ) F) (end : ℕ) (b : code.Surface) : Type 0 where
    pub same : s.f ≡ f
    pub ends : s.iter.end ≡ end
    pub best : Best h gs p s.iter.start (surface_of b)

  -- x is the next
  record Next (t : FilterMap (Range ℕ) F) (end : ℕ) (b x : code.Surface) : Type 0 where
    pub n : ℕ
    pub numbered : Numbered gs n (surface_of x)
    pub same : t.f ≡ f
    pub ends : t.iter.end ≡ end
    pub on : n + 1 ≡ t.iter.start
    pub best : Best h gs p n (surface_of b)

  chosen : (ns : List ℕ) (o : Option ℕ) (q : F) (s t : FilterMap (Range ℕ) F) (end : ℕ) (b x : code.Surface) → YieldsThen nat_range_steps s.iter ns o t.iter →
      FoldsTo (λ i n j. Called g i (n, tt) None j) s.f ns q → MatchOption o ((Some x ≡ None) × (t.f ≡ q)) (λ n. Called g q (n, tt) (Some x) t.f × IsSome (Some x)) → At s end b → Next t end b x
  chosen ns None q s t end b x y c m a = absurd (cc (m.0))
  chosen ns (Some n) q s t end b x y c m a =
      let v = passed ns s.iter y.0 b q y.1 (subst (λ (z : F). FoldsTo (λ i n j. Called g i (n, tt) None j) z ns q) a.same c) a.best in
      let w = some n x t.f (subst (λ (z : F). Called g z (n, tt) (Some x) t.f) v.0 m.0) in
      record {
        n = n;
        numbered = w.1;
        same = w.0;
        ends = y.2.0 ∙ (v.1 ∙ a.ends);
        on = omega (arith, y.2.1.1, y.2.1.2);
        best = subst (λ (i : ℕ). Best h gs p i (surface_of b)) (sym y.2.1.1) v.2;
      }

  next : (s t : FilterMap (Range ℕ) F) (end : ℕ) (b x : code.Surface) → steps s (Some x) t → At s end b → Next t end b x
  next s t end b x e a = chosen e.0 e.1 e.2 s t end b x e.3 e.4 e.5 a

  so_far : (xs : List code.Surface) (s t : FilterMap (Range ℕ) F) (end : ℕ) (b : code.Surface) (q : K × code.Surface) → Yields steps s xs t → FoldsTo {P = K × code.Surface} (FoldTurn turn) (k, b) xs q → At s end b →
      (q.0 ≡ k) × At t end q.1
  so_far [] s t end b q y c a = (ap (λ (z : K × code.Surface). z.0) (sym c), subst (λ (z : FilterMap (Range ℕ) F). At z end q.1) y (subst (λ (z : K × code.Surface). At s end z.1) c a))
  so_far (x ∷ xs) s t end b q y c a =
      let n = next s y.0 end b x y.1 a in
      let u = higher b x c.0.1 c.0.0 c.1 in
      let best = subst (λ (i : ℕ). Best h gs p i (surface_of c.0.1)) n.on (best_more h gs p real few n.n (surface_of b) n.best (surface_of x) (surface_of c.0.1) n.numbered u.1) in
      so_far xs y.0 t end c.0.1 q y.2 (subst (λ (z : K). FoldsTo {P = K × code.Surface} (FoldTurn turn) (z, c.0.1) xs q) u.0 c.2) (record { same = n.same; ends = n.ends; best = best })

  ended : (r : Option code.Surface) → r ≡ None → (ns : List ℕ) (o : Option ℕ) (q : F) (s t : FilterMap (Range ℕ) F) (end : ℕ) (b : code.Surface) → YieldsThen nat_range_steps s.iter ns o t.iter →
      FoldsTo (λ i n j. Called g i (n, tt) None j) s.f ns q → MatchOption o ((r ≡ None) × (t.f ≡ q)) (λ n. Called g q (n, tt) r t.f × IsSome r) → At s end b →
      16 * length gs < end → Floors h gs p (surface_of b)
  ended r e ns None q s t end b y c m a l =
      let v = passed ns s.iter y.0 b q y.1 (subst (λ (z : F). FoldsTo (λ i n j. Called g i (n, tt) None j) z ns q) a.same c) a.best in
      best_floors h gs p real few y.0.start (surface_of b) (omega (arith, y.2.1.0, v.1, a.ends)) v.2
  ended r e ns (Some n) q s t end b y c m a l = absurd (false≢true (subst IsSome e m.1))

  module _ (end : ℕ) (s : FilterMap (Range ℕ) F) (same : s.f ≡ f) (is : s.iter ≡ record { start = 0; end = end }) (within : Within h p) where
    first : At s end code_case.Bottom
    first = record { same = same; ends = ap (λ (r : Range ℕ). r.end) is; best = subst (λ (r : Range ℕ). Best h gs p r.start (surface_of code_case.Bottom)) (sym is) (best_none h gs p real within) }

    pub turns_taken : ((b x : code.Surface) → Holds h gs (surface_of b) p → Stands gs (surface_of x) → Takes turn k (b, (x, tt))) → CallableInFold (filter_map_steps nat_range_steps g) turn s k code_case.Bottom
    turns_taken takes = record {
      at = λ xs t q x u y c e.
          let v = so_far xs s t end code_case.Bottom q y c first in
          let n = next t u end q.1 x e v.1 in
          subst (λ (z : K). Takes turn z (q.1, (x, tt))) (sym v.0) (takes q.1 x n.best.holds n.numbered.stands);
    }

    pub fold_floors : (r : code.Surface) → 16 * length gs < end → FoldsItems (filter_map_steps nat_range_steps g) turn s k code_case.Bottom r → Floors h gs p (surface_of r)
    fold_floors r l i =
        let d = i.2 in
        let t = d.1.0 in
        let v = so_far i.0 s t end code_case.Bottom (i.1, r) d.1.1 i.3 first in
        let e = d.1.2 in
        ended None refl e.0 e.1 e.2 t d.0 end r e.3 e.4 e.5 v.1 l
