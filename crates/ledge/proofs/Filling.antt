-- The falls of every obstacle, by their places in a list. Assumes nothing.
use Rattle.std.proofs.Common.{◌≡◌, ℕ, ◌+◌, ◌*◌, ◌<◌, List, length, get_or, None, Option, sym, ◌∙◌, subst, arith, below_more}
use Rattle.std.proofs.lemmas.List.{length-replicate, get_or-set_same, get_or-set_other, length-set}
use Rattle.std.proofs.Math.ListN.{set, replicate}
use Rattle.algebra.specs.Hall.{Shape, Hall}
use Rattle.ledge.specs.declared.descents.Descent.{Descent}
use Rattle.ledge.specs.declared.descents.Hand.TheVariants as hand
use Rattle.ledge.specs.Descents.{DescentIs, AllDescents}

module _ (h : Hall) (gs : List Shape) where
  -- those of the first n obstacles
  pub record Filled (n : ℕ) (ds : List (Option Descent)) : Type 0 where
    pub count : length ds ≡ 80
    pub left : (k : ℕ) → k < n → DescentIs h gs k hand.Left (get_or ds (2 * k) None)
    pub right : (k : ℕ) → k < n → DescentIs h gs k hand.Right (get_or ds (2 * k + 1) None)

  pub filled_none : Filled 0 (replicate 80 None)
  filled_none = record { count = length-replicate {A = Option Descent} 80 None; left = λ k l. absurd (omega arith); right = λ k l. absurd (omega arith) }

  pub filled_all : (ds : List (Option Descent)) → Filled (length gs) ds → AllDescents h gs ds
  filled_all ds f = record { count = f.count; left = f.left; right = f.right }

  module _ (n : ℕ) (ds : List (Option Descent)) (f : Filled n ds) (few : n < 40) (a b : Option Descent) where
    kept : (j : ℕ) → j < 2 * n → get_or (set (set ds (2 * n) a) (2 * n + 1) b) j None ≡ get_or ds j None
    kept j l = get_or-set_other (set ds (2 * n) a) (2 * n + 1) j b None (omega arith) ∙ get_or-set_other ds (2 * n) j a None (omega arith)

    pub filled_more : DescentIs h gs n hand.Left a → DescentIs h gs n hand.Right b → Filled (n + 1) (set (set ds (2 * n) a) (2 * n + 1) b)
    filled_more p q =
        let c = length-set (set ds (2 * n) a) (2 * n + 1) b ∙ (length-set ds (2 * n) a ∙ f.count) in
        let first = get_or-set_other (set ds (2 * n) a) (2 * n + 1) (2 * n) b None (omega arith) ∙ get_or-set_same ds (2 * n) a None (omega (arith, f.count)) in
        let second = get_or-set_same (set ds (2 * n) a) (2 * n + 1) b None (omega (arith, f.count, length-set ds (2 * n) a)) in
        record {
          count = c;
          left = below_more _ _ (λ k l. subst (DescentIs h gs k hand.Left) (sym (kept (2 * k) (omega arith))) (f.left k l)) (subst (DescentIs h gs n hand.Left) (sym first) p);
          right = below_more _ _ (λ k l. subst (DescentIs h gs k hand.Right) (sym (kept (2 * k + 1) (omega arith))) (f.right k l)) (subst (DescentIs h gs n hand.Right) (sym second) q);
        }
