-- Ledges in words: what is written of the parts of a surface are its ledges, and those of all surfaces make a map. Assumes nothing.
use Rattle.std.proofs.Common.{◌≡◌, ℕ, ◌++◌, take, ◌+◌, ◌*◌, ◌<◌, ◌≤◌, List, length, get_or, Some, Option, sym, refl, ap, ◌∙◌, subst, ⊎_elim, arith, below_more, slice_index}
use Rattle.std.proofs.lemmas.Bool.{cases_eq}
use borrow.Rule.Slice.PartMut.{put_mid, post_of}
use Rattle.std.proofs.Math.Nat.{mul-le-mul_right}
use Rattle.std.proofs.lemmas.List.{get_or_append_left, get_or-take, get_or-append-add, length-take-le}
use Rattle.algebra.specs.Hall as hall
use Rattle.algebra.specs.Hall.{Corner, Shape, Hall, Free}
use Rattle.obstacle.specs.Freedom.{Obstacles}
use Rattle.ledge.specs.declared.parts.Ledge.{Ledge}
use Rattle.ledge.specs.declared.parts.Part.{Part}
use Rattle.ledge.specs.declared.parts.Part.TheVariants as part
use Rattle.ledge.specs.declared.shadows.Shadow.{Shadow}
use Rattle.ledge.specs.declared.spots.Spot.{Spot}
use Rattle.ledge.specs.Ledges.{BeginningAt, RunsFrom, PartOf, Holding, Ledged, Mapped}
use Rattle.ledge.specs.Lights.{Lights}
use Rattle.ledge.specs.Lines.{left_end, right_end, number, Numbered, Unnumbered}
use Rattle.ledge.specs.Parts.{words_place, words_part, Written, Marked, Along}
use Rattle.ledge.specs.Runs.{Lit}
use Rattle.ledge.specs.Surfaces.{Surface, Stands}
use Rattle.ledge.proofs.Landing.{same_number, number_below}
use Rattle.ledge.proofs.Ledging.{ledge_laws}
use Rattle.ledge.proofs.Numbering.{FewSides}

-- ---- the words of a part
place_moved : (old new : List ℕ) (i j : ℕ) → slice_index new i ≡ slice_index old j → slice_index new (i + 1) ≡ slice_index old (j + 1) → slice_index new (i + 2) ≡ slice_index old (j + 2) →
    words_place new i ≡ words_place old j
place_moved old new i j e f g = cc

pub part_moved : (old new : List ℕ) (i j : ℕ) → ((m n : ℕ) → 6 * i ≤ m → m < 6 * i + 6 → m + 6 * j ≡ n + 6 * i → slice_index new m ≡ slice_index old n) → words_part new i ≡ words_part old j
part_moved old new i j e =
    let first = place_moved old new (6 * i) (6 * j)
    (e (6 * i) (6 * j) (omega arith) (omega arith) (omega arith))
    (e (6 * i + 1) (6 * j + 1) (omega arith) (omega arith) (omega arith))
    (e (6 * i + 2) (6 * j + 2) (omega arith) (omega arith) (omega arith)) in
    let second = place_moved old new (6 * i + 3) (6 * j + 3)
    (e (6 * i + 3) (6 * j + 3) (omega arith) (omega arith) (omega arith))
    (e (6 * i + 3 + 1) (6 * j + 3 + 1) (omega arith) (omega arith) (omega arith))
    (e (6 * i + 3 + 2) (6 * j + 3 + 2) (omega arith) (omega arith) (omega arith)) in
    let mark = e (6 * i + 2) (6 * j + 2) (omega arith) (omega arith) (omega arith) in
    cc

-- ---- the parts of one surface
module _ (ss : List (Option Shadow)) (a b : Corner) where
  -- the first n are written
  abbrev pub Filled : ℕ → List ℕ → Type 0
  Filled n ws = (k : ℕ) → k < n → PartOf ss a b k (words_part ws k)

  pub marked : (k : ℕ) (x : Part) → PartOf ss a b k x → Marked x
  marked k part.Vacant h = tt
  marked k (part.Free l) h = omega (arith, h.ledge.near.from.real)

  pub filled_more : (n : ℕ) (old new : List ℕ) (x : Part) → Filled n old → PartOf ss a b n x → words_part new n ≡ x → Written old new (6 * n) 6 → Filled (n + 1) new
  filled_more n old new x f p here others =
      below_more _ _
      (λ k l. subst (PartOf ss a b k) (sym (part_moved old new k k (λ i j f g e. others.before i (omega arith) ∙ ap (slice_index old) (omega arith)))) (f k l))
      (subst (PartOf ss a b n) (sym here) p)

module _ (h : Hall) (gs : List Shape) (s : Surface) (ss : List (Option Shadow)) (o : Obstacles h gs) (stands : Stands gs s) (lights : Lights h gs (left_end gs s) (right_end h gs s) ss)
    (ws : List ℕ) (first n : ℕ) (enough : length gs + 5 ≤ n) (filled : (k : ℕ) → k < n → PartOf ss (left_end gs s) (right_end h gs s) k (words_part ws (first + k))) where
  holds : (p : hall.Place) (c : ℕ) (l : c < n) (x : Part) → words_part ws (first + c) ≡ x → PartOf ss (left_end gs s) (right_end h gs s) c x → (e : Spot) → BeginningAt ss c (Some e) → Lit ss e.t e.u →
      ((m : Ledge) → RunsFrom ss (left_end gs s) (right_end h gs s) c m → Along m p) → Holding ws first n p
  holds p c l part.Vacant e q b i t a = absurd (q b i t)
  holds p c l (part.Free m) e q b i t a = record { c = c; within = l; ledge = m; is = e; along = a m q }

  pub ledged : Ledged h gs s ws first n
  ledged =
      record {
        sound = λ c l m e. ledge_laws.sound h gs s ss o stands lights c m (subst (PartOf ss (left_end gs s) (right_end h gs s) c) e (filled c l));
        complete = λ p op free.
            let x = ledge_laws.complete h gs s ss o lights p op free in
            holds p x.0 (omega (arith, x.1)) (words_part ws (first + x.0)) refl (filled x.0 (omega (arith, x.1))) x.2.0 x.2.1 x.2.2 x.2.3;
      }

-- ---- parts that stand elsewhere
pub ledged_moved : (h : Hall) (gs : List Shape) (s : Surface) (old new : List ℕ) (i j n : ℕ) → ((c : ℕ) → c < n → words_part new (i + c) ≡ words_part old (j + c)) → Ledged h gs s old j n → Ledged h gs s new i n
ledged_moved h gs s old new i j n same l =
    record {
      sound = λ c k m e. l.sound c k m (sym (same c k) ∙ e);
      complete = λ p op free.
          let x = l.complete p op free in
          record { c = x.c; within = x.within; ledge = x.ledge; is = same x.c x.within ∙ x.is; along = x.along };
    }

-- words ys are put from word a on
module _ (ws ys : List ℕ) (a k : ℕ) (room : a ≤ length ws) where
  put_before : (j : ℕ) → j < a → slice_index (put_mid a k ws ys) j ≡ slice_index ws j
  put_before j l =
      let e = length-take-le a ws room in
      get_or_append_left (take a ws) (ys ++ post_of a k ws) 0 j (omega (arith, e)) ∙ get_or-take a ws j 0 l

  put_here : (i j : ℕ) → j ≡ a + i → i < length ys → slice_index (put_mid a k ws ys) j ≡ slice_index ys i
  put_here i j f l =
      let e = length-take-le a ws room in
      let g : j ≡ length (take a ws) + i = omega (arith, e) in
      ap (λ (m : ℕ). get_or (take a ws ++ (ys ++ post_of a k ws)) m 0) g
      ∙ (get_or-append-add (take a ws) (ys ++ post_of a k ws) i 0 ∙ get_or_append_left ys (post_of a k ws) 0 i l)

-- ---- the map: each surface whose number is below n has its ledges in its part
module _ (h : Hall) (gs : List Shape) (m : ℕ) where
  abbrev pub MappedTo : ℕ → List ℕ → Type 0
  MappedTo n ws = (s : Surface) → Stands gs s → number s < n → Ledged h gs s ws (number s * m) m

  pub mapped_none : (ws : List ℕ) → MappedTo 0 ws
  mapped_none ws s st l = absurd (omega arith)

  pub mapped_pass : (n : ℕ) (ws : List ℕ) → MappedTo n ws → Unnumbered gs n → MappedTo (n + 1) ws
  mapped_pass n ws f none s st l =
      ⊎_elim (λ e. absurd (none s (record { stands = st; is = e }))) (λ e. f s st (omega arith)) (cases_eq (number s) n)

  module _ (few : FewSides gs) where
    pub mapped_more : (n k : ℕ) (ws ys : List ℕ) (t : Surface) → n * (6 * m) ≤ length ws → 6 * m ≤ length ys → MappedTo n ws → Numbered gs n t → Ledged h gs t ys 0 m →
        MappedTo (n + 1) (put_mid (n * (6 * m)) k ws ys)
    mapped_more n k ws ys t room size f num here s st l =
        let new = put_mid (n * (6 * m)) k ws ys in
        ⊎_elim
        (λ e.
        let same = same_number gs few s t st num.stands (e ∙ sym num.is) in
        let at = ap (λ (j : ℕ). j * m) e in
        ledged_moved h gs s ys new (number s * m) 0 m
        (λ c w. part_moved ys new (number s * m + c) (0 + c) (λ x y g i z. put_here ws ys (n * (6 * m)) k room y x (omega (arith, at)) (omega (arith, at))))
        (subst (λ (r : Surface). Ledged h gs r ys 0 m) (sym same) here))
        (λ e.
        let d : number s + 1 ≤ n = omega arith in
        let b = mul-le-mul_right m d in
        ledged_moved h gs s ws new (number s * m) (number s * m) m
        (λ c w. part_moved ws new (number s * m + c) (number s * m + c)
        (λ x y g i z. put_before ws ys (n * (6 * m)) k room x (omega (arith, b)) ∙ ap (slice_index ws) (omega arith)))
        (f s st (omega arith)))
        (cases_eq (number s) n)

    pub mapped_all : (n : ℕ) (ws : List ℕ) → 16 * length gs < n → MappedTo n ws → Mapped h gs ws m
    unfolding Mapped
    mapped_all n ws l f s st = f s st (omega (arith, number_below gs few s st))
