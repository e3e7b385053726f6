-- A piece of the format: how a value is written and read, and that the two undo each other. A pair of pieces is a piece, and so is a count followed by as
-- many pieces. Assumes nothing.
use Rattle.std.proofs.Common.{◌≡◌, ℕ, zero, suc, ◌+◌, ◌≤◌, List, [], ◌∷◌, ◌++◌, length, drop, sym, refl, ap, ◌∙◌, ap₂, append_assoc, arith}
use Rattle.std.specs.List.{flat_map, AllByRecursion as All}
use Rattle.std.proofs.lemmas.List.{append-nil, drop-drop, drop_at, drop_all, drop_more, length-append}
use Rattle.hall.specs.Bytes.{byte}
use Rattle.hall.specs.Laws.{Bytes}

-- what is read at i as `read bs i` ends at `next bs i`; the values that are Good are read back
pub record Piece {X : Type 0} (write : X → List ℕ) (read : List ℕ → ℕ → X) (next : List ℕ → ℕ → ℕ) (Good : X → Type 0) : Type 0 where
  pub after : (bs : List ℕ) (i : ℕ) → i ≤ next bs i
  pub reads : (bs : List ℕ) (i : ℕ) (x : X) (rest : List ℕ) → Good x → drop i bs ≡ write x ++ rest → (read bs i ≡ x) × (next bs i ≡ i + length (write x))
  pub writes : (bs : List ℕ) (i : ℕ) → Bytes bs → next bs i ≤ length bs → drop i bs ≡ write (read bs i) ++ drop (next bs i) bs

-- what is left after some bytes
pub drop_past : (bs : List ℕ) (i j : ℕ) (w rest : List ℕ) → drop i bs ≡ w ++ rest → j ≡ i + length w → drop j bs ≡ rest
drop_past bs i j w rest e n = ap (λ (k : ℕ). drop k bs) n ∙ sym (drop-drop (length w) i bs) ∙ ap (drop (length w)) e ∙ drop_at w rest (length w) refl

-- one byte
pub one : Piece (λ v. v ∷ []) byte (λ bs i. i + 1) (λ v. Unit {0})
one = record { after = λ bs i. omega arith; reads = reads_one; writes = λ bs i h l. drop_more bs i 0 (omega arith) }
  where
    reads_one : (bs : List ℕ) (i v : ℕ) (rest : List ℕ) → Unit {0} → drop i bs ≡ (v ∷ []) ++ rest → (byte bs i ≡ v) × (i + 1 ≡ i + 1)
    reads_one [] zero v rest g e = absurd (let z : ◌≡◌ {A = ℕ} 0 1 = cc in omega arith)
    reads_one [] (suc i) v rest g e = absurd (let z : ◌≡◌ {A = ℕ} 0 1 = cc in omega arith)
    reads_one (b ∷ bs) zero v rest g e = (cc, refl)
    reads_one (b ∷ bs) (suc i) v rest g e = ((reads_one bs i v rest g e).0, refl)

-- one after the other
pub pair : {X Y : Type 0} {w : X → List ℕ} {r : List ℕ → ℕ → X} {n : List ℕ → ℕ → ℕ} {G : X → Type 0} {v : Y → List ℕ} {s : List ℕ → ℕ → Y} {m : List ℕ → ℕ → ℕ} {H : Y → Type 0}
    → Piece w r n G → Piece v s m H → Piece {X = X × Y} (λ p. w p.0 ++ v p.1) (λ bs i. (r bs i, s bs (n bs i))) (λ bs i. m bs (n bs i)) (λ p. G p.0 × H p.1)
pair {X} {Y} {w} {r} {n} {G} {v} {s} {m} {H} P Q =
    record {
      after = λ bs i. omega (arith, P.after bs i, Q.after bs (n bs i));
      reads = λ bs i p rest g e.
          let f : drop i bs ≡ w p.0 ++ (v p.1 ++ rest) = e ∙ append_assoc (w p.0) (v p.1) rest in
          let a = P.reads bs i p.0 (v p.1 ++ rest) g.0 f in
          let b = Q.reads bs (n bs i) p.1 rest g.1 (drop_past bs i (n bs i) (w p.0) (v p.1 ++ rest) f a.1) in
          (ap₂ {A = X} {B = Y} {C = X × Y} (λ x y. (x, y)) a.0 b.0, omega (arith, a.1, b.1, length-append (w p.0) (v p.1)));
      writes = λ bs i h l.
          let a = P.writes bs i h (omega (arith, Q.after bs (n bs i))) in
          let b = Q.writes bs (n bs i) h l in
          a ∙ ap (λ (t : List ℕ). w (r bs i) ++ t) b ∙ sym (append_assoc (w (r bs i)) (v (s bs (n bs i))) (drop (m bs (n bs i)) bs));
    }

-- the same bytes, taken for another value
pub taken_for : {X Y : Type 0} {w : X → List ℕ} {r : List ℕ → ℕ → X} {n : List ℕ → ℕ → ℕ} {G : X → Type 0} (v : Y → List ℕ) (s : List ℕ → ℕ → Y) (m : List ℕ → ℕ → ℕ) (H : Y → Type 0)
    → Piece w r n G → (f : X → Y) (g : Y → X)
    → ((y : Y) → v y ≡ w (g y)) → ((bs : List ℕ) (i : ℕ) → s bs i ≡ f (r bs i)) → ((bs : List ℕ) (i : ℕ) → m bs i ≡ n bs i)
    → ((y : Y) → H y → G (g y)) → ((y : Y) → H y → f (g y) ≡ y) → ((bs : List ℕ) (i : ℕ) → Bytes bs → g (s bs i) ≡ r bs i)
    → Piece v s m H
taken_for {X} {Y} {w} {r} {n} {G} v s m H P f g same_bytes same_value same_end good there back =
    record {
      after = λ bs i. omega (arith, P.after bs i, same_end bs i);
      reads = λ bs i y rest h e.
          let a = P.reads bs i (g y) rest (good y h) (e ∙ ap (λ (t : List ℕ). t ++ rest) (same_bytes y)) in
          (same_value bs i ∙ ap f a.0 ∙ there y h, same_end bs i ∙ a.1 ∙ ap (λ (t : List ℕ). i + length t) (sym (same_bytes y)));
      writes = λ bs i h l.
          P.writes bs i h (omega (arith, same_end bs i))
          ∙ ap₂ (λ (t u : List ℕ). t ++ u) (ap w (sym (back bs i h)) ∙ sym (same_bytes (s bs i))) (ap (λ (k : ℕ). drop k bs) (sym (same_end bs i)));
    }

-- ---- several pieces, so many as a count before them says
pub record Several {X : Type 0} (r : List ℕ → ℕ → X) (n : List ℕ → ℕ → ℕ) (rs : ℕ → List ℕ → ℕ → List X) (ns : ℕ → List ℕ → ℕ → ℕ) : Type 0 where
  pub none_read : (bs : List ℕ) (i : ℕ) → rs zero bs i ≡ []
  pub more_read : (k : ℕ) (bs : List ℕ) (i : ℕ) → rs (suc k) bs i ≡ r bs i ∷ rs k bs (n bs i)
  pub none_end : (bs : List ℕ) (i : ℕ) → ns zero bs i ≡ i
  pub more_end : (k : ℕ) (bs : List ℕ) (i : ℕ) → ns (suc k) bs i ≡ ns k bs (n bs i)

module _ {X : Type 0} {w : X → List ℕ} {r : List ℕ → ℕ → X} {n : List ℕ → ℕ → ℕ} {G : X → Type 0} {rs : ℕ → List ℕ → ℕ → List X} {ns : ℕ → List ℕ → ℕ → ℕ} (P : Piece w r n G) (S : Several r n rs ns) where
  length_several : (k : ℕ) (bs : List ℕ) (i : ℕ) → length (rs k bs i) ≡ k
  length_several zero bs i = ap length (S.none_read bs i)
  length_several (suc k) bs i = ap length (S.more_read k bs i) ∙ ap suc (length_several k bs (n bs i))

  several_after : (k : ℕ) (bs : List ℕ) (i : ℕ) → i ≤ ns k bs i
  several_after zero bs i = omega (arith, S.none_end bs i)
  several_after (suc k) bs i = omega (arith, S.more_end k bs i, P.after bs i, several_after k bs (n bs i))

  several_reads : (bs : List ℕ) (i : ℕ) (xs : List X) (rest : List ℕ) → All G xs → drop i bs ≡ flat_map w xs ++ rest → (rs (length xs) bs i ≡ xs) × (ns (length xs) bs i ≡ i + length (flat_map w xs))
  several_reads bs i [] rest g e = (S.none_read bs i, omega (arith, S.none_end bs i))
  several_reads bs i (x ∷ xs) rest g e =
      let f : drop i bs ≡ w x ++ (flat_map w xs ++ rest) = e ∙ append_assoc (w x) (flat_map w xs) rest in
      let a = P.reads bs i x (flat_map w xs ++ rest) g.0 f in
      let b = several_reads bs (n bs i) xs rest g.1 (drop_past bs i (n bs i) (w x) (flat_map w xs ++ rest) f a.1) in
      (S.more_read (length xs) bs i ∙ ap₂ ◌∷◌ a.0 b.0, omega (arith, S.more_end (length xs) bs i, a.1, b.1, length-append (w x) (flat_map w xs)))

  several_writes : (k : ℕ) (bs : List ℕ) (i : ℕ) → Bytes bs → ns k bs i ≤ length bs → drop i bs ≡ flat_map w (rs k bs i) ++ drop (ns k bs i) bs
  several_writes zero bs i h l = ap₂ (λ (xs : List X) (j : ℕ). flat_map w xs ++ drop j bs) (sym (S.none_read bs i)) (sym (S.none_end bs i))
  several_writes (suc k) bs i h l =
      let a = P.writes bs i h (omega (arith, S.more_end k bs i, several_after k bs (n bs i))) in
      let b = several_writes k bs (n bs i) h (omega (arith, S.more_end k bs i)) in
      a ∙ ap (λ (t : List ℕ). w (r bs i) ++ t) b ∙ sym (append_assoc (w (r bs i)) (flat_map w (rs k bs (n bs i))) (drop (ns k bs (n bs i)) bs))
      ∙ ap₂ (λ (xs : List X) (j : ℕ). flat_map w xs ++ drop j bs) (sym (S.more_read k bs i)) (sym (S.more_end k bs i))

  pub counted : {v : ℕ → List ℕ} {s : List ℕ → ℕ → ℕ} {m : List ℕ → ℕ → ℕ} {H : ℕ → Type 0}
      → Piece v s m H → Piece (λ xs. v (length xs) ++ flat_map w xs) (λ bs i. rs (s bs i) bs (m bs i)) (λ bs i. ns (s bs i) bs (m bs i)) (λ xs. H (length xs) × All G xs)
  counted {v} {s} {m} {H} C =
      record {
        after = λ bs i. omega (arith, C.after bs i, several_after (s bs i) bs (m bs i));
        reads = λ bs i xs rest g e.
            let f : drop i bs ≡ v (length xs) ++ (flat_map w xs ++ rest) = e ∙ append_assoc (v (length xs)) (flat_map w xs) rest in
            let a = C.reads bs i (length xs) (flat_map w xs ++ rest) g.0 f in
            let b = several_reads bs (m bs i) xs rest g.1 (drop_past bs i (m bs i) (v (length xs)) (flat_map w xs ++ rest) f a.1) in (
              ap (λ (k : ℕ). rs k bs (m bs i)) a.0 ∙ b.0,
              ap (λ (k : ℕ). ns k bs (m bs i)) a.0 ∙ omega (arith, a.1, b.1, length-append (v (length xs)) (flat_map w xs)),
            );
        writes = λ bs i h l.
            let a = C.writes bs i h (omega (arith, several_after (s bs i) bs (m bs i))) in
            let b = several_writes (s bs i) bs (m bs i) h l in
            a ∙ ap (λ (t : List ℕ). v (s bs i) ++ t) b ∙ sym (append_assoc (v (s bs i)) (flat_map w (rs (s bs i) bs (m bs i))) (drop (ns (s bs i) bs (m bs i)) bs))
            ∙ ap (λ (k : ℕ). (v k ++ flat_map w (rs (s bs i) bs (m bs i))) ++ drop (ns (s bs i) bs (m bs i)) bs) (sym (length_several (s bs i) bs (m bs i)));
      }

-- ---- all the bytes
module _ {X : Type 0} {w : X → List ℕ} {r : List ℕ → ℕ → X} {n : List ℕ → ℕ → ℕ} {G : X → Type 0} (P : Piece w r n G) where
  pub reads_all : (x : X) → G x → (r (w x) 0 ≡ x) × (length (w x) ≡ n (w x) 0)
  reads_all x g = let a = P.reads (w x) 0 x [] g (sym (append-nil (w x))) in (a.0, omega (arith, a.1))

  pub writes_all : (bs : List ℕ) → Bytes bs → length bs ≡ n bs 0 → w (r bs 0) ≡ bs
  writes_all bs h e =
      sym (P.writes bs 0 h (omega arith) ∙ ap (λ (t : List ℕ). w (r bs 0) ++ t) (drop_all (n bs 0) bs (omega arith)) ∙ append-nil (w (r bs 0)))
