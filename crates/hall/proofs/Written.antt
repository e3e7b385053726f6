-- Bytes that are added one piece after the other, and the bytes of a number by its digits. Assumes nothing.
use Rattle.std.proofs.Common.{◌≡◌, ℕ, zero, suc, ℤ, of_z, w16, w64, ◌+◌, ◌/◌, ◌%◌, ◌<◌, ◌≤◌, cond, List, [], ◌∷◌, ◌++◌, map, length, get_or, take, is_ok, Ok, Err, Result, sym, refl, ap, ◌∙◌, ap₂, append_assoc, arith}
use Rattle.std.specs.List.{flat_map}
use Rattle.std.proofs.lemmas.Int.{ints}
use Rattle.std.proofs.lemmas.List.{take_more, map-append, flat_map_more}
use Rattle.algebra.specs.Hall as hall
use Rattle.exact.specs.declared.points.Corner.{Corner}
use Rattle.algebra.specs.Near.{Near}
use Rattle.hall.specs.Bytes.{digits}
use Rattle.hall.specs.Format.{corner_bytes, shape_bytes, place_bytes, task_bytes, way_bytes}
use Rattle.hall.specs.Outlines.{outline}
use Rattle.hall.specs.Tasks.{Task}
use Rattle.hall.specs.Writing.{Adds}
use Rattle.hall.proofs.Kept.{length_kept}

-- ---- pieces
-- a piece, and then another
pub in_turn : (before p q : List ℕ) {between after : List ℕ} → between ≡ before ++ p → after ≡ between ++ q → after ≡ before ++ (p ++ q)
in_turn before p q a b = b ∙ (ap (λ (t : List ℕ). t ++ q) a ∙ append_assoc before p q)

module _ {X E : Type 0} where
  -- what `extend_from_slice` adds
  pub adds_from_call : (r : Result X E) (before after more piece : List ℕ) → after ≡ cond (is_ok r) (before ++ more) before → more ≡ piece → Adds r before after piece
  adds_from_call (Ok x) before after more piece e m = e ∙ ap (λ (t : List ℕ). before ++ t) m
  adds_from_call (Err y) before after more piece e m = tt

  pub adds_next : (r : Result X E) (before after second : List ℕ) {between first : List ℕ} (p q : List ℕ)
      → between ≡ before ++ first → first ≡ p → Adds r between after second → second ≡ q → Adds r before after (p ++ q)
  adds_next (Ok x) before after second {between} p q a f b s = in_turn before p q (a ∙ ap (λ (t : List ℕ). before ++ t) f) (b ∙ ap (λ (t : List ℕ). between ++ t) s)
  adds_next (Err y) before after second p q a f b s = tt

-- one more of the pieces of a list
pub joined_step : {X Y : Type 0} (f : Y → List ℕ) (g : X → Y) (xs : List X) (i : ℕ) (d : X) (start before after : List ℕ)
    → i < length xs → before ≡ start ++ flat_map f (map g (take i xs)) → after ≡ before ++ f (g (get_or xs i d)) → after ≡ start ++ flat_map f (map g (take (i + 1) xs))
joined_step f g xs i d start before after h b a =
    let m : map g (take (i + 1) xs) ≡ map g (take i xs) ++ g (get_or xs i d) ∷ [] =
    ap (map g) (take_more xs i d h) ∙ map-append g (take i xs) (get_or xs i d ∷ []) in
    a ∙ (ap (λ (t : List ℕ). t ++ f (g (get_or xs i d))) b
    ∙ (flat_map_more f start (map g (take i xs)) (g (get_or xs i d)) ∙ ap (λ t. start ++ flat_map f t) (sym m)))

-- ---- the bytes of a number
pub digits_8 : (n : ℕ) → n % 256 ∷ n / 256 % 256 ∷ n / 65536 % 256 ∷ n / 16777216 % 256 ∷ n / 4294967296 % 256 ∷ n / 1099511627776 % 256 ∷ n / 281474976710656 % 256 ∷ n / 72057594037927936 % 256 ∷ [] ≡ digits 8 n
unfolding digits
digits_8 n =
    let a : n / 65536 ≡ n / 256 / 256 = omega arith in
    let b : n / 16777216 ≡ n / 65536 / 256 = omega arith in
    let d : n / 4294967296 ≡ n / 16777216 / 256 = omega arith in
    let e : n / 1099511627776 ≡ n / 4294967296 / 256 = omega arith in
    let f : n / 281474976710656 ≡ n / 1099511627776 / 256 = omega arith in
    let g : n / 72057594037927936 ≡ n / 281474976710656 / 256 = omega arith in
    cc

-- its lowest bytes
pub take_digits : (k m n : ℕ) → k ≤ m → take k (digits m n) ≡ digits k n
unfolding digits
take_digits zero m n h = refl
take_digits (suc k) zero n h = absurd (omega arith)
take_digits (suc k) (suc m) n h = ap (λ (t : List ℕ). n % 256 ∷ t) (take_digits k m (n / 256) (omega arith))

-- two bytes of a small number with sign, of two or of eight
pub digits_low : (z : ℤ) → Near 2047 z → digits 2 (of_z w64 z) ≡ digits 2 (of_z w16 z)
unfolding digits
digits_low z h =
    let a : of_z w64 z % 256 ≡ of_z w16 z % 256 = omega (arith, ints, h.low, h.high) in
    let b : of_z w64 z / 256 % 256 ≡ of_z w16 z / 256 % 256 = omega (arith, ints, h.low, h.high) in
    cc

-- ---- a shape, a way and a task in pieces: b0, b1, .. are the bytes after each piece
pub shape_written : (cs : List Corner) (n : ℕ) (before : List ℕ) {between after : List ℕ} → n ≤ length cs
    → between ≡ before ++ n ∷ [] → after ≡ between ++ flat_map corner_bytes (outline n cs) → after ≡ before ++ shape_bytes (outline n cs)
shape_written cs n before room count corners =
    let l : n ≡ length (outline n cs) = sym (length_kept n cs room) in
    in_turn before (length (outline n cs) ∷ []) (flat_map corner_bytes (outline n cs)) (count ∙ ap (λ (m : ℕ). before ++ m ∷ []) l) corners

pub way_written : (ps : List hall.Place) (n : ℕ) {b0 b1 b2 : List ℕ} → n ≡ length ps
    → b0 ≡ [] → b1 ≡ b0 ++ digits 2 n → b2 ≡ b1 ++ flat_map place_bytes ps → b2 ≡ way_bytes ps
unfolding way_bytes
way_written ps n {b0} e none count places = in_turn [] (digits 2 (length ps)) _ (count ∙ ap₂ (λ (b : List ℕ) (m : ℕ). b ++ digits 2 m) none e) places

pub task_written : (t : Task) (n : ℕ) {b0 b1 b2 b3 b4 b5 b6 b7 : List ℕ} → n ≡ length t.hall.things
    → b0 ≡ [] → b1 ≡ b0 ++ digits 2 t.hall.wide → b2 ≡ b1 ++ digits 2 t.hall.high → b3 ≡ b2 ++ shape_bytes t.hall.load → b4 ≡ b3 ++ n ∷ []
    → b5 ≡ b4 ++ flat_map shape_bytes t.hall.things → b6 ≡ b5 ++ place_bytes t.start → b7 ≡ b6 ++ place_bytes t.goal → b7 ≡ task_bytes t
unfolding task_bytes
task_written t n {b0} {b1} {b2} {b3} {b4} {b5} e none wide high load count things start goal =
    in_turn [] _ _ (wide ∙ ap (λ (b : List ℕ). b ++ digits 2 t.hall.wide) none)
    (in_turn b1 _ _ high (in_turn b2 _ _ load
    (in_turn b3 (length t.hall.things ∷ []) _ (count ∙ ap (λ (m : ℕ). b3 ++ m ∷ []) e)
    (in_turn b4 _ _ things (in_turn b5 _ _ start goal)))))
