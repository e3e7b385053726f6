-- Surfaces of the code and their numbers. Assumes nothing.
use Rattle.std.proofs.Common.{◌≡◌, ℕ, zero, suc, ◌-◌, ◌/◌, ◌%◌, ◌<◌, ◌≤◌, List, [], ◌∷◌, map, length, Bool, true, false, MatchOption, Decides, refl, sym, ap, ◌∙◌, subst, arith}
use Rattle.std.proofs.lemmas.Bool.{false≢true}
use Rattle.std.proofs.lemmas.List.{length-map}
use Rattle.std.specs.Bool.{then_some}
use Rattle.algebra.specs.Hall as hall
use Rattle.algebra.specs.Hall.{Shape, corner}
use Rattle.hall.specs.Tasks.{Task}
use Rattle.obstacle.specs.Sites.{Ground}
use Rattle.hall.specs.declared.shapes.Shape.{Shape as Shaped}
use Rattle.hall.specs.Shapes.{shape_of}
use Rattle.hall.proofs.Kept.{length_kept}
use Rattle.ledge.specs.declared.surfaces.Surface as code
use Rattle.ledge.specs.declared.surfaces.Surface.TheVariants as code_case
use Rattle.ledge.specs.Lines.{surface_of, left_end, right_end, Numbered, Unnumbered}
use Rattle.ledge.specs.Sides.{Upper, end}
use Rattle.ledge.specs.Surfaces.{bottom, top, obstacle}

-- the ends of an upper side, by the shape of its obstacle
pub ends_top : (h : hall.Hall) (gs : List Shape) (s : code.Surface) (k i : ℕ) (g : Shape) → s ≡ code_case.Top k i → obstacle gs k ≡ g →
    (end g i ≡ left_end gs (surface_of s)) × (corner g i ≡ right_end h gs (surface_of s))
ends_top h gs s k i g e o = (
  sym (ap (λ (r : code.Surface). left_end gs (surface_of r)) e ∙ ap (λ (f : Shape). end f i) o),
  sym (ap (λ (r : code.Surface). right_end h gs (surface_of r)) e ∙ ap (λ (f : Shape). corner f i) o),
)

-- no obstacle has more sides than numbers are kept for
abbrev pub FewSides : List Shape → Type 0
FewSides gs = (k : ℕ) → k < length gs → length (obstacle gs k) ≤ 16

pub few_sides : (os : List (Shaped 16)) → FewSides (map shape_of os)
few_sides [] k h = absurd (omega arith)
few_sides (o ∷ os) zero h = omega (arith, length_kept o.count o.corners (omega (arith, o.few)), o.few)
few_sides (o ∷ os) (suc k) h = few_sides os k (omega arith)

-- the one side that can have a number
pub unnumbered : (os : List (Shaped 16)) (n : ℕ) → (n ≡ 0 → ⊥) →
    ((n - 1) / 16 < length os → Upper (obstacle (map shape_of os) ((n - 1) / 16)) ((n - 1) % 16) → ⊥) → Unnumbered (map shape_of os) n
unnumbered os n some none bottom h = some (sym h.is)
unnumbered os n some none (top k i) h =
    let l : k < length os = omega (arith, h.stands.0, length-map os shape_of) in
    let m : i < 16 = omega (arith, h.stands.1.within, few_sides os k h.stands.0) in
    let ek : k ≡ (n - 1) / 16 = omega (arith, h.is) in
    let ei : i ≡ (n - 1) % 16 = omega (arith, h.is) in
    none (omega arith) (subst (λ (j : ℕ). Upper (obstacle (map shape_of os) j) ((n - 1) % 16)) ek (subst (λ (j : ℕ). Upper (obstacle (map shape_of os) k) j) ei h.stands.1))

-- what a test of that side comes to
pub numbered : (os : List (Shaped 16)) (n : ℕ) → (n ≡ 0 → ⊥) → (x : Shaped 16) → (n - 1) / 16 < length os → obstacle (map shape_of os) ((n - 1) / 16) ≡ shape_of x → (b : Bool) →
    Decides b (Upper (shape_of x) ((n - 1) % 16)) →
    MatchOption (then_some b (code_case.Top ((n - 1) / 16) ((n - 1) % 16))) (Unnumbered (map shape_of os) n) (λ s. Numbered (map shape_of os) n (surface_of s))
numbered os n some x h e true d =
    record {
      stands = (omega (arith, length-map os shape_of), subst (λ (g : Shape). Upper g ((n - 1) % 16)) (sym e) (d.0 refl));
      is = omega (arith, some);
    }
numbered os n some x h e false d = unnumbered os n some (λ k u. false≢true (d.1 (subst (λ (g : Shape). Upper g ((n - 1) % 16)) e u)))

-- what is seen of a site whose obstacles are os
module _ (t : Task) (os : List (Shaped 16)) (s : Ground) (is : ◌≡◌ {A = Ground} (record { task = t; obstacles = map shape_of os }) s) where
  pub seen : map shape_of os ≡ s.obstacles
  seen = ap (λ (g : Ground). g.obstacles) is

  pub seen_count : length os ≡ length s.obstacles
  seen_count = sym (length-map os shape_of) ∙ ap length seen

  pub seen_sides : FewSides s.obstacles
  seen_sides = subst FewSides seen (few_sides os)
