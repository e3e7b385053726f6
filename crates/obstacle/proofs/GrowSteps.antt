-- The sides that a step of the walk compares point somewhere, and a step of the code is a step of the walk. Assumes nothing.
use Rattle.std.proofs.Common.{◌≡◌, ℕ, suc, length, ◌-ℤ◌, Less, Equal, Greater, sym, ap, ◌∙◌, subst, ap₂, inl, inr, ⊎_elim, arith}
use borrow.Author.Differences.{ints}
use Rattle.algebra.specs.Hall.{Corner, Shape, corner, next}
use Rattle.hall.proofs.Kept.{sound_kept}
use Rattle.obstacle.specs.declared.walks.Walk.{Walk}
use Rattle.obstacle.specs.declared.walks.Walks.{Walks}
use Rattle.obstacle.specs.Growing.{Points, round, Onto, Reached, NextSide, StepsOn}
use Rattle.obstacle.specs.Growth.{minus, way}
use Rattle.obstacle.specs.Merging.{Before, Alike, Step, of_thing, of_load, of_both, onward, thing_way, load_way}
use Rattle.obstacle.proofs.Signs.{by_sign}
use Rattle.obstacle.proofs.Strict.{corner_same, ends_apart}

-- a side turned round
abbrev pub back : Shape → ℕ → Corner
back s i = minus (corner s i) (corner s (next (length s) i))

pub points_apart : (a b : Corner) → (b ≡ a → ⊥) → Points (minus b a)
points_apart a b n =
    by_sign (b.y -ℤ a.y)
    (λ h. inr (inl h))
    (λ e. by_sign (b.x -ℤ a.x) (λ h. inr (inr (e, h))) (λ z. absurd (n (corner_same (omega (arith, ints)) (omega (arith, ints))))) (λ h. inl (inr (e, h))))
    (λ h. inl (inl h))

pub minus_read : {d x y a b : Corner} → d ≡ minus x y → x ≡ a → y ≡ b → d ≡ minus a b
minus_read e f g = e ∙ ap₂ minus f g

-- the side where a walk stands, as the code has read it
module _ {n : ℕ} (w : Walk n) {d : Corner} where
  pub way_points : d ≡ way (round w) w.at → Points d
  way_points e = subst Points (sym e) (points_apart _ _ (ends_apart (round w) (sound_kept (round w) w.shape.now.sound) w.at w.here))

  pub back_points : d ≡ back (round w) w.at → Points d
  back_points e = subst Points (sym e) (points_apart _ _ (λ f. ends_apart (round w) (sound_kept (round w) w.shape.now.sound) w.at w.here (sym f)))

carry : (P : Corner → Corner → Type 0) {a b d e : Corner} → a ≡ d → b ≡ e → P a b → P d e
carry P {a} {b} {d} {e} f g x = subst (λ (c : Corner). P c e) f (subst (P a) g x)

-- ---- a step of the code is a step of the walk
one_more : {n : ℕ} {w r : Walk n} → Onto w r → r.gone ≡ suc w.gone
one_more on = omega (arith, on.gone)

reaches : {n : ℕ} {w r : Walk n} {s : Shape} (a : ℕ) → Onto w r → round w ≡ s → w.at ≡ onward (length s) a w.gone → r.at ≡ onward (length s) a r.gone
reaches {s = s} a on e h = on.at ∙ ap₂ next (ap length e) h ∙ ap (onward (length s) a) (sym (one_more on))

module _ {m n : ℕ} (p : Walks m n) where
  reread : {load thing : Shape} (a b : ℕ) → Reached load thing a b p → (P : Corner → Corner → Type 0) → P (way (round p.thing) p.thing.at) (back (round p.load) p.load.at) →
      P (thing_way load thing a b p.thing.gone) (load_way load thing a b p.load.gone)
  reread a b h P x = carry P (ap₂ way h.thing_is h.of_thing) (ap₂ back h.load_is h.of_load) x

  pub on_thing : {r : Walk n} → Onto p.thing r → NextSide p Less → StepsOn p (record { thing = r; load = p.load })
  on_thing {r} on x =
      record {
        step = λ load thing a b h. (
          subst (λ (i : ℕ). Step load thing a b p.thing.gone p.load.gone i p.load.gone) (sym (one_more on))
              (of_thing (omega (arith, x.0, ap length h.thing_is)) (⊎_elim (λ e. inl (e ∙ ap length h.load_is)) (λ y. inr (reread a b h Before y)) x.1)),
          record { load_is = h.load_is; thing_is = on.shape ∙ h.thing_is; of_thing = reaches a on h.thing_is h.of_thing; of_load = h.of_load },
        );
        fewer = omega (arith, ap length on.shape, on.gone, x.0);
      }

  pub on_load : {r : Walk m} → Onto p.load r → NextSide p Greater → StepsOn p (record { thing = p.thing; load = r })
  on_load {r} on x =
      record {
        step = λ load thing a b h. (
          subst (λ (j : ℕ). Step load thing a b p.thing.gone p.load.gone p.thing.gone j) (sym (one_more on))
              (of_load (omega (arith, x.0, ap length h.load_is)) (⊎_elim (λ e. inl (e ∙ ap length h.thing_is)) (λ y. inr (reread a b h (λ d e. Before e d) y)) x.1)),
          record { load_is = on.shape ∙ h.load_is; thing_is = h.thing_is; of_thing = h.of_thing; of_load = reaches b on h.load_is h.of_load },
        );
        fewer = omega (arith, ap length on.shape, on.gone, x.0);
      }

  pub on_both : {r : Walk n} {q : Walk m} → Onto p.thing r → Onto p.load q → NextSide p Equal → StepsOn p (record { thing = r; load = q })
  on_both {r} {q} on along x =
      record {
        step = λ load thing a b h. (
          rw (one_more on, one_more along) (of_both {i = p.thing.gone} {j = p.load.gone} (omega (arith, x.0, ap length h.thing_is)) (omega (arith, x.1, ap length h.load_is)) (reread a b h Alike x.2)),
          record { load_is = along.shape ∙ h.load_is; thing_is = on.shape ∙ h.thing_is; of_thing = reaches a on h.thing_is h.of_thing; of_load = reaches b along h.load_is h.of_load },
        );
        fewer = omega (arith, ap length on.shape, on.gone, x.0, ap length along.shape, along.gone, x.1);
      }
