-- Ways put together, and ways where fewer things stand. Assumes nothing.
use Rattle.std.proofs.Common.{◌≡◌, ℕ, ◌<◌, List, [], ◌∷◌, length, get_or}
use Rattle.algebra.specs.Hall.{Place, Hall, Free, between, Straight, Way}
use Rattle.motion.specs.Ways.{Together, Fewer}

pub together : Together
unfolding Way
together h s t u [] qs a b = (a, b)
together h s t u (p ∷ ps) qs a b = (a.0, together h p t u ps qs a.1 b)

-- what is free among more things is free among fewer
module _ (h g : Hall) (load : h.load ≡ g.load) (wide : h.wide ≡ g.wide) (high : h.high ≡ g.high)
    (among : (k : ℕ) → k < length g.things → (j : ℕ) × (j < length h.things) × (get_or h.things j [] ≡ get_or g.things k [])) where
  fewer_free : (p : Place) → Free h p → Free g p
  fewer_free p f =
      let v = f.walls in
      record {
        real = f.real;
        walls = record { left = v.left; right = rw wide at v.right; low = v.low; high = rw high at v.high };
        things = λ k n m. let a = among k n in f.things a.0 a.1 (rw (load, a.2) m);
      }

  fewer_straight : (p q : Place) → Straight h p q → Straight g p q
  unfolding Straight
  fewer_straight p q a t u n = fewer_free (between p q t u) (a t u n)

  fewer_way : (s t : Place) (ps : List Place) → Way h s ps t → Way g s ps t
  unfolding Way
  fewer_way s t [] a = fewer_straight s t a
  fewer_way s t (p ∷ ps) a = (fewer_straight s p a.0, fewer_way p t ps a.1)

pub fewer : Fewer
fewer h g s t ps load wide high among = fewer_way h g load wide high among s t ps
