-- What holds of ways as such. Assumes nothing: these are statements, proved in proofs/.
use Rattle.std.specs.Prelude.{◌≡◌, ℕ, ◌<◌, List, [], ◌∷◌, ◌++◌, length, slice_index_or}
use Rattle.algebra.specs.Hall.{Place, Hall, Way}

-- ways can be put together
abbrev pub Together : Type 0
Together = (h : Hall) (s t u : Place) (ps qs : List Place) → Way h s ps t → Way h t qs u → Way h s (ps ++ t ∷ qs) u

-- fewer things never take a way away: every thing of g is one of h
abbrev pub Fewer : Type 0
Fewer =
    (h g : Hall) (s t : Place) (ps : List Place) → h.load ≡ g.load → h.wide ≡ g.wide → h.high ≡ g.high →
    ((k : ℕ) → k < length g.things → (j : ℕ) × (j < length h.things) × (slice_index_or h.things j [] ≡ slice_index_or g.things k [])) →
    Way h s ps t → Way g s ps t
