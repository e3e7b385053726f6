-- The ledges of a surface from the runs between its shadows. Assumes nothing.
use Rattle.std.proofs.Common.{◌≡◌, ℕ, ◌+◌, [], ◌∷◌, ℤ, pos, ◌+ℤ◌, ◌*ℤ◌, refl, ◌∙◌, arith}
use Rattle.algebra.specs.Hall as hall
use Rattle.algebra.specs.Hall.{Corner, at, between}
use Rattle.algebra.proofs.Polynomial.{forms, by_ring}
use Rattle.algebra.proofs.Forms.{of_corner}
use Rattle.exact.specs.declared.points.Place.{Place}
use Rattle.exact.specs.Points.{place_of}

parts : (x y v z : ℤ) (w u : ℕ) → x ≡ v → y ≡ z → w ≡ u → ◌≡◌ {A = hall.Place} (record { x = x; y = y; w = w }) (record { x = v; y = z; w = u })
parts x y v z w u e f g = cc

-- the place that divides a surface
pub divides : (a b : Corner) (p : Place) (t u : ℕ) → p.x ≡ (a.x *ℤ pos u) +ℤ (b.x *ℤ pos t) → p.y ≡ (a.y *ℤ pos u) +ℤ (b.y *ℤ pos t) → p.w ≡ t + u → place_of p ≡ between (at a) (at b) t u
unfolding between
divides a b p t u e f g =
    parts p.x p.y (between (at a) (at b) t u).x (between (at a) (at b) t u).y p.w (between (at a) (at b) t u).w
    (e ∙ by_ring (of_corner a (of_corner b (pos t ∷ pos u ∷ []))) (search forms depth 60 fits 99999) refl)
    (f ∙ by_ring (of_corner a (of_corner b (pos t ∷ pos u ∷ []))) (search forms depth 60 fits 99999) refl)
    (omega arith)
