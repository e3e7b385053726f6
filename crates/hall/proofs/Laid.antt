-- Corners, shapes and places are pieces of the format. Assumes nothing.
use Rattle.std.proofs.Common.{◌≡◌, ℕ, ◌+◌, ◌*◌, ◌^◌, ◌<◌, ◌∷◌, ◌++◌, length, refl, ap, arith, w16, w64, SFits}
use Rattle.std.specs.List.{flat_map, AllByRecursion as All}
use Rattle.algebra.specs.Hall.{Corner, Place, Shape}
use Rattle.hall.specs.Bytes.{byte, little, signed_8, digits}
use Rattle.hall.specs.Format.{corner_bytes, shape_bytes, place_bytes, corner_at, corners_at, shape_at, shapes_at, place_at, places_at, past}
use Rattle.hall.proofs.Digits.{number, signed}
use Rattle.hall.proofs.Pieces.{Piece, Several, one, pair, taken_for, counted}

-- the values that have room in their bytes
pub record CornerRoom (c : Corner) : Type 0 where
  pub x : SFits w16 c.x
  pub y : SFits w16 c.y

pub record PlaceRoom (p : Place) : Type 0 where
  pub x : SFits w64 p.x
  pub y : SFits w64 p.y
  pub w : p.w < 2 ^ 64

pub corner_piece : Piece corner_bytes corner_at (λ bs i. i + 4) CornerRoom
corner_piece =
    taken_for corner_bytes corner_at (λ bs i. i + 4) CornerRoom
    (pair (signed w16 2 refl) (signed w16 2 refl)) (λ p. record { x = p.0; y = p.1 }) (λ c. (c.x, c.y))
    (λ c. refl) (λ bs i. refl) (λ bs i. omega arith)
    (λ c h. (h.x, h.y)) (λ c h. refl) (λ bs i h. refl)

third : (i : ℕ) → i + 16 ≡ i + 8 + 8
third i = omega arith

pub place_piece : Piece place_bytes place_at (λ bs i. i + 24) PlaceRoom
place_piece =
    taken_for place_bytes place_at (λ bs i. i + 24) PlaceRoom
    (pair (signed w64 8 refl) (pair (signed w64 8 refl) (number 8))) (λ p. record { x = p.0; y = p.1.0; w = p.1.1 }) (λ p. (p.x, (p.y, p.w)))
    (λ p. refl) (λ bs i. ap (λ (j : ℕ). record { x = signed_8 bs i; y = signed_8 bs (i + 8); w = little 8 bs j }) (third i)) (λ bs i. omega arith)
    (λ p h. (h.x, (h.y, h.w))) (λ p h. refl) (λ bs i h. ap (λ (j : ℕ). (signed_8 bs i, (signed_8 bs (i + 8), little 8 bs j))) (third i))

-- one after the other
corners : Several corner_at (λ bs i. i + 4) corners_at (λ n bs i. i + 4 * n)
corners = record { none_read = λ bs i. refl; more_read = λ n bs i. refl; none_end = λ bs i. omega arith; more_end = λ n bs i. omega arith }

shapes : Several shape_at (λ bs i. i + 1 + 4 * byte bs i) shapes_at past
shapes = record { none_read = λ bs i. refl; more_read = λ n bs i. refl; none_end = λ bs i. refl; more_end = λ n bs i. refl }

places : Several place_at (λ bs i. i + 24) places_at (λ n bs i. i + 24 * n)
places = record { none_read = λ bs i. refl; more_read = λ n bs i. refl; none_end = λ bs i. omega arith; more_end = λ n bs i. omega arith }

-- with their number before them
abbrev pub ShapeRoom : Shape → Type 0
ShapeRoom s = Unit {0} × All CornerRoom s

pub shape_piece : Piece shape_bytes shape_at (λ bs i. i + 1 + 4 * byte bs i) ShapeRoom
shape_piece = counted corner_piece corners one

pub things_piece : Piece (λ ss. length ss ∷ flat_map shape_bytes ss) (λ bs i. shapes_at (byte bs i) bs (i + 1)) (λ bs i. past (byte bs i) bs (i + 1)) (λ ss. Unit {0} × All ShapeRoom ss)
things_piece = counted shape_piece shapes one

pub way_piece : Piece (λ ps. digits 2 (length ps) ++ flat_map place_bytes ps) (λ bs i. places_at (little 2 bs i) bs (i + 2)) (λ bs i. i + 2 + 24 * little 2 bs i) (λ ps. (length ps < 256 ^ 2) × All PlaceRoom ps)
way_piece = counted place_piece places (number 2)
