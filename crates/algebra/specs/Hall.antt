-- A load is moved without turning among things that stand, all of them convex. These are the words in which every promise on halls and ways
-- is stated, and all that has to be believed of them: no map, cell or graph is among them. Assumes nothing: these are definitions.
use Rattle.std.specs.Prelude.{ℕ, ◌+◌, ◌*◌, ◌<◌, ◌≤◌, cond, List, [], ◌∷◌, length, ℤ, pos, ◌+ℤ◌, ◌-ℤ◌, ◌*ℤ◌, ◌≤ℤ◌, ◌<ℤ◌, ◌==◌, ◌≢◌, slice_index_or}

-- a corner has whole coordinates
pub record Corner : Type 0 where
  pub x : ℤ
  pub y : ℤ

-- a place has fractions: it lies at x / w and y / w, where w is above 0
pub record Place : Type 0 where
  pub x : ℤ
  pub y : ℤ
  pub w : ℕ

-- the place where a corner lies
abbrev pub at : Corner → Place
at c = record { x = c.x; y = c.y; w = 1 }

-- on which side of the line from a to b a place lies: above 0 to the left of it, 0 on it, below 0 to the right
unfoldable pub side : Corner → Corner → Place → ℤ
side a b p = ((b.x -ℤ a.x) *ℤ (p.y -ℤ (a.y *ℤ pos p.w))) -ℤ ((b.y -ℤ a.y) *ℤ (p.x -ℤ (a.x *ℤ pos p.w)))

-- ---- shapes

-- a shape is its corners in order, counter-clockwise
abbrev pub Shape : Type 0
Shape = List Corner

-- the corner with number i, counted from 0
abbrev pub corner : Shape → ℕ → Corner
corner s i = slice_index_or s i (record { x = pos 0; y = pos 0 })

-- the number after i among n, which after the last is 0
abbrev pub next : ℕ → ℕ → ℕ
next n i = cond (i + 1 == n) 0 (i + 1)

-- on which side of a shape's side number i a place lies; that side goes from corner i to the next
unfoldable pub edge : Shape → ℕ → Place → ℤ
edge s i p = side (corner s i) (corner s (next (length s) i)) p

-- inside a shape is what lies to the left of all its sides; its edge is not inside
unfoldable pub Inside : Shape → Place → Type 0
Inside s p = (i : ℕ) → i < length s → pos 0 <ℤ edge s i p

-- a shape covers what is not to the right of any side: its inside and its edge
unfoldable pub Covers : Shape → Place → Type 0
Covers s p = (i : ℕ) → i < length s → pos 0 ≤ℤ edge s i p

-- a shape is sound if it has at least three corners, each bend is to the left, and it goes round once: no corner is to the right of a side, and
-- corner 0 doesn't come again. (The last leaves out the same corners drawn twice over.)
pub record Sound (s : Shape) : Type 0 where
  pub many : 3 ≤ length s
  pub bends : (i : ℕ) → i < length s → pos 0 <ℤ edge s i (at (corner s (next (length s) (next (length s) i))))
  pub convex : (i : ℕ) → i < length s → Covers s (at (corner s i))
  pub once : (i : ℕ) → 0 < i → i < length s → corner s i ≢ corner s 0

-- ---- halls

-- a hall: the load's shape around its own point, the things that stand, and how far that point may go: from 0 to wide in x, from 0 to high in y
pub record Hall : Type 0 where
  pub load : Shape
  pub things : List Shape
  pub wide : ℕ
  pub high : ℕ

pub record Proper (h : Hall) : Type 0 where
  pub load : Sound h.load
  pub things : (k : ℕ) → k < length h.things → Sound (slice_index_or h.things k [])

-- a place moved by another
unfoldable pub plus : Place → Place → Place
plus p q = record { x = (p.x *ℤ pos q.w) +ℤ (q.x *ℤ pos p.w); y = (p.y *ℤ pos q.w) +ℤ (q.y *ℤ pos p.w); w = p.w * q.w }

-- a load whose point is at p meets a thing if a place that it covers there is inside the thing; to touch is not to meet
pub record Meets (load thing : Shape) (p : Place) : Type 0 where
  pub spot : Place
  pub real : 0 < spot.w
  pub covered : Covers load spot
  pub met : Inside thing (plus p spot)

-- the load's point may be there
pub record Within (h : Hall) (p : Place) : Type 0 where
  pub left : pos 0 ≤ℤ p.x
  pub right : p.x ≤ℤ pos (h.wide * p.w)
  pub low : pos 0 ≤ℤ p.y
  pub high : p.y ≤ℤ pos (h.high * p.w)

pub record Free (h : Hall) (p : Place) : Type 0 where
  pub real : 0 < p.w
  pub walls : Within h p
  pub things : (k : ℕ) → k < length h.things → Meets h.load (slice_index_or h.things k []) p → ⊥

-- ---- ways

-- the place on the straight stretch from p to q that has gone t parts of t + u
unfoldable pub between : Place → Place → ℕ → ℕ → Place
between p q t u =
    record {
      x = ((p.x *ℤ pos q.w) *ℤ pos u) +ℤ ((q.x *ℤ pos p.w) *ℤ pos t);
      y = ((p.y *ℤ pos q.w) *ℤ pos u) +ℤ ((q.y *ℤ pos p.w) *ℤ pos t);
      w = p.w * q.w * (t + u);
    }

-- every place on the stretch is free, its ends too
unfoldable pub Straight : Hall → Place → Place → Type 0
Straight h p q = (t u : ℕ) → 0 < t + u → Free h (between p q t u)

-- a way from s to t over the places ps: straight from each to the next
unfoldable pub Way : Hall → Place → List Place → Place → Type 0
Way h s [] t = Straight h s t
Way h s (p ∷ ps) t = Straight h s p × Way h p ps t
