-- Ledges and how they are joined. A ledge is a run of free places of a surface, written by any of its places: the places p and q of a surface are on one
-- ledge if the stretch between them is free. Assumes nothing: these are definitions and statements, proved in proofs/.
use Rattle.std.specs.Prelude.{ℕ, List}
use Rattle.algebra.specs.Hall.{Place, Shape, Hall, Proper, Free, Straight, Way}
use Rattle.algebra.specs.Forms.{Same}
use Rattle.obstacle.specs.Section.{Spans}
use Rattle.obstacle.specs.Freedom.{Obstacles}
use Rattle.ledge.specs.Surfaces.{Surface, top, obstacle, On, Floor, landing, AllSteady}

-- an end of an obstacle's upper chain: a place of an upper side whose abscissa the obstacle doesn't span
pub record Tip (h : Hall) (gs : List Shape) (k i : ℕ) (e : Place) : Type 0 where
  pub on : On h gs (top k i) e
  pub end : Spans (obstacle gs k) e → ⊥
  pub free : Free h e

-- what joins two ledges: one ledge, a place in common, and the fall from a tip, both ways
pub data Linked (h : Hall) (gs : List Shape) : Surface → Place → Surface → Place → Type 0 where
  along : {s : Surface} {p q : Place} → On h gs s p → On h gs s q → Straight h p q → Linked h gs s p s q
  contact : {s t : Surface} {p q : Place} → On h gs s p → On h gs t q → Same p q → Free h p → Linked h gs s p t q
  down : {k i : ℕ} {e : Place} → Tip h gs k i e → (f : Floor h gs e) → Linked h gs (top k i) e f.surface (landing f)
  up : {k i : ℕ} {e : Place} → Tip h gs k i e → (f : Floor h gs e) → Linked h gs f.surface (landing f) (top k i) e

-- over any number of links
pub data Joined (h : Hall) (gs : List Shape) : Surface → Place → Surface → Place → Type 0 where
  same : {s : Surface} {p : Place} → Joined h gs s p s p
  then : {s t r : Surface} {p q e : Place} → Linked h gs s p t q → Joined h gs t q r e → Joined h gs s p r e

-- a set of ledges, closed under links
unfoldable pub Closed : Hall → List Shape → (Surface → Place → Type 0) → Type 0
Closed h gs C = (s t : Surface) (p q : Place) → Linked h gs s p t q → C s p → C t q

-- the set holds the floor of p, by whatever surface
unfoldable pub Floored : Hall → List Shape → (Surface → Place → Type 0) → Place → Type 0
Floored h gs C p = (f : Floor h gs p) → C f.surface (landing f)

-- a steady free stretch keeps to a closed set, both ways
abbrev pub Steps : Type 1
Steps =
    (h : Hall) (gs : List Shape) (C : Surface → Place → Type 0) → Obstacles h gs → Closed h gs C → (m p : Place) → Straight h m p → AllSteady gs m p →
    (Floored h gs C m → Floored h gs C p) × (Floored h gs C p → Floored h gs C m)

-- so no way leaves it: what isn't reached over links can't be reached at all
abbrev pub Keeps : Type 1
Keeps =
    (h : Hall) (gs : List Shape) (C : Surface → Place → Type 0) → Obstacles h gs → Closed h gs C → (s t : Place) (ps : List Place) → Way h s ps t →
    Floored h gs C s → Floored h gs C t

pub record AWay (h : Hall) (s t : Place) : Type 0 where
  pub places : List Place
  pub way : Way h s places t

-- THE LEDGE GRAPH: two free places are joined by a way exactly if the ledges of their floors are joined
pub record Exactly (h : Hall) (gs : List Shape) (s t : Place) (f : Floor h gs s) (g : Floor h gs t) : Type 0 where
  pub joined : AWay h s t → Joined h gs f.surface (landing f) g.surface (landing g)
  pub driven : Joined h gs f.surface (landing f) g.surface (landing g) → AWay h s t

abbrev pub LedgeGraph : Type 0
LedgeGraph =
    (h : Hall) (gs : List Shape) (s t : Place) → Proper h → Obstacles h gs → Free h s → Free h t → (f : Floor h gs s) (g : Floor h gs t) → Exactly h gs s t f g
