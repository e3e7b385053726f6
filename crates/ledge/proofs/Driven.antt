-- Links are free stretches, so what is joined can be driven; and what can be driven is joined, since no way leaves what is joined. Assumes nothing.
use Rattle.std.proofs.Common.{ℕ, List, [], ◌∷◌, ◌++◌, pos, refl}
use Rattle.algebra.specs.Hall.{Place, Shape, Hall, Free, Straight, Way, between}
use Rattle.algebra.specs.Forms.{Same}
use Rattle.algebra.proofs.Polynomial.{forms, by_ring}
use Rattle.algebra.proofs.Forms.{of_place, same_place, stretch}
use Rattle.algebra.proofs.Places.{same_standing, straightness}
use Rattle.obstacle.specs.Freedom.{Obstacles}
use Rattle.motion.proofs.Waying.{together}
use Rattle.motion.proofs.DriveStretches.{straight_same}
use Rattle.ledge.specs.Heights.{Gaps}
use Rattle.ledge.specs.Surfaces.{Surface, Floor, landing, Falls}
use Rattle.ledge.specs.Graph.{Linked, along, contact, down, up, Joined, same, then, Closed, Floored, Keeps, AWay, LedgeGraph}
use Rattle.ledge.proofs.Links.{one_floor}

-- ---- a stretch that goes nowhere
nowhere : (p : Place) (t u : ℕ) → Same p (between p p t u)
unfolding between
nowhere p t u =
    record {
      x = by_ring (of_place p (pos t ∷ pos u ∷ [])) (search forms depth 60 fits 99999) refl;
      y = by_ring (of_place p (pos t ∷ pos u ∷ [])) (search forms depth 60 fits 99999) refl;
    }

pub straight_here : (h : Hall) (p : Place) → Free h p → Straight h p p
unfolding Straight
straight_here h p f t u n = same_standing.free h p (between p p t u) (stretch.real p p t u f.real f.real n) (nowhere p t u) f

-- ---- links one after the other
pub append : {h : Hall} {gs : List Shape} {s t r : Surface} {p q e : Place} → Joined h gs s p t q → Linked h gs t q r e → Joined h gs s p r e
append same l = then l same
append (then k j) l = then k (append j l)

-- what is joined to a ledge is closed under links
pub joined_closed : (h : Hall) (gs : List Shape) (s : Surface) (p : Place) → Closed h gs (λ t q. Joined h gs s p t q)
unfolding Closed
joined_closed h gs s p t r q e l j = append j l

-- ---- links are free stretches
module _ (falls : Falls) (h : Hall) (gs : List Shape) (o : Obstacles h gs) where
  pub linked_straight : {s t : Surface} {p q : Place} → Linked h gs s p t q → Straight h p q
  linked_straight (along a b l) = l
  linked_straight {p = p} {q = q} (contact a b e f) = straight_same h p p p q a.real b.real (same_place.reflexive p) e (straight_here h p f)
  linked_straight {p = p} (down tip f) = straightness.back h (landing f) p (falls h gs p o tip.free f).1
  linked_straight {q = q} (up tip f) = (falls h gs q o tip.free f).1

  joined_way : {s t : Surface} {p q : Place} → Free h p → Joined h gs s p t q → AWay h p q
  unfolding Way
  joined_way {p = p} f same = record { places = []; way = straight_here h p f }
  joined_way {p = p} f (then {q = q} l j) =
      let a = linked_straight l in
      let w = joined_way (straightness.start h q p (straightness.back h p q a)) j in
      record { places = q ∷ w.places; way = (a, w.way) }

  -- from s down to its floor, over the links, and up to t from its floor
  driven : (s t : Place) → Free h s → Free h t → (f : Floor h gs s) (g : Floor h gs t) → Joined h gs f.surface (landing f) g.surface (landing g) → AWay h s t
  unfolding Way
  driven s t free_s free_t f g j =
      let a = (falls h gs s o free_s f).1 in
      let b = (falls h gs t o free_t g).1 in
      let w = joined_way (straightness.start h (landing f) s a) j in
      record {
        places = landing f ∷ (w.places ++ landing g ∷ []);
        way = (straightness.back h (landing f) s a, together h (landing f) (landing g) t w.places [] w.way b);
      }

pub ledge_graph : Gaps → Falls → Keeps → LedgeGraph
unfolding Floored
ledge_graph gaps falls keeps h gs s t proper o free_s free_t f g =
    record {
      joined = λ w.
          keeps h gs (λ r q. Joined h gs f.surface (landing f) r q) o (joined_closed h gs f.surface (landing f)) s t w.places w.way
          (λ k. then (one_floor gaps falls h gs o s s free_s free_s refl f k k.holds f.holds).there same) g;
      driven = driven falls h gs o s t free_s free_t f g;
    }
