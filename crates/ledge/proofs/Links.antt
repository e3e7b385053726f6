-- Links both ways between a surface and the floor of a place on it, and between the floors of places that the same surfaces hold up. Assumes nothing.
use Rattle.std.proofs.Common.{List, refl, ⊎_elim, arith}
use borrow.Author.Differences.{ints}
use Rattle.algebra.specs.Hall.{Place, Shape, Hall, Free, Straight}
use Rattle.algebra.specs.Forms.{Same}
use Rattle.algebra.proofs.Forms.{same_place}
use Rattle.algebra.proofs.Places.{same_standing, straightness}
use Rattle.obstacle.specs.Freedom.{Obstacles}
use Rattle.ledge.specs.Heights.{Feet, Gaps, Abreast, Rises, foot}
use Rattle.ledge.specs.Surfaces.{Surface, bottom, top, above, obstacle, Spanned, On, Holds, Floor, landing, Falls}
use Rattle.ledge.specs.Graph.{Tip, Linked, along, contact, down, up, Closed}
use Rattle.ledge.proofs.Standing.{rises, stands}
use Rattle.ledge.proofs.HasFloor.{spans_or_not}

-- a link that can be taken back
pub record Both (h : Hall) (gs : List Shape) (s : Surface) (p : Place) (t : Surface) (q : Place) : Type 0 where
  pub there : Linked h gs s p t q
  pub back : Linked h gs t q s p

pub both_along : {h : Hall} {gs : List Shape} {s : Surface} {p q : Place} → On h gs s p → On h gs s q → Straight h p q → Both h gs s p s q
both_along {h} {p = p} {q = q} a b l = record { there = along a b l; back = along b a (straightness.back h p q l) }

pub both_contact : {h : Hall} {gs : List Shape} {s t : Surface} {p q : Place} → On h gs s p → On h gs t q → Same p q → Free h p → Both h gs s p t q
both_contact {h} {p = p} {q = q} a b e f =
    record { there = contact a b e f; back = contact b a (same_place.symmetric p q e) (same_standing.free h p q b.real e f) }

-- a closed set that holds one end of a link both ways holds the other
pub carry : {h : Hall} {gs : List Shape} (C : Surface → Place → Type 0) → Closed h gs C → {s t : Surface} {p q : Place} → Both h gs s p t q → (C s p → C t q) × (C t q → C s p)
unfolding Closed
carry C closed {s} {t} {p} {q} b = (closed s t p q b.there, closed t s q p b.back)

module _ (gaps : Gaps) (falls : Falls) (h : Hall) (gs : List Shape) (o : Obstacles h gs) where
  holds_rises : (s : Surface) (p : Place) → Holds h gs s p → Rises (above gs s)
  holds_rises s p a = rises gs s (stands h gs s p a.reaches)

  -- the floors of two places of one abscissa that the same surfaces hold up are one place
  pub one_floor : (p q : Place) → Free h p → Free h q → Abreast p q → (f : Floor h gs p) (g : Floor h gs q) → Holds h gs g.surface p → Holds h gs f.surface q →
      Both h gs f.surface (landing f) g.surface (landing g)
  one_floor p q free_p free_q e f g a b =
      let fall = falls h gs p o free_p f in
      both_contact fall.0 (falls h gs q o free_q g).0
      (gaps.meet (above gs f.surface) (above gs g.surface) p q (holds_rises f.surface p f.holds) (holds_rises g.surface q g.holds)
      free_p.real free_q.real e (f.highest g.surface a) (g.highest f.surface b))
      (straightness.start h (landing f) p fall.1)

  -- a place on a surface that holds it up is its own floor
  on_floor : Feet → (s : Surface) (p : Place) → Free h p → On h gs s p → Spanned gs s p → (f : Floor h gs p) → Both h gs s p f.surface (landing f)
  on_floor feet s p free on spans f =
      let F = above gs s in
      let G = above gs f.surface in
      let held : Holds h gs s p = record { reaches = on.reaches; spans = spans; not_above = omega (arith, ints, on.level) } in
      let r_f = holds_rises s p held in
      let r_g = holds_rises f.surface p f.holds in
      let own = same_place.symmetric (foot F p) p (feet.own F p r_f on.level) in
      let w_f = feet.real F p r_f free.real in
      let meet = gaps.meet F G p p r_f r_g free.real free.real refl ((same_place.signs G p (foot F p) free.real w_f own).not_below f.holds.not_above) (f.highest s held) in
      both_contact on (falls h gs p o free f).0 (same_place.transitive p (foot F p) (landing f) w_f own meet) free

  -- a place on any surface is its own floor, or a tip
  pub to_floor : Feet → (s : Surface) (p : Place) → Free h p → On h gs s p → (f : Floor h gs p) → Both h gs s p f.surface (landing f)
  to_floor feet bottom p free on f = on_floor feet bottom p free on tt f
  to_floor feet (top k i) p free on f =
      ⊎_elim (λ spans. on_floor feet (top k i) p free on spans f)
      (λ none. let tip : Tip h gs k i p = record { on = on; end = none; free = free } in record { there = down tip f; back = up tip f })
      (spans_or_not (obstacle gs k) p)
