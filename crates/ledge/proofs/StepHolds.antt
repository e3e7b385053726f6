-- What holds up the end of a steady free stretch is what holds up the surface under it. Assumes nothing.
use Rattle.std.proofs.Common.{ℕ, ◌<◌, pos, ◌≤ℤ◌, sym, arith}
use borrow.Author.Differences.{ints}
use Rattle.algebra.specs.Hall.{Place, Shape, Sound}
use Rattle.algebra.specs.Forms.{value}
use Rattle.ledge.specs.Heights.{Feet, Abreast}
use Rattle.ledge.specs.Sides.{UpperOver, OneHeight, roof}
use Rattle.ledge.specs.Surfaces.{Surface, bottom, top, above, obstacle, Holds}
use Rattle.ledge.proofs.Standing.{rises, roof_rises, stands, bottom_holds, roof_edge, upper_abreast, reaches_abreast, spanned_abreast}
use Rattle.ledge.proofs.Footing.{over_foot≥0}
use Rattle.ledge.proofs.Stepping.{Known, Step, form, under, form_rises, sound, end_free, reached_end}
use Rattle.ledge.proofs.StepBelow.{not_below_end}
use Rattle.ledge.proofs.StepAlong.{under_real, end_under_free, first_sides, upper_here, surface_over}

-- a place is above all upper sides over it, or above none
pub above_both : Feet → OneHeight → (g : Shape) (p : Place) (u v : ℕ) → Sound g → 0 < p.w → UpperOver g u p → UpperOver g v p → pos 0 ≤ℤ value (roof g u) p → pos 0 ≤ℤ value (roof g v) p
above_both feet one_height g p u v solid w a b h =
    over_foot≥0 feet (roof g u) (roof g v) p (roof_rises g u a.upper) (roof_rises g v b.upper) h (omega (arith, ints, one_height g p u v solid w a b))

module _ (known : Known) (x : Step) where
  abbrev p : Place
  p = x.p

  abbrev z : Place
  z = under x x.p

  wp : 0 < p.w
  wp = (end_free x).real

  wz : 0 < z.w
  wz = under_real known x p wp

  pub end_abreast : Abreast z p
  end_abreast = known.feet.abreast (form x) p (form_rises x)

  -- what holds up the surface holds up what is above it
  pub holds_over : (s : Surface) → Holds x.h x.gs s z → Holds x.h x.gs s p
  holds_over s a =
      let r = reaches_abreast z p wz wp end_abreast x.h x.gs s a.reaches in
      record {
        reaches = r;
        spans = spanned_abreast z p wz wp end_abreast x.gs s a.spans;
        not_above = over_foot≥0 known.feet (form x) (above x.gs s) p (form_rises x) (rises x.gs s (stands x.h x.gs s p r)) (not_below_end known x) a.not_above;
      }

  -- and what holds up the end holds up the surface
  not_above_under : (s : Surface) → Holds x.h x.gs s p → pos 0 ≤ℤ value (above x.gs s) z
  not_above_under bottom a = (bottom_holds x.h x.gs z (end_under_free known x).walls).not_above
  not_above_under (top k i) a =
      let g = obstacle x.gs k in
      let n = a.reaches.0 in
      let r = reached_end known x in
      let solid = sound x.h x.gs x.obstacles k n in
      let u = (first_sides known x p r k n a.spans).upper in
      let up = upper_here known x p r k n a.spans in
      let over = above_both known.feet known.one_height g p i u solid wp a.reaches.1 up a.not_above in
      let e = sym end_abreast in
      above_both known.feet known.one_height g z u i solid wz (upper_abreast p z wp wz e g u up) (upper_abreast p z wp wz e g i a.reaches.1)
      (surface_over known x p r k n a.spans (omega (arith, ints, roof_edge g u p)))

  pub holds_under : (s : Surface) → Holds x.h x.gs s p → Holds x.h x.gs s z
  holds_under s a =
      record {
        reaches = reaches_abreast p z wp wz (sym end_abreast) x.h x.gs s a.reaches;
        spans = spanned_abreast p z wp wz (sym end_abreast) x.gs s a.spans;
        not_above = not_above_under s a;
      }
