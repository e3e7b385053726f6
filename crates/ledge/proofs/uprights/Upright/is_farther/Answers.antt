use Rattle.std.proofs.Common.{pos, ◌*ℤ◌, sym, ◌∙◌, ap₂, subst}
use lib.Signed.{lt_z}
use Rattle.algebra.proofs.Ranges.{knows, by_size}
use Rattle.exact.specs.Points.{corner_of, place_of}
use Rattle.hall.proofs.Sounds.{lt_from_lt_z, lt_z_from_lt}
use Rattle.ledge.specs.declared.descents.Hand.{Hand}
use Rattle.ledge.specs.Descents.{Farther}
use Rattle.ledge.proofs.Scaling.{scaled, own}
use Rattle.ledge.proofs.uprights.Upright.is_farther.Goals as goal

pub overflow_mul-x : goal.overflow_mul-x
overflow_mul-x c = by_size (search (knows, c.args.side.starts.x, c.args.self.near.most) depth 60 fits 99999) tt

pub returns-in-Left : goal.returns-in-Left
returns-in-Left c =
    let p = c.args.self.p in
    let d = c.args.side.from in
    let s = scaled p c.args.self.near d c.args.side.starts in
    let e = ap₂ lt_z s (own p c.args.self.near) in (
      λ t. subst (λ (h : Hand). Farther (corner_of d) h (place_of p)) (sym c.in-Left.is) (lt_from_lt_z (d.x *ℤ pos p.w) p.x (sym e ∙ t)),
      λ f. e ∙ lt_z_from_lt (d.x *ℤ pos p.w) p.x (subst (λ (h : Hand). Farther (corner_of d) h (place_of p)) c.in-Left.is f),
    )

pub returns-in-Right : goal.returns-in-Right
returns-in-Right c =
    let p = c.args.self.p in
    let d = c.args.side.from in
    let s = scaled p c.args.self.near d c.args.side.starts in
    let e = ap₂ lt_z (own p c.args.self.near) s in (
      λ t. subst (λ (h : Hand). Farther (corner_of d) h (place_of p)) (sym c.in-Right.is) (lt_from_lt_z p.x (d.x *ℤ pos p.w) (sym e ∙ t)),
      λ f. e ∙ lt_z_from_lt p.x (d.x *ℤ pos p.w) (subst (λ (h : Hand). Farther (corner_of d) h (place_of p)) c.in-Right.is f),
    )
