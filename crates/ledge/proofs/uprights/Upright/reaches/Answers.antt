use Rattle.std.proofs.Common.{pos, ◌*ℤ◌, sym, ◌∙◌, ap₂}
use lib.Signed.{le_z}
use Rattle.std.proofs.lemmas.Bool.{both_ways}
use Rattle.algebra.proofs.Ranges.{knows, by_size}
use Rattle.hall.proofs.Sounds.{le_from_le_z, le_z_from_le}
use Rattle.ledge.proofs.Scaling.{scaled, own}
use Rattle.ledge.proofs.uprights.Upright.reaches.Goals as goal

pub overflow_mul-slope : goal.overflow_mul-slope
overflow_mul-slope c = by_size (search (knows, c.args.slope.side.starts.x, c.args.self.near.most) depth 60 fits 99999) tt

pub overflow_mul-result : goal.overflow_mul-result
overflow_mul-result c = by_size (search (knows, c.args.slope.side.ends.x, c.args.self.near.most) depth 60 fits 99999) tt

pub returns-then-slope-w : goal.returns-then-slope-w
returns-then-slope-w c =
    let p = c.args.self.p in
    let a = c.args.slope.side.from.x *ℤ pos p.w in
    let b = c.args.slope.side.to.x *ℤ pos p.w in
    let e = ap₂ le_z (scaled p c.args.self.near c.args.slope.side.from c.args.slope.side.starts) (own p c.args.self.near) in
    let f = ap₂ le_z (own p c.args.self.near) (scaled p c.args.self.near c.args.slope.side.to c.args.slope.side.ends) in
    let first = le_from_le_z a p.x (sym e ∙ c.if-slope-w.true) in
    (λ h. record { from = first; to = le_from_le_z p.x b (sym f ∙ h) }, λ o. f ∙ le_z_from_le p.x b o.to)

pub returns-else-slope-w : goal.returns-else-slope-w
returns-else-slope-w c =
    let p = c.args.self.p in
    let e = ap₂ le_z (scaled p c.args.self.near c.args.slope.side.from c.args.slope.side.starts) (own p c.args.self.near) in
    (λ h. absurd (both_ways _ c.if-slope-w.false h), λ o. e ∙ le_z_from_le (c.args.slope.side.from.x *ℤ pos p.w) p.x o.from)
