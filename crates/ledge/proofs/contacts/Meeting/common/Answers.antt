use Rattle.std.proofs.Common.{rules}
use Rattle.ledge.proofs.Sharing.{Tried, tried_apart, tried_crossing, tried_first, tried_second, by_filter}
use Rattle.ledge.proofs.contacts.Meeting.common.Goals as goal
use Rattle.ledge.proofs.contacts.Meeting.common.Goals.{in-Apart, in-Crossing, in-InLine, in-InLine-2}

pub returns : goal.returns
returns c =
    let l = c.args.l in
    let m = c.args.m in
    let t : Tried l m c.args.self c.match-self.place =
    elim c.match-self.branch [
      | in-Apart w ↦ tried_apart l m c.args.self c.match-self.place w.in-Apart.is w.place-is
      | in-Crossing w ↦ tried_crossing l m c.args.self c.match-self.place w.in-Crossing.place c.requires.met w.in-Crossing.is w.place-is
      | in-InLine w ↦ tried_second l m c.args.self c.match-self.place w.x_order.result w.x_order.ensures c.requires.first c.requires.second w.in-InLine.is w.if-is_lt.ensures w.place-is
      | in-InLine-2 w ↦ tried_first l m c.args.self c.match-self.place w.x_order.result w.x_order.ensures c.requires.first c.requires.second w.in-InLine.is w.if-is_lt.ensures w.place-is
    ] in
    by_filter l m c.args.self c.match-self.place t (λ p b h. search rules) c.filter.result c.filter.ensures
