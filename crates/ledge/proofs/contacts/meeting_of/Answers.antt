use Rattle.std.proofs.lemmas.Bool.{both_ways}
use Rattle.ledge.specs.Contacts.{segment}
use Rattle.ledge.proofs.LinedUp.{lines_up, out_of_line}
use Rattle.ledge.proofs.contacts.meeting_of.Goals as goal

pub returns-in-None : goal.returns-in-None
returns-in-None c = lines_up (segment c.args.a) (segment c.args.b) c.requires (c.is_in_line.ensures.0 c.if-is_in_line.true)

pub returns-in-None-2 : goal.returns-in-None-2
returns-in-None-2 c = out_of_line c.args.a c.args.b c.in-None.ensures (λ l. both_ways c.is_in_line.result c.if-is_in_line.false (c.is_in_line.ensures.1 l))
