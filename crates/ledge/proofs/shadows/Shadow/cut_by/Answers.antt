use Rattle.ledge.proofs.shadows.Shadow.cut_by.Goals as goal

pub returns : goal.returns
returns c = record { e = c.against.result; ends = c.against.ensures; part = c.cut.ensures }
