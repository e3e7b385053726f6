use Rattle.ledge.proofs.Whole.{ledge_graph}
use Rattle.ledge.proofs.graph.ledge_graph.Goals as goal

pub returns : goal.returns
returns c = ledge_graph
