-- The laws of ledges, each from those before it. Assumes nothing.
use Rattle.ledge.specs.Surfaces.{HasFloor, Falls}
use Rattle.ledge.specs.Sides.{OneHeight}
use Rattle.ledge.specs.Graph.{Steps, Keeps, LedgeGraph}
use Rattle.ledge.proofs.Feet.{feet, gaps, uprights}
use Rattle.ledge.proofs.Sections.{has_sides, between_sides}
use Rattle.ledge.proofs.Keeping.{keeps_side}
use Rattle.ledge.proofs.OneHeight as one
use Rattle.ledge.proofs.HasFloor as floors
use Rattle.ledge.proofs.Falling as falling
use Rattle.ledge.proofs.Cutting.{cutting}
use Rattle.ledge.proofs.StepFloors as step
use Rattle.ledge.proofs.Leaving as leaving
use Rattle.ledge.proofs.Driven as driven

pub one_height : OneHeight
one_height = one.one_height feet

pub has_floor : HasFloor
has_floor = floors.has_floor feet gaps has_sides one_height

pub falls : Falls
falls = falling.falls feet has_sides between_sides

pub steps : Steps
steps = step.steps feet gaps uprights has_sides between_sides keeps_side one_height has_floor falls

pub keeps : Keeps
keeps = leaving.keeps cutting steps

pub ledge_graph : LedgeGraph
ledge_graph = driven.ledge_graph gaps falls keeps
