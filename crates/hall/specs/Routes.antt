-- The ways of the code as places of the definitions. Assumes nothing: these are definitions.
use Rattle.std.specs.Prelude.{List, map, vec_items}
use Rattle.algebra.specs.Hall.{Place}
use Rattle.exact.specs.Points.{place_of}
use Rattle.hall.specs.declared.routes.Route.{Route}

abbrev pub places_of : Route → List Place
places_of r = map place_of (vec_items r.places)
