-- The corners and places of the code, as those of the definitions. Assumes nothing: these are definitions.
use Rattle.std.specs.Prelude.{pos}
use Rattle.algebra.specs.Hall as hall
use Rattle.exact.specs.declared.points.Corner.{Corner}
use Rattle.exact.specs.declared.points.Place.{Place}

abbrev pub corner_of : Corner → hall.Corner
corner_of c = record { x = c.x; y = c.y }

abbrev pub place_of : Place → hall.Place
place_of p = record { x = p.x; y = p.y; w = p.w }

-- what stands past the end of an array of corners
abbrev pub zero : Corner
zero = record { x = pos 0; y = pos 0 }
