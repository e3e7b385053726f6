use Rattle.std.proofs.Common.{◌≡◌, ◌++◌, map, take, vec_items}
use Rattle.std.specs.List.{flat_map}
use Rattle.exact.specs.Points.{place_of}
use Rattle.hall.specs.Format.{place_bytes}
use Rattle.hall.proofs.routes.Route.to_bytes.Given as goal

abbrev pub invariant-loop-place : goal.invariant-loop-place
invariant-loop-place l = vec_items l.bytes ≡ vec_items l.initial.bytes ++ flat_map place_bytes (map place_of (take l.place-index l.place-items))
