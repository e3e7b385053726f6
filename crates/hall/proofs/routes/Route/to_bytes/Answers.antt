use Rattle.std.proofs.Common.{◌≡◌, List, ◌++◌, map, length, pos, vec_items, ap, ◌∙◌, arith}
use Rattle.std.specs.List.{flat_map}
use Rattle.std.proofs.lemmas.List.{take_all, length-map}
use Rattle.exact.specs.declared.points.Place.{Place}
use Rattle.exact.specs.Points.{place_of}
use Rattle.hall.specs.Format.{place_bytes}
use Rattle.hall.specs.Routes.{places_of}
use Rattle.hall.proofs.Written.{joined_step, way_written}
use Rattle.hall.proofs.routes.Route.to_bytes.Goals as goal

pub loop-place-preserved : goal.loop-place-preserved
loop-place-preserved c =
    let nowhere : Place = record { x = pos 0; y = pos 0; w = 0 } in
    joined_step place_bytes place_of c.deref-place-items.result.now c.loop-place.place-index nowhere (vec_items c.write_number.new.out) _ (vec_items c.write_place.new.out)
    c.loop-place-test.true c.loop-place.invariant c.in_ok-write_place.ensures

pub returns : goal.returns
returns c =
    let r = c.args.self.now in
    let n : c.len.result ≡ length (places_of r) = omega (arith, length-map (vec_items r.places) place_of) in
    let all = take_all c.loop-place.place-index c.deref-place-items.result.now c.loop-place-test.false ∙ c.deref-place-items.ensures.value in
    way_written (places_of r) c.len.result {b2 = vec_items c.loop-place.bytes} n c.new-bytes.ensures.items c.in_ok-write_number.ensures
    (c.loop-place.invariant ∙ ap (λ (ps : List Place). vec_items c.write_number.new.out ++ flat_map place_bytes (map place_of ps)) all)
