use Rattle.std.proofs.Common.{◌≡◌, ◌++◌, map, length, vec_items, append_assoc, arith, rules}
use Rattle.std.specs.BTreeMap.{values}
use Rattle.std.specs.List.{flat_map}
use Rattle.std.proofs.lemmas.List.{length-map, nil_from_length, append-nil}
use Rattle.std.proofs.lemmas.Map.Entries.{length-values_of}
use Rattle.hall.specs.Format.{shape_bytes}
use Rattle.hall.specs.Halls.{task_of}
use Rattle.hall.specs.Shapes.{shape_of}
use Rattle.hall.proofs.Written.{task_written}
use Rattle.hall.proofs.halls.Hall.to_bytes.Goals as goal

pub loop-thing-preserved : goal.loop-thing-preserved
loop-thing-preserved c = search (rules, append_assoc)

pub returns : goal.returns
returns c =
    let h = c.args.self.now in
    let t = task_of h in
    let n : c.len.result ≡ length t.hall.things = omega (arith, length-map (values h.things) shape_of, length-values_of h.things.entries, c.len.ensures) in
    let things : c.loop-thing.bytes.items ≡ c.push.new.self.items ++ flat_map shape_bytes (map shape_of (values h.things)) = search (rules, nil_from_length, append-nil) in
    task_written t c.len.result {b2 = vec_items c.write_number-2.new.out} {b3 = vec_items c.write_shape.new.out}
    {b4 = vec_items c.push.new.self} {b5 = vec_items c.loop-thing.bytes} {b6 = vec_items c.write_place.new.out}
    {b7 = vec_items c.write_place-2.new.out} n c.new-bytes.ensures.items
    (simp c.from.ensures at c.in_ok-write_number.ensures) (simp c.from-2.ensures at c.in_ok-write_number-2.ensures) c.in_ok-write_shape.ensures
    c.in_ok-push.ensures.items things
    c.in_ok-write_place.ensures c.in_ok-write_place-2.ensures
