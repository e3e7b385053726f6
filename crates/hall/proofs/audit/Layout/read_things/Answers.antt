use Rattle.std.proofs.Common.{◌≡◌, ℕ, ◌+◌, ◌<◌, List, [], ◌∷◌, ◌++◌, map, length, sym, ap, ◌∙◌, ap₂, arith}
use Rattle.std.specs.BTreeMap.{values, insert_entry}
use Rattle.std.specs.Map.{values_of}
use Rattle.std.specs.Ordering.{nat_cmp}
use Rattle.std.proofs.lemmas.List.{map_push, length-map}
use Rattle.std.proofs.lemmas.Map.Entries.{length-values_of}
use Rattle.std.proofs.lemmas.Map.Views.{All-keys-insert_entry}
use Rattle.algebra.specs.Hall.{Shape}
use Rattle.hall.specs.Bytes.{byte}
use Rattle.hall.specs.Format.{past, shape_at, shapes_at}
use Rattle.hall.specs.Shapes.{shape_of}
use Rattle.hall.proofs.Numbered.{values_appended}
use Rattle.hall.proofs.Sounds.{past_more, shapes_at_more, length_shapes_at}
use Rattle.hall.proofs.audit.Layout.read_things.Goals as goal

pub loop-k-preserved : goal.loop-k-preserved
loop-k-preserved c =
    let bs = c.args.self.now.bytes.now in
    let at = (c.args.self.now.count_from + 1) in
    let k = c.loop-k.k in
    let inv = c.loop-k.invariant in
    let m = c.loop-k.things in
    let v = c.shape.result in
    let entries : c.insert.new.self.entries ≡ insert_entry nat_cmp m.entries k v = c.in_ok-insert.ensures.entries in
    let e : byte c.loop-k.thing.bytes.now c.loop-k.thing.at ≡ byte bs (past k bs at) = cc in
    let s : shape_of v ≡ shape_at bs (past k bs at) = cc in (
      cc,
      omega (arith, past_more k bs at, e),
      omega arith,
      rw entries (All-keys-insert_entry nat_cmp k v (λ q. q < k + 1) m.entries (λ i d h. omega (arith, inv.3 i d h)) (omega arith)),
      c.insert.ensures.ordered,
      ap (λ es. map shape_of (values_of es)) entries
          ∙ (ap (map shape_of) (values_appended m.entries k v inv.3)
          ∙ (map_push shape_of _ v ∙ (ap₂ (λ (ss : List Shape) (t : Shape). ss ++ t ∷ []) inv.5 s ∙ sym (shapes_at_more k bs at)))),
    )

pub returns : goal.returns
returns c =
    let e : c.loop-k.k ≡ c.args.self.now.things = omega arith in
    let shown = c.loop-k.invariant.5 ∙ ap (λ (k : ℕ). shapes_at k c.args.self.now.bytes.now (c.args.self.now.count_from + 1)) e in (
      shown,
      omega (arith, e, ap length shown, length-map (values c.loop-k.things) shape_of, length-values_of c.loop-k.things.entries, length_shapes_at c.args.self.now.things c.args.self.now.bytes.now (c.args.self.now.count_from + 1)),
      c.loop-k.invariant.4,
    )
