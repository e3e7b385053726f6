use Rattle.std.proofs.Common.{◌≡◌, ◌+◌, ◌*◌, map, ◌∙◌, ap, arith, rules}
use Rattle.std.specs.List.{range_with_len}
use Rattle.std.proofs.lemmas.Iterator.{YieldsList-from_range, YieldsList-from_map_by}
use Rattle.exact.specs.Points.{place_of}
use Rattle.hall.specs.Format.{place_at, places_at}
use Rattle.hall.proofs.Each.{collected}
use Rattle.hall.proofs.Sounds.{places_at_each}
use Rattle.hall.proofs.reader.places_at.Goals as goal

pub returns : goal.returns
returns c =
    let bs = c.args.bytes.now in
    let all : map (λ k. place_at bs (2 + 24 * k)) (range_with_len 0 c.from.result) ≡ places_at c.args.n bs 2 = places_at_each c.from.result bs 2 0 ∙ ap (λ n. places_at n bs 2) c.from.ensures in
    rw (← all)
    (collected c.collect.result c.collect.ensures.ran
    (YieldsList-from_map_by _ place_of (λ k. place_at bs (2 + 24 * k)) (YieldsList-from_range 0 c.from.result c.from.result c.map.ensures.source (omega arith)) c.map.ensures.closure (λ k r q h. search rules)))
