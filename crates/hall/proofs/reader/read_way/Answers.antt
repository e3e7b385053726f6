use Rattle.std.proofs.Common.{ℕ, ◌-◌, ◌^◌, ◌<◌, List, length, get_or, sym, ap, ◌∙◌, subst, arith}
use Rattle.std.proofs.lemmas.List.{length-map}
use Rattle.algebra.specs.Hall.{Place}
use Rattle.exact.specs.Points.{place_of}
use Rattle.hall.specs.Format.{places_at, way_at, way_bytes, way_fault}
use Rattle.hall.specs.Routes.{places_of}
use Rattle.hall.specs.Tasks.{Bounded, Fitting}
use Rattle.hall.proofs.Drawings.{holds}
use Rattle.hall.proofs.Readings.{bytes_from_fits, refuses, all_bounded_from}
use Rattle.hall.proofs.Roundtrip.{way_reads_back, way_writes_back}
use Rattle.hall.proofs.reader.read_way.Goals as goal

pub returns-in_err-check_way : goal.returns-in_err-check_way
returns-in_err-check_way c =
    refuses way_fault way_at Fitting way_bytes places_of (λ ps f. (way_reads_back ps f).0) c.args.bytes.now _ _ c.from_residual.ensures.1 c.in_err-check_way.ensures

abbrev EachBounded : List Place → Type 0
EachBounded ps = (k : ℕ) (d : Place) → k < length ps → Bounded (2 ^ 60 - 1) (get_or ps k d)

pub invariant_of-result : goal.invariant_of-result
unfolding way_at
invariant_of-result c =
    let bs = c.args.bytes.now in
    let v = c.in_ok-places.places in
    let w = (way_writes_back bs (bytes_from_fits bs c.type_inv.bytes) c.in_ok-check_way.ensures).1 in
    let r = c.in_ok-places.ensures ∙ ap (λ (n : ℕ). places_at n bs 2) c.u16.ensures in
    record {
      few = omega (arith, w.few, ap length r, length-map v.items place_of);
      near = holds (all_bounded_from (2 ^ 60 - 1) v.items (subst EachBounded (sym r) w.places));
    }

pub returns : goal.returns
unfolding way_at
returns c =
    let bs = c.args.bytes.now in
    let e = c.in_ok-check_way.ensures in
    let w = way_writes_back bs (bytes_from_fits bs c.type_inv.bytes) e in
    let r = c.in_ok-places.ensures ∙ ap (λ (n : ℕ). places_at n bs 2) c.u16.ensures in
    record { faultless = e; read = r; written = sym w.0 ∙ ap way_bytes (sym r); good = subst Fitting (sym r) w.1 }
