use Rattle.std.proofs.Common.{◌^◌}
use Rattle.algebra.specs.Near.{Near}
use Rattle.algebra.proofs.Ranges.{knows, by_size, by_value}
use Rattle.exact.proofs.Bounds.{by_near}
use Rattle.exact.proofs.Splits.{low_near, middle_near, carried_value, digit_kept}
use Rattle.exact.proofs.wide.Thirds.carried.Goals as goal

pub split-middle-requires : goal.split-middle-requires
split-middle-requires c =
    let l = c.split-low in
    let h : Near (2 ^ 50) l.result.high = low_near c.args.self l.result c.requires l.ensures.value l.ensures.low in
    by_near (search (knows, c.requires.middle, h) depth 60 fits 99999) tt

pub overflow_add-result : goal.overflow_add-result
overflow_add-result c =
    let l = c.split-low in
    let m = c.split-middle in
    let k : Near (2 ^ 51) m.result.high = middle_near c.args.self l.result m.result c.requires l.ensures.value l.ensures.low m.ensures.value m.ensures.low in
    by_size (search (knows, c.requires.high, k) depth 60 fits 99999) tt

pub returns : goal.returns
returns c =
    let l = c.split-low in
    let m = c.split-middle in
    let k : Near (2 ^ 51) m.result.high = middle_near c.args.self l.result m.result c.requires l.ensures.value l.ensures.low m.ensures.value m.ensures.low in
    record {
      value =
          by_value (search (knows, c.requires.high, k, m.ensures.low.most, m.ensures.low.least, l.ensures.low.most, l.ensures.low.least) depth 60 fits 99999)
          (carried_value c.args.self l.result m.result c.requires l.ensures.value l.ensures.low m.ensures.value);
      parts = record { high = by_near (search (knows, c.requires.high, k) depth 60 fits 99999) tt; middle = digit_kept m.result.low m.ensures.low; low = digit_kept l.result.low l.ensures.low };
    }
