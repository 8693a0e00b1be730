use Rattle.std.proofs.Common.{◌≡◌, ◌+◌, ◌∙◌, ◌∷◌, [], ◌++◌, ap, arith, map}
use Rattle.std.specs.Str.Lines.{lines}
use Rattle.std.proofs.lemmas.Result.{err_from_is_err_and}
use Rattle.std.proofs.lemmas.List.{map_push, map-append}
use Rattle.bridge_config.specs.ConfigValue.{pair_of, key_number}
use Rattle.bridge_config.specs.Reading.{pairs_in}
use Rattle.bridge_config.proofs.Loops.{pairs_go_on, pairs_miss_line, pairs_end_at, pairs_are_done}
use Rattle.bridge_config.proofs.reading.read_pairs.Goals as goal

pub returns-in_err-line : goal.returns-in_err-line
returns-in_err-line c =
    let p = err_from_is_err_and c.from_residual.result c.from_residual.ensures.1 in
    let total = pairs_in c.args.count c.args.number 1 (key_number c.args.director ∷ []) (lines c.args.text.now) in
    rw (p.1, p.2) (pairs_miss_line c.in_err-line.field-0.0 (map pair_of c.loop-index.pairs.items) c.args.count c.loop-index.index (c.args.number + c.loop-index.index) (1 + c.loop-index.index) (map key_number c.loop-index.keys.items) (lines c.loop-index.rest.now) total
    c.loop-index-test.true c.in_err-line.ensures.line c.loop-index.invariant.read)

pub returns-in_err-pair : goal.returns-in_err-pair
returns-in_err-pair c =
    let p = err_from_is_err_and c.from_residual-in_err-pair.result c.from_residual-in_err-pair.ensures.1 in
    let is = rw (c.in_ok-line.ensures.number, c.as_slice.ensures.value) at c.in_err-pair.ensures in
    let total = pairs_in c.args.count c.args.number 1 (key_number c.args.director ∷ []) (lines c.args.text.now) in
    rw (p.1, p.2) (pairs_end_at c.in_err-pair.field-0.0 (map pair_of c.loop-index.pairs.items) c.args.count c.loop-index.index (c.args.number + c.loop-index.index) (1 + c.loop-index.index) (map key_number c.loop-index.keys.items) (lines c.loop-index.rest.now) c.in_ok-line.line.text.now (lines c.in_ok-line.after.now) total
    c.loop-index-test.true c.in_ok-line.ensures.line is c.loop-index.invariant.read)

pub loop-index-preserved : goal.loop-index-preserved
loop-index-preserved c =
    let is = rw (c.in_ok-line.ensures.number, c.as_slice.ensures.value) at c.in_ok-pair.ensures in
    let next : c.args.number + (c.loop-index.index + 1) ≡ c.args.number + c.loop-index.index + 1 = omega arith in
    let index : 1 + (c.loop-index.index + 1) ≡ 1 + c.loop-index.index + 1 = omega arith in
    let pair = c.in_ok-pair.pair in
    let grown : c.try_extend_from_slice.new.self.items ≡ c.loop-index.keys.items ++ pair.keys = rw c.unwrap.ensures at c.try_extend_from_slice.ensures.ok in
    let keys : map key_number c.try_extend_from_slice.new.self.items ≡ map key_number c.loop-index.keys.items ++ map key_number pair.keys =
    ap (map key_number) grown ∙ map-append key_number c.loop-index.keys.items pair.keys in
    let pairs : map pair_of c.push-in-loop-index.new.self.items ≡ map pair_of c.loop-index.pairs.items ++ pair_of pair ∷ [] =
    ap (map pair_of) c.push-in-loop-index.ensures.items ∙ map_push pair_of c.loop-index.pairs.items pair in
    let total = pairs_in c.args.count c.args.number 1 (key_number c.args.director ∷ []) (lines c.args.text.now) in
    record {
      read = rw (pairs, keys, next, index) (pairs_go_on (map pair_of c.loop-index.pairs.items) c.args.count c.loop-index.index (c.args.number + c.loop-index.index) (1 + c.loop-index.index) (map key_number c.loop-index.keys.items) (lines c.loop-index.rest.now) c.in_ok-line.line.text.now (pair_of pair) (lines c.in_ok-line.after.now) total
          c.loop-index-test.true c.in_ok-line.ensures.line is c.loop-index.invariant.read);
      count = omega (arith, c.push-in-loop-index.ensures.len, c.loop-index.invariant.count);
      keys = let len = rw c.unwrap.ensures at c.try_extend_from_slice.ensures.len in omega (arith, len, c.loop-index.invariant.keys);
    }

pub returns : goal.returns
returns c =
    let total = pairs_in c.args.count c.args.number 1 (key_number c.args.director ∷ []) (lines c.args.text.now) in
    pairs_are_done (map pair_of c.loop-index.pairs.items) c.args.count c.loop-index.index (c.args.number + c.loop-index.index) (1 + c.loop-index.index) (map key_number c.loop-index.keys.items) (lines c.loop-index.rest.now) total (omega arith) c.loop-index.invariant.read
