use Rattle.std.proofs.Common.{◌≡◌, ◌+◌, arith}
use Rattle.std.specs.Str.Lines.{lines}
use Rattle.std.proofs.lemmas.Result.{err_from_is_err_and}
use Rattle.bridge_config.specs.Reading.{rows_in}
use Rattle.bridge_config.proofs.Loops.{rows_go_on, rows_miss_line, rows_end_at, rows_are_done}
use Rattle.bridge_config.proofs.reading.read_rows.Goals as goal

pub returns-in_err-line : goal.returns-in_err-line
returns-in_err-line c =
    let p = err_from_is_err_and c.from_residual.result c.from_residual.ensures.1 in
    rw (p.1, p.2) (rows_miss_line c.in_err-line.field-0.0 c.loop-index.rows.items c.args.count c.loop-index.index (7 + c.loop-index.index) (lines c.loop-index.rest.now) (rows_in c.args.count 7 (lines c.args.text.now))
    c.loop-index-test.true c.in_err-line.ensures.line c.loop-index.invariant.read)

pub returns-in_err-row : goal.returns-in_err-row
returns-in_err-row c =
    let p = err_from_is_err_and c.from_residual-in_err-row.result c.from_residual-in_err-row.ensures.1 in
    let is = rw c.in_ok-line.ensures.number at c.in_err-row.ensures in
    rw (p.1, p.2) (rows_end_at c.in_err-row.field-0.0 c.loop-index.rows.items c.args.count c.loop-index.index (7 + c.loop-index.index) (lines c.loop-index.rest.now) c.in_ok-line.line.text.now (lines c.in_ok-line.after.now) (rows_in c.args.count 7 (lines c.args.text.now))
    c.loop-index-test.true c.in_ok-line.ensures.line is c.loop-index.invariant.read)

pub loop-index-preserved : goal.loop-index-preserved
loop-index-preserved c =
    let is = rw c.in_ok-line.ensures.number at c.in_ok-row.ensures in
    let next : 7 + (c.loop-index.index + 1) ≡ 7 + c.loop-index.index + 1 = omega arith in
    record {
      read = rw (c.push.ensures.items, next) (rows_go_on c.loop-index.rows.items c.args.count c.loop-index.index (7 + c.loop-index.index) (lines c.loop-index.rest.now) c.in_ok-line.line.text.now c.in_ok-row.field-0 (lines c.in_ok-line.after.now) (rows_in c.args.count 7 (lines c.args.text.now))
          c.loop-index-test.true c.in_ok-line.ensures.line is c.loop-index.invariant.read);
      count = omega (arith, c.push.ensures.len, c.loop-index.invariant.count);
    }

pub returns : goal.returns
returns c =
    rows_are_done c.loop-index.rows.items c.args.count c.loop-index.index (7 + c.loop-index.index) (lines c.loop-index.rest.now) (rows_in c.args.count 7 (lines c.args.text.now)) (omega arith) c.loop-index.invariant.read
