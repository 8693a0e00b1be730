use Rattle.std.proofs.Common.{◌+◌, ◌∙◌, sym, ap, arith, get_or}
use Rattle.std.specs.Prelude.{sum_by}
use Rattle.std.proofs.lemmas.List.{take_all}
use Rattle.std.proofs.lemmas.List.Sums.{sum_by_more}
use Rattle.bridge_movement.specs.declared.row.Row.{Row}
use Rattle.bridge_config.specs.ConfigValue.{ConfigValue}
use Rattle.bridge_pbn.proofs.Rows.{row_numbers}
use Rattle.club_commands.specs.Checked.{row_done}
use Rattle.club_commands.proofs.counts.plays_done.Goals as goal

pub row_done-count-requires-clause-round : goal.row_done-count-requires-clause-round
row_done-count-requires-clause-round c =
    (row_numbers c.fields.result.now.movement.shape c.rows-rows.result.now c.loop-row.row-index (record { round = 0; table = 0; ns = 0; ew = 0; set = 0 })
    c.rows-rows.ensures.limits c.rows-rows.ensures.fair c.loop-row-test.true).0

pub row_done-count-requires-clause-table : goal.row_done-count-requires-clause-table
row_done-count-requires-clause-table c =
    (row_numbers c.fields.result.now.movement.shape c.rows-rows.result.now c.loop-row.row-index (record { round = 0; table = 0; ns = 0; ew = 0; set = 0 })
    c.rows-rows.ensures.limits c.rows-rows.ensures.fair c.loop-row-test.true).1

pub loop-row-preserved : goal.loop-row-preserved
loop-row-preserved c =
    let d : Row = record { round = 0; table = 0; ns = 0; ew = 0; set = 0 } in
    let s = c.args.session.now in
    let i = c.loop-row.row-index in
    record {
      counted = ap (λ more. c.loop-row.count + more) c.row_done-count.ensures.count
          ∙ ap (λ so_far. so_far + row_done s (get_or c.rows-rows.result.now i d)) c.loop-row.invariant.counted
          ∙ sym (sum_by_more (row_done s) c.rows-rows.result.now i d c.loop-row-test.true);
      few = omega (arith, c.loop-row.invariant.few, c.row_done-count.ensures.most);
    }

pub returns : goal.returns
returns c =
    let s = c.args.session.now in
    let stated = ap (λ (configuration : ConfigValue). configuration.movement.rows) (c.fields.ensures.fields ∙ c.config.ensures) in
    c.loop-row.invariant.counted
    ∙ ap (sum_by (row_done s)) (take_all c.loop-row.row-index c.rows-rows.result.now (omega (arith, c.loop-row-test.false)) ∙ c.rows-rows.ensures.rows ∙ stated)
