use Rattle.std.proofs.Common.{subst}
use Rattle.std.specs.Prelude.{flat_map}
use Rattle.line_text.specs.Streams.{stream, Written}
use Rattle.bridge_config.specs.ConfigValue.{ConfigValue}
use Rattle.bridge_results.specs.TablesText.{play_row}
use Rattle.bridge_results.proofs.tables.plays.write_lines.Goals as goal

pub returns : goal.returns
returns g c =
    subst (λ (k : ConfigValue). Written (stream g.W.Write.contents c.args.writer.now c.write_rows.new.writer) (flat_map (play_row k.scoring c.args.board) c.args.lines.now) c.write_rows.result)
    c.fields-fields.ensures.fields c.write_rows.ensures
