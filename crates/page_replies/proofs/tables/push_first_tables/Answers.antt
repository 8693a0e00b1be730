use Rattle.std.proofs.Common.{arith}
use Rattle.page_replies.specs.Tables.{table_line}
use Rattle.page_replies.proofs.MoreTables.{one_more}
use Rattle.page_replies.proofs.tables.push_first_tables.Goals as goal

pub loop-index-preserved : goal.loop-index-preserved
loop-index-preserved c = record {
  text = one_more (table_line c.args.session.now) _ _ _ c.loop-index.index c.loop-index.invariant.text c.push_table.ensures.line;
  room = omega (arith, c.loop-index.invariant.room, c.push_table.ensures.room);
}
