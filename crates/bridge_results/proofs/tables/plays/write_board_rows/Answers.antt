use Rattle.bridge_results.proofs.tables.plays.write_board_rows.Goals as goal

pub returns : goal.returns
returns g c = rw (c.config.ensures, c.as_slice.ensures.value, c.traveller-lines.ensures.lines, c.requires) at c.write_lines.ensures
