use Rattle.bridge_results.proofs.html.lines.write_line.Goals as goal

pub returns-in-MatchPoints : goal.returns-in-MatchPoints
returns-in-MatchPoints g c = rw c.in-MatchPoints.is (rw (c.as_slice.ensures.value, c.share_line.ensures) at c.write_text.ensures)

pub returns-in-Imps : goal.returns-in-Imps
returns-in-Imps g c = rw c.in-Imps.is (rw (c.as_slice-in-Imps.ensures.value, c.sum_line.ensures) at c.write_text-in-Imps.ensures)
