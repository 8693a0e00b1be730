use Rattle.bridge_results.proofs.html.lines.push_sum_titles.Goals as goal

pub returns : goal.returns
returns c = c.push_titles.ensures.text
