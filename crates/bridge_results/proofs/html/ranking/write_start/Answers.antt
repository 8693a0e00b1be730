use Rattle.bridge_results.specs.HtmlPage.{html_ranking_start}
use Rattle.bridge_results.proofs.html.ranking.write_start.Goals as goal

pub returns : goal.returns
unfolding html_ranking_start
returns g c = rw (
  c.as_slice.ensures.value,
  c.push_ranked_titles.ensures,
  c.push_bytes-5.ensures.text,
  c.push_bytes-4.ensures.text,
  c.push_bytes-3.ensures.text,
  c.push_bytes-2.ensures.text,
  c.push_bytes.ensures.text,
  c.new-text.ensures,
) at c.write_text.ensures
