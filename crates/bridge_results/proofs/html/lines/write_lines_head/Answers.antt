use Rattle.bridge_results.specs.HtmlBoard.{html_lines_head}
use Rattle.bridge_results.proofs.html.lines.write_lines_head.Goals as goal

pub returns : goal.returns
unfolding html_lines_head
returns g c = rw (c.as_slice.ensures.value, c.push_line_titles.ensures, c.push_bytes.ensures.text, c.new-text.ensures) at c.write_text.ensures
