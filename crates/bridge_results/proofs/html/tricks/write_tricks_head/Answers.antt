use Rattle.bridge_results.specs.HtmlCourse.{tricks_head}
use Rattle.bridge_results.proofs.html.tricks.write_tricks_head.Goals as goal

pub returns : goal.returns
unfolding tricks_head
returns g c =
    rw (c.as_slice.ensures.value, c.push_titles.ensures.text, c.push_bytes.ensures.text, c.new-text.ensures) at c.write_text.ensures
