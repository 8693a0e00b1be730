use Rattle.bridge_results.specs.HtmlCourse.{first_names}
use Rattle.bridge_results.proofs.html.summary.write_first.Goals as goal

pub returns : goal.returns
unfolding first_names
returns g c = rw (c.as_slice.ensures.value, c.pair_behind-text.ensures) at c.write_text.ensures
