use Rattle.std.proofs.Common.{append_assoc}
use Rattle.page_layout.proofs.page.push_section_start.Goals as goal

pub returns-in-Html-clause-text : goal.returns-in-Html-clause-text
returns-in-Html-clause-text c =
    rw (c.in-Html.is, c.push_bytes-in-Html-2.ensures.text, c.push_bytes-in-Html.ensures.text, c.section_class.ensures.text, c.push_bytes.ensures.text)
    (simp append_assoc)
