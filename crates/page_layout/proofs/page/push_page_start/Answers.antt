use Rattle.page_layout.proofs.Joined.{three_parts}
use Rattle.page_layout.proofs.page.push_page_start.Goals as goal

pub returns-in-Html-clause-text : goal.returns-in-Html-clause-text
returns-in-Html-clause-text c =
    rw c.in-Html.is (three_parts _ _ _ _ _ _ _ c.push_bytes.ensures.text c.push_html.ensures.text c.push_bytes-in-Html.ensures.text)
