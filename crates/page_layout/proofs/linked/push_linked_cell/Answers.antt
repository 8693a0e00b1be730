use Rattle.page_layout.proofs.Joined.{six_parts}
use Rattle.page_layout.proofs.linked.push_linked_cell.Goals as goal

pub returns-clause-text : goal.returns-clause-text
returns-clause-text c =
    six_parts _ _ _ _ _ _ _ _ _ _ _ _ _ c.push_bytes.ensures.text (rw c.align_class.ensures.text at c.push_bytes-2.ensures.text)
    c.push_link_start.ensures.text c.push_html.ensures.text (rw c.link_end.ensures.text at c.push_bytes-3.ensures.text) c.push_bytes-4.ensures.text
