use Rattle.page_layout.proofs.Joined.{six_parts}
use Rattle.bridge_results.proofs.html.often.push_bar.Goals as goal

pub returns-clause-text : goal.returns-clause-text
returns-clause-text c =
    six_parts _ _ _ _ _ _ _ _ _ _ _ _ _ c.push_bytes.ensures.text
    (rw (c.as_bytes.ensures.value, c.as_str.ensures.value, c.number_text-width.ensures.text) at c.push_bytes-2.ensures.text)
    c.push_bytes-3.ensures.text c.push_rect.ensures.text c.push_rect-2.ensures.text c.push_bytes-4.ensures.text
