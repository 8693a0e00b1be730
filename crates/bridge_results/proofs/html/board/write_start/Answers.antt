use Rattle.bridge_results.specs.HtmlBoard.{board_start}
use Rattle.bridge_results.proofs.html.board.write_start.Goals as goal

pub returns : goal.returns
unfolding board_start
returns g c =
    rw (
      c.as_slice.ensures.value,
      c.push_paragraph.ensures.text,
      c.as_bytes-3.ensures.value,
      c.as_str-3.ensures.value,
      c.deal_words-words.ensures.text,
      c.push_heading.ensures.text,
      c.as_bytes-2.ensures.value,
      c.as_str-2.ensures.value,
      c.board_words-heading.ensures.text,
      c.push_bytes-3.ensures.text,
      c.push_bytes-2.ensures.text,
      c.as_bytes.ensures.value,
      c.as_str.ensures.value,
      c.board_target-target.ensures.text,
      c.push_bytes.ensures.text,
      c.new-text.ensures,
    ) at c.write_text.ensures
