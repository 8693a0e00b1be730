use Rattle.bridge_results.specs.HtmlCourse.{summary_end}
use Rattle.bridge_results.proofs.html.summary.write_summary_end.Goals as goal

pub returns : goal.returns
unfolding summary_end
returns g c =
    rw (
      c.as_slice.ensures.value,
      c.push_paragraph.ensures.text,
      c.as_bytes-3.ensures.value,
      c.as_str-2.ensures.value,
      c.meeting_words-meeting.ensures.text,
      c.push_bytes-3.ensures.text,
      c.push_html-2.ensures.text,
      c.as_bytes-2.ensures.value,
      c.declarer_cell.ensures.text,
      c.push_bytes-2.ensures.text,
      c.push_html.ensures.text,
      c.as_bytes.ensures.value,
      c.as_str.ensures.value,
      c.result_cell-made.ensures.text,
      c.push_bytes.ensures.text,
      c.new-text.ensures,
    ) at c.write_text.ensures
