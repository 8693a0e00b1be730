use Rattle.std.proofs.Common.{append_assoc}
use Rattle.bridge_pbn.proofs.play_section.push_trick.Goals as goal

pub returns-clause-line : goal.returns-clause-line
returns-clause-line c =
    rw (c.push_str-4.ensures.bytes, c.push_column-4.ensures.text, c.push_str-3.ensures.bytes, c.push_column-3.ensures.text, c.push_str-2.ensures.bytes, c.push_column-2.ensures.text, c.push_str.ensures.bytes, c.push_column.ensures.text) (simp append_assoc)
