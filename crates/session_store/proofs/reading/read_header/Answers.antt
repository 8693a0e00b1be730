use Rattle.std.proofs.Common.{refl, ◌∙◌}
use Rattle.session_store.specs.Form.{header_of}
use Rattle.session_store.proofs.reading.read_header.Goals as goal

pub returns : goal.returns
unfolding header_of
returns c = c.or.ensures ∙ rw (c.read_header_as.ensures, c.read_header_as-2.ensures) refl
