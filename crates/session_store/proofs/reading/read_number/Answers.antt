use Rattle.std.proofs.Common.{refl, ◌∙◌}
use Rattle.session_store.specs.Form.{number_field}
use Rattle.session_store.proofs.ReadLemmas.{field_at}
use Rattle.session_store.proofs.reading.read_number.Goals as goal

pub returns-clause-number : goal.returns-clause-number
unfolding number_field
returns-clause-number c =
    let at = field_at 4 12 c.args.bytes.now in
    c.from_be_bytes.ensures ∙ rw (at 0 refl, at 1 refl, at 2 refl, at 3 refl) refl
