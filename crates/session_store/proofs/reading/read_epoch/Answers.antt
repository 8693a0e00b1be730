use Rattle.std.proofs.Common.{refl, ◌∙◌}
use Rattle.session_store.specs.Form.{epoch_field}
use Rattle.session_store.proofs.ReadLemmas.{field_at}
use Rattle.session_store.proofs.reading.read_epoch.Goals as goal

pub returns-clause-epoch : goal.returns-clause-epoch
unfolding epoch_field
returns-clause-epoch c =
    let at = field_at 8 4 c.args.bytes.now in
    c.from_be_bytes.ensures ∙ rw (at 0 refl, at 1 refl, at 2 refl, at 3 refl, at 4 refl, at 5 refl, at 6 refl, at 7 refl) refl
