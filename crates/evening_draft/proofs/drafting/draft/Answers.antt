use Rattle.std.proofs.Common.{length, ap, ◌∙◌}
use Rattle.evening_draft.specs.Draft.{drafted}
use Rattle.evening_draft.specs.Keys.{evening_keys}
use Rattle.evening_draft.proofs.Drafted.{IsDraftOf, is_draft}
use Rattle.evening_draft.proofs.drafting.draft.Goals as goal

-- what is said of the draft
made : (c : goal.In-Some-config_with) →
    IsDraftOf c.args.wishes.now c.args.names.now (evening_keys c.args.wishes.now.seed (length c.args.names.now))
    c.in-Some-config_with.config
made c =
    let drawn = c.in-Some.ensures in
    is_draft c.args.wishes.now c.args.names.now c.of_pairs-movement.result c.in-Some.keys.items _ c.in-Some-config_with.config
    drawn.keys drawn.count drawn.nine_digits
    (c.in-Some-config_with.ensures.config
    ∙ ap (drafted c.args.wishes.now c.args.names.now c.of_pairs-movement.result) c.as_slice.ensures.value)

pub returns-in-Some-config_with-clause-keys : goal.returns-in-Some-config_with-clause-keys
returns-in-Some-config_with-clause-keys c = ((made c).keys, (made c).nine)

pub returns-in-Some-config_with-clause-names : goal.returns-in-Some-config_with-clause-names
returns-in-Some-config_with-clause-names c = (made c).ascii

pub returns-in-Some-config_with-clause-stated : goal.returns-in-Some-config_with-clause-stated
returns-in-Some-config_with-clause-stated c = (made c).stated
