use Rattle.std.proofs.Common.{◌∙◌}
use Rattle.event_object.proofs.sections.letters_value.Goals as goal

pub returns : goal.returns
returns c = rw (c.as_str.ensures.value ∙ c.section_letters.ensures.text) at c.text_value.ensures
