use Rattle.event_object.proofs.sections.section_value.Goals as goal

pub returns : goal.returns
returns c =
    let with_pairs = c.with.ensures _ _ c.new.ensures (rw c.config.ensures at c.pairs_value.ensures) in
    let with_section = c.with-2.ensures _ _ with_pairs c.letters_value.ensures in
    c.build.ensures _ with_section
