use Rattle.std.proofs.Common.{◌∙◌, sym}
use Rattle.table_pages.proofs.ToldNow.{tables_of_word, told_director}
use Rattle.table_pages.proofs.waiting.is_told_to_director.Goals as goal

pub returns-clause-still : goal.returns-clause-still
returns-clause-still c =
    let s = c.args.session.now in
    λ holds. c.is_both.ensures.same holds ∙ told_director s c.args.desk.now c.args.key _ _
    (c.as_bytes.ensures.value ∙ c.as_str.ensures.value ∙ c.push_tables.ensures ∙ tables_of_word s c.args.word.now c.args.key c.requires)
    (c.as_bytes-2.ensures.value ∙ c.as_str-2.ensures.value ∙ c.standing_lines-standing.ensures)

pub returns-clause-other : goal.returns-clause-other
returns-clause-other c =
    let s = c.args.session.now in
    λ fails told. c.is_both.ensures.other fails (told ∙ sym (told_director s c.args.desk.now c.args.key _ _
    (c.as_bytes.ensures.value ∙ c.as_str.ensures.value ∙ c.push_tables.ensures ∙ tables_of_word s c.args.word.now c.args.key c.requires)
    (c.as_bytes-2.ensures.value ∙ c.as_str-2.ensures.value ∙ c.standing_lines-standing.ensures)))
