use Rattle.std.proofs.Common.{◌∙◌}
use Rattle.table_server.specs.declared.asked.Question.TheVariants.{See}
use Rattle.table_pages.proofs.ToldNow.{place_of_word, told_player, untold_player}
use Rattle.table_pages.proofs.waiting.is_told_to_player.Goals as goal

pub returns-clause-still : goal.returns-clause-still
returns-clause-still c =
    let s = c.args.session.now in
    λ holds. told_player s c.args.desk.now c.args.key c.args.text.now _ _ _ _ c.view_text-seen.ensures
    (c.as_bytes.ensures.value ∙ c.as_str.ensures.value ∙ c.push_place.ensures ∙ place_of_word s c.args.word.now c.args.key c.requires)
    (c.as_bytes-2.ensures.value ∙ c.as_str-2.ensures.value) (c.as_bytes-3.ensures.value ∙ c.as_str-3.ensures.value ∙ c.standing_lines-lines.ensures) (c.is_all.ensures.same holds)

pub returns-clause-other : goal.returns-clause-other
returns-clause-other c =
    let s = c.args.session.now in
    λ fails. untold_player s c.args.desk.now c.args.key c.args.text.now _ _ _ _ (λ one other. c.a_question_has_one_answer.ensures s (See c.args.key) one other) c.view_text-seen.ensures
    (c.as_bytes.ensures.value ∙ c.as_str.ensures.value ∙ c.push_place.ensures ∙ place_of_word s c.args.word.now c.args.key c.requires)
    (c.as_bytes-2.ensures.value ∙ c.as_str-2.ensures.value) (c.as_bytes-3.ensures.value ∙ c.as_str-3.ensures.value ∙ c.standing_lines-lines.ensures) (c.is_all.ensures.other fails)
