use Rattle.std.proofs.Common.{◌∷◌, [], refl, subst}
use Rattle.table_server.specs.declared.asked.Question.TheVariants as question
use Rattle.table_server.specs.Told.{Tells}
use Rattle.table_server.proofs.question_reply.write_answer.Goals as goal

pub returns-in-Sync-clause-told : goal.returns-in-Sync-clause-told
returns-in-Sync-clause-told g c = rw c.in-Sync.is (79 ∷ 75 ∷ 10 ∷ [], refl, c.write_whole.ensures.written)

pub returns-in-See-clause-told : goal.returns-in-See-clause-told
returns-in-See-clause-told g c =
    let text = c.view_text.result.bytes in
    let tells = subst (λ state. Tells state (question.See c.in-See.key) text) c.state-session.ensures.state c.view_text.ensures in
    rw c.in-See.is (text, tells, rw c.as_str.ensures.value at c.write_whole-in-See.ensures.written)

pub returns-in-Rank-clause-told : goal.returns-in-Rank-clause-told
returns-in-Rank-clause-told g c =
    let text = c.ranking_text.result.bytes in
    let tells = subst (λ state. Tells state (question.Rank c.in-Rank.key c.in-Rank.field) text) c.state-session.ensures.state c.ranking_text.ensures in
    rw c.in-Rank.is (text, tells, rw c.as_str-in-Rank.ensures.value at c.write_whole-in-Rank.ensures.written)

pub returns-in-Solve-clause-told : goal.returns-in-Solve-clause-told
returns-in-Solve-clause-told g c =
    let text = c.worth_text-text.result.bytes in
    let tells = subst (λ state. Tells state (question.Solve c.in-Solve.key c.in-Solve.play c.in-Solve.cards) text) c.state-session.ensures.state
    c.worth_text-text.ensures in
    rw c.in-Solve.is (text, tells, rw c.as_str-in-Solve.ensures.value at c.write_whole-in-Solve.ensures.written)

pub returns-in-Pbn-clause-told : goal.returns-in-Pbn-clause-told
returns-in-Pbn-clause-told g c =
    let told = c.write_results.ensures.told in
    let tells = subst (λ state. Tells state (question.Pbn c.in-Pbn.key) told.0) c.state-session.ensures.state told.1 in
    rw c.in-Pbn.is (told.0, tells, told.2)
