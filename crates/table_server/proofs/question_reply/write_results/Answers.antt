use Rattle.std.proofs.Common.{◌∙◌, ◌∷◌, inl, inr, refl, sym, ap}
use Rattle.session_rules.specs.State.{director_answer}
use Rattle.table_server.specs.PbnReply.{text_and_stop}
use Rattle.table_server.proofs.question_reply.write_results.Goals as goal

pub returns-in-Err-clause-told : goal.returns-in-Err-clause-told
returns-in-Err-clause-told g c = (
  c.refusal_text.result.bytes,
  inr ((
    c.in-Err.refused,
    ap (λ configuration. director_answer configuration c.args.key.0) (sym c.config.ensures) ∙ sym c.check_director.ensures ∙ c.in-Err.is,
    c.refusal_text.ensures,
  )),
  rw c.as_str.ensures.value at c.write_whole.ensures.written,
)

pub returns-in-Err-write_pbn_reply-clause-told : goal.returns-in-Err-write_pbn_reply-clause-told
returns-in-Err-write_pbn_reply-clause-told g c = (
  79 ∷ 75 ∷ 10 ∷ text_and_stop c.args.session.now,
  inl ((
    ap (λ configuration. director_answer configuration c.args.key.0) (sym c.config.ensures) ∙ sym c.check_director.ensures ∙ c.in-Ok.is,
    refl,
  )),
  c.in-Err-write_pbn_reply.ensures,
)
