use Rattle.std.proofs.Common.{Ok, refl, sym, ap, ◌∙◌}
use Rattle.std.proofs.lemmas.Result.{err_from_is_err_and}
use Rattle.session_store.specs.Form.{place}
use Rattle.session_store.proofs.OpeningLemmas.{cause-from, found-not_formatted, not_memory}
use Rattle.session_store.proofs.LookingLemmas.{after-none, after-some}
use Rattle.session_store.proofs.looking.read_under.Goals as goal

pub returns-in_default-clause-unseen : goal.returns-in_default-clause-unseen
returns-in_default-clause-unseen g c = record {
  cause = found-not_formatted _ _ _ _ refl (λ honest. after-none g.K.Kept.kept _ _ c.in_default.is);
  memory = λ same honest. not_memory same;
}

pub returns-in_err-found-clause-unseen : goal.returns-in_err-found-clause-unseen
returns-in_err-found-clause-unseen g c =
    let p = err_from_is_err_and c.from_residual.result c.from_residual.ensures.1 in
    rw (p.1, p.2) (record {
      cause = cause-from _ _ _ _ _ _ _ _ (λ honest. honest) refl
          (λ honest is. after-some g.K.Kept.kept _ _ c.in-Some.header c.in-Some.is ∙ is) c.in_err-found.ensures.fault;
      memory = λ same honest. (c.in-Some.header, c.in-Some.is);
    })

pub returns-clause-seen : goal.returns-clause-seen
returns-clause-seen g c =
    let done = c.in_ok-found.ensures in
    let read = c.into_reading.ensures in
    record {
      no_fault = done.no_fault;
      state_of = λ honest.
          after-some g.K.Kept.kept _ _ c.in-Some.header c.in-Some.is ∙ done.found honest ∙ ap (λ s. Ok s) (sym read.state);
      stated = λ honest. (c.in-Some.header, c.in-Some.is, sym read.format, sym read.epoch);
      stands_at = read.sector ∙ ap place (sym read.epoch);
      counted = λ honest. rw (read.format, read.epoch, read.records) (done.counted honest);
    }
