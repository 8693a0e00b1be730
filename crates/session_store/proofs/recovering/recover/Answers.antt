use Rattle.std.proofs.Common.{sym, ap, ◌∙◌, arith}
use Rattle.std.proofs.lemmas.Result.{err_from_is_err_and}
use Rattle.sector_disk.proofs.ImageLaws.{image_is}
use Rattle.session_store.specs.Stands.{after_parts, parts_from}
use Rattle.session_store.proofs.OpeningLemmas.{cause-from, found-not_formatted, found-spent, reading-none, reading-spent, reading-some, not_memory, spent_not_memory}
use Rattle.session_store.proofs.recovering.recover.Goals as goal

pub returns-in_default-clause-unread : goal.returns-in_default-clause-unread
returns-in_default-clause-unread g c = record {
  cause = found-not_formatted _ _ _ _ c.in_ok-header.ensures.no_fault
      (λ honest. reading-none g.K.Kept.kept _ (sym c.in_default.is ∙ c.in_ok-header.ensures.found honest));
  memory = λ same honest. not_memory same;
}

pub returns-then-header-clause-unread : goal.returns-then-header-clause-unread
returns-then-header-clause-unread g c = record {
  cause = found-spent _ _ _ _ c.in_ok-header.ensures.no_fault
      (λ honest. reading-spent g.K.Kept.kept _ c.in-Some.header (sym c.in-Some.is ∙ c.in_ok-header.ensures.found honest) c.if-header.true);
  memory = λ same honest. spent_not_memory same;
}

pub returns-in_err-recover_from-clause-unread : goal.returns-in_err-recover_from-clause-unread
returns-in_err-recover_from-clause-unread g c =
    let kept = g.K.Kept.kept in
    let h = c.in-Some.header in
    let p = err_from_is_err_and c.from_residual-in_err-recover_from.result c.from_residual-in_err-recover_from.ensures.1 in
    rw (p.1, p.2) (record {
      cause = cause-from _ _ _ _ _ _ _ _ c.in_ok-header.ensures.quiet.remains.stays_honest c.in_ok-header.ensures.no_fault
          (λ honest is.
          let read = reading-some kept _ h (sym c.in-Some.is ∙ c.in_ok-header.ensures.found honest) c.if-header.false in
          let reads = image_is _ _ (c.in_ok-header.ensures.quiet.only_read honest).reads in
          read.0 ∙ read.1 ∙ ap (λ image. after_parts kept image h (parts_from h.format image h.epoch 0 h.parts)) (sym reads) ∙ is)
          c.in_err-recover_from.ensures.fault;
      memory = λ same honest. (h, sym (sym c.in-Some.is ∙ c.in_ok-header.ensures.found honest), c.if-header.false);
    })

pub returns-clause-read : goal.returns-clause-read
returns-clause-read g c =
    let kept = g.K.Kept.kept in
    let h = c.in-Some.header in
    let done = c.in_ok-recover_from.ensures in
    record {
      no_fault = done.no_fault ∙ c.in_ok-header.ensures.no_fault;
      more = omega (arith, done.epoch.0, c.if-header.false);
      same = done.epoch.1;
      state_of = λ honest.
          let read = reading-some kept _ h (sym c.in-Some.is ∙ c.in_ok-header.ensures.found honest) c.if-header.false in
          let reads = image_is _ _ (c.in_ok-header.ensures.quiet.only_read honest).reads in
          read.0 ∙ read.1 ∙ ap (λ image. after_parts kept image h (parts_from h.format image h.epoch 0 h.parts)) (sym reads)
          ∙ done.found (c.in_ok-header.ensures.quiet.remains.stays_honest honest);
      stands = λ honest.
          let read = reading-some kept _ h (sym c.in-Some.is ∙ c.in_ok-header.ensures.found honest) c.if-header.false in
          let reads = image_is _ _ (c.in_ok-header.ensures.quiet.only_read honest).reads in
          read.1 ∙ ap (λ image. after_parts kept image h (parts_from h.format image h.epoch 0 h.parts)) (sym reads)
          ∙ done.found (c.in_ok-header.ensures.quiet.remains.stays_honest honest);
      has_epoch = λ honest. (h, sym (sym c.in-Some.is ∙ c.in_ok-header.ensures.found honest), sym done.epoch.0);
    }
