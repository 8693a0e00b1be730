use Rattle.std.proofs.Common.{Ok, Err, refl, sym, ap, subst, ◌∙◌, map}
use Rattle.std.proofs.lemmas.Result.{err_from_is_err_and}
use Rattle.sector_disk.specs.Disk.{Image}
use Rattle.sector_disk.proofs.ImageLaws.{image_is}
use Rattle.session_store.specs.Looking.{CountsRecords}
use Rattle.session_store.specs.Stands.{replay}
use Rattle.session_store.specs.declared.fault.StoreFault.TheVariants.{Damaged}
use Rattle.session_store.proofs.OpeningLemmas.{cause-from, found-damaged, after_parts-err, after_parts-bad, after_parts-ok}
use Rattle.session_store.proofs.recovering.recover_from.Goals as goal

pub returns-in_err-parts-clause-fault : goal.returns-in_err-parts-clause-fault
returns-in_err-parts-clause-fault g c =
    let p = err_from_is_err_and c.from_residual-in_err-parts.result c.from_residual-in_err-parts.ensures.1 in
    rw (p.1, p.2) (cause-from _ _ _ _ _ _ _ _ (λ honest. honest) refl
    (λ honest is. after_parts-err g.K.Kept.kept _ c.args.header _ _ is) c.in_err-parts.ensures.fault)

pub returns-in_err-records-clause-fault : goal.returns-in_err-records-clause-fault
returns-in_err-records-clause-fault g c =
    let kept = g.K.Kept.kept in
    let p = err_from_is_err_and c.from_residual-in_err-records.result c.from_residual-in_err-records.ensures.1 in
    rw (p.1, p.2) (cause-from _ _ _ _ _ _ _ _ c.in_ok-parts.ensures.quiet.remains.stays_honest c.in_ok-parts.ensures.no_fault
    (λ honest is.
    let payloads = c.in_ok-parts.ensures.parts honest ∙ ap (λ xs. Ok (map (λ part. part.items) xs)) (sym c.as_slice.ensures.value) in
    let reads = image_is _ _ (c.in_ok-parts.ensures.quiet.only_read honest).reads in
    after_parts-ok kept _ c.args.header _ _ _ payloads (rw c.in-Some.is at c.in_ok-base.ensures.state)
    ∙ ap (λ image. replay kept c.args.header.format 1024 image c.args.header.epoch 0 c.in-Some.state) (sym reads) ∙ is)
    c.in_err-records.ensures.fault)

pub returns-in_default-clause-fault : goal.returns-in_default-clause-fault
returns-in_default-clause-fault g c =
    found-damaged _ _ _ _ c.in_ok-parts.ensures.no_fault _ _ refl
    (λ honest.
    let payloads = c.in_ok-parts.ensures.parts honest ∙ ap (λ xs. Ok (map (λ part. part.items) xs)) (sym c.as_slice.ensures.value) in
    after_parts-bad g.K.Kept.kept _ c.args.header _ _ payloads (rw c.in_default.is at c.in_ok-base.ensures.none)
    ∙ ap (λ at. Err (Damaged at)) (sym c.place_of.ensures.place))

pub returns-clause-found : goal.returns-clause-found
returns-clause-found g c = λ honest.
    let kept = g.K.Kept.kept in
    let payloads = c.in_ok-parts.ensures.parts honest ∙ ap (λ xs. Ok (map (λ part. part.items) xs)) (sym c.as_slice.ensures.value) in
    let reads = image_is _ _ (c.in_ok-parts.ensures.quiet.only_read honest).reads in
    after_parts-ok kept _ c.args.header _ _ _ payloads (rw c.in-Some.is at c.in_ok-base.ensures.state)
    ∙ ap (λ image. replay kept c.args.header.format 1024 image c.args.header.epoch 0 c.in-Some.state) (sym reads)
    ∙ c.in_ok-records.ensures.replayed (c.in_ok-parts.ensures.quiet.remains.stays_honest honest)

pub returns-clause-counted : goal.returns-clause-counted
returns-clause-counted g c = λ honest.
    let h = c.args.header in
    let quiet = c.in_ok-parts.ensures.quiet in
    subst (λ (image : Image). CountsRecords g.K.Kept.kept h.format image h.epoch c.in_ok-records.records) (image_is _ _ (quiet.only_read honest).reads)
    (c.in_ok-records.ensures.counted (quiet.remains.stays_honest honest))
