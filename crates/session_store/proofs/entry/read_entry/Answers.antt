use Rattle.std.proofs.Common.{[], sym, ap, ◌∙◌}
use Rattle.session_store.specs.Form.{sector, payload_in}
use Rattle.session_store.proofs.ReadLemmas.{entry_in-unlabelled, entry_in-damaged, entry_in-no_action, entry_in-action}
use Rattle.session_store.proofs.entry.read_entry.Goals as goal

pub returns-then-ne : goal.returns-then-ne
returns-then-ne g c =
    let empty = c.make_sector-empty.ensures ∙ ap (λ mark. sector mark c.args.epoch c.args.number []) c.record_mark-mark.ensures in
    sym (entry_in-unlabelled g.K.Kept.kept c.args.format _ _ c.args.bytes.now _ empty (sym c.ne.ensures ∙ c.if-ne.true))

pub returns-in-None : goal.returns-in-None
returns-in-None g c =
    let empty = c.make_sector-empty.ensures ∙ ap (λ mark. sector mark c.args.epoch c.args.number []) c.record_mark-mark.ensures in
    let none = c.in-None.ensures.payload
    ∙ ap (λ mark. payload_in mark c.args.epoch c.args.number c.args.bytes.now) c.record_mark-mark.ensures in
    sym (entry_in-damaged g.K.Kept.kept c.args.format _ _ c.args.bytes.now _ empty (sym c.ne.ensures ∙ c.if-ne.false) none)

pub returns-in-None-read_action : goal.returns-in-None-read_action
returns-in-None-read_action g c =
    let empty = c.make_sector-empty.ensures ∙ ap (λ mark. sector mark c.args.epoch c.args.number []) c.record_mark-mark.ensures in
    let some = c.in-Some.ensures.payload
    ∙ ap (λ mark. payload_in mark c.args.epoch c.args.number c.args.bytes.now) c.record_mark-mark.ensures in
    sym (entry_in-no_action g.K.Kept.kept c.args.format _ _ c.args.bytes.now _ empty (sym c.ne.ensures ∙ c.if-ne.false)
    _ some c.in-None-read_action.ensures)

pub returns-in-Some-read_action : goal.returns-in-Some-read_action
returns-in-Some-read_action g c =
    let empty = c.make_sector-empty.ensures ∙ ap (λ mark. sector mark c.args.epoch c.args.number []) c.record_mark-mark.ensures in
    let some = c.in-Some.ensures.payload
    ∙ ap (λ mark. payload_in mark c.args.epoch c.args.number c.args.bytes.now) c.record_mark-mark.ensures in
    sym (entry_in-action g.K.Kept.kept c.args.format _ _ c.args.bytes.now _ empty (sym c.ne.ensures ∙ c.if-ne.false)
    _ some _ c.in-Some-read_action.ensures)
