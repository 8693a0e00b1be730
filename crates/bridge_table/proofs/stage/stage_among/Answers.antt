use Rattle.std.proofs.Common.{◌≡◌, [], Some, Ok, Err, sym, ap, ◌∙◌}
use Rattle.std.specs.Prelude.{map, unwrap_or}
use Rattle.std.specs.Option.{option_copied}
use Rattle.std.proofs.lemmas.Result.{err_from_is_err_and}
use Rattle.session_rules.specs.declared.refused.Refused.TheVariants.{NotCurrent, NotDealt}
use Rattle.session_rules.specs.Record.{play_of}
use Rattle.session_rules.specs.State.{deal_on, current_index}
use Rattle.session_rules.proofs.Lists.{some_or, none_or}
use Rattle.bridge_table.specs.Kept.{plain_of}
use Rattle.bridge_table.specs.Stage.{stage_kept}
use Rattle.bridge_table.proofs.Among.{none_current, current_is, tied_there}
use Rattle.bridge_table.proofs.Stages.{stage_current, stage_dealt, stage_is}
use Rattle.bridge_table.proofs.stage.stage_among.Goals as goal

pub returns-in_err-index : goal.returns-in_err-index
returns-in_err-index c =
    let p = err_from_is_err_and c.from_residual.result c.from_residual.ensures.1 in
    let none = none_or c.current.result NotCurrent _ (sym c.ok_or.ensures.value ∙ c.in_err-index.was) in
    let records = map plain_of c.args.table.now in
    p.1 ∙ ap Err (p.2 ∙ none.1) ∙ sym (ap (stage_current c.args.deals.now c.args.seat (current_index records)) (none_current c.args.deals.now c.args.table.now c.requires.tied (sym c.current.ensures ∙ none.0)))

pub returns-in_err-_deal : goal.returns-in_err-_deal
returns-in_err-_deal c =
    let p = err_from_is_err_and c.from_residual-in_err-_deal.result c.from_residual-in_err-_deal.ensures.1 in
    let none = none_or c.deal_on.result NotDealt _ (sym c.ok_or-2.ensures.value ∙ c.in_err-_deal.was) in
    let deals = c.args.deals.now in
    let kept = c.index-table-index.result in
    let index = current_index (map plain_of c.args.table.now) in
    let found = current_is deals c.args.table.now c.in_ok-index.index kept c.requires.tied (sym c.current.ensures ∙ some_or c.current.result NotCurrent c.in_ok-index.index (sym c.ok_or.ensures.value ∙ c.in_ok-index.was)) c.index-table-index.is in
    p.1 ∙ ap Err (p.2 ∙ none.1)
    ∙ sym (ap (stage_current deals c.args.seat index) found ∙ ap (stage_dealt c.args.seat index (plain_of kept)) (sym c.deal_on.ensures ∙ ap option_copied none.0))

pub returns : goal.returns
returns c =
    let deals = c.args.deals.now in
    let table = c.args.table.now in
    let seat = c.args.seat in
    let kept = c.index-table-index.result in
    let hands = c.in_ok-_deal._deal.now in
    let index = current_index (map plain_of table) in
    let at = sym c.current.ensures ∙ some_or c.current.result NotCurrent c.in_ok-index.index (sym c.ok_or.ensures.value ∙ c.in_ok-index.was) in
    let found = current_is deals table c.in_ok-index.index kept c.requires.tied at c.index-table-index.is in
    let tied = tied_there deals table c.in_ok-index.index kept c.requires.tied at c.index-table-index.is in
    let dealt : deal_on deals kept.board ≡ Some hands = sym c.deal_on.ensures ∙ ap option_copied (some_or c.deal_on.result NotDealt c.in_ok-_deal._deal (sym c.ok_or-2.ensures.value ∙ c.in_ok-_deal.was)) in
    let play : kept.play ≡ play_of hands (plain_of kept) = tied.tied.play ∙ ap (λ o. play_of (unwrap_or o []) (plain_of kept)) dealt in
    ap Ok (c.stage_of.ensures ∙ ap (stage_kept seat) play ∙ sym (stage_is index seat hands (plain_of kept)))
    ∙ sym (ap (stage_current deals seat index) found ∙ ap (stage_dealt seat index (plain_of kept)) dealt)
