use Rattle.std.proofs.Common.{◌≡◌, ◌==◌, true, false, not, Some, Ok, sym, ap, ◌∙◌, subst}
use Rattle.std.specs.Prelude.{map, slice_get, slice_index_or}
use Rattle.std.proofs.lemmas.Bool.{eqb-true}
use Rattle.std.proofs.lemmas.List.Elements.{All-set}
use Rattle.bridge_table.specs.declared.record.Record.{Record}
use Rattle.session_rules.specs.Deed.{deed_answer}
use Rattle.session_rules.specs.State.{deal_on, current_index}
use Rattle.session_rules.proofs.PlayerAnswer.{answer_current}
use Rattle.bridge_table.specs.Kept.{plain_of, after_deed, IsTiedIn}
use Rattle.std.specs.Option.{option_copied}
use Rattle.std.proofs.lemmas.Result.{err_from_is_err_and}
use Rattle.session_rules.specs.declared.refused.Refused.TheVariants.{NotCurrent, NotDealt}
use Rattle.session_rules.proofs.Lists.{some_or, none_or, at_result, map_ok, not_true, not_false}
use Rattle.bridge_table.proofs.Among.{none_current, current_is, tied_there, other_board, not_dealt, answer_there, after_there, tied_after, one_board, acted_is}
use Rattle.bridge_table.proofs.Tied.{IsAfter}
use Rattle.bridge_table.proofs.table.act_among.Goals as goal
use Rattle.bridge_table.proofs.table.act_among.Goals.{After-act}

pub returns-in_err-index-clause-answer : goal.returns-in_err-index-clause-answer
returns-in_err-index-clause-answer c =
    let p = err_from_is_err_and c.from_residual.result c.from_residual.ensures.1 in
    let none = none_or c.current.result NotCurrent _ (sym c.ok_or.ensures.value ∙ c.in_err-index.was) in
    let found = none_current c.args.deals.now c.args.table.now c.requires (sym c.current.ensures ∙ none.0) in
    rw (p.1, p.2, none.1) (sym (ap (answer_current (deal_on c.args.deals.now c.args.board) c.args.board c.args.seat c.args.at c.args.deed) found))

pub returns-then-ne-clause-answer : goal.returns-then-ne-clause-answer
returns-then-ne-clause-answer c =
    let kept = c.index-table-index.result in
    let deal = deal_on c.args.deals.now c.args.board in
    let found = current_is c.args.deals.now c.args.table.now c.in_ok-index.index kept c.requires (sym c.current.ensures ∙ some_or c.current.result NotCurrent c.in_ok-index.index (sym c.ok_or.ensures.value ∙ c.in_ok-index.was)) c.index-table-index.is in
    let is_other : not (kept.board == c.args.board) ≡ true =
    ap (λ (k : Record). not (k.board == c.args.board)) c.index-table-index.is ∙ sym c.ne.ensures ∙ c.if-ne.true in
    sym (ap (answer_current deal c.args.board c.args.seat c.args.at c.args.deed) found
    ∙ other_board deal kept c.args.board c.args.seat c.args.at c.args.deed (not_true (kept.board == c.args.board) is_other))

pub returns-in_err-deal-clause-answer : goal.returns-in_err-deal-clause-answer
returns-in_err-deal-clause-answer c =
    let p = err_from_is_err_and c.from_residual-in_err-deal.result c.from_residual-in_err-deal.ensures.1 in
    let kept = c.index-table-index.result in
    let deal = deal_on c.args.deals.now c.args.board in
    let none = none_or c.deal_on.result NotDealt _ (sym c.ok_or-2.ensures.value ∙ c.in_err-deal.was) in
    let found = current_is c.args.deals.now c.args.table.now c.in_ok-index.index kept c.requires (sym c.current.ensures ∙ some_or c.current.result NotCurrent c.in_ok-index.index (sym c.ok_or.ensures.value ∙ c.in_ok-index.was)) c.index-table-index.is in
    let is_same : not (kept.board == c.args.board) ≡ false =
    ap (λ (k : Record). not (k.board == c.args.board)) c.index-table-index.is ∙ sym c.ne.ensures ∙ c.if-ne.false in
    rw (p.1, p.2, none.1) (sym (ap (answer_current deal c.args.board c.args.seat c.args.at c.args.deed) found
    ∙ not_dealt deal kept c.args.board c.args.seat c.args.at c.args.deed (not_false (kept.board == c.args.board) is_same) (sym c.deal_on.ensures ∙ ap option_copied none.0)))

-- the record of the current play, and what is known of it where the player may act
pub record IsThere (c : After-act) : Type 0 where
  pub test : (c.index-table-index-2.result.board == c.args.board) ≡ true
  pub board : c.index-table-index-2.result.board ≡ c.args.board
  pub tied : IsTiedIn c.args.deals.now c.index-table-index-2.result
  pub dealt : deal_on c.args.deals.now c.args.board ≡ Some c.in_ok-deal.deal.now
  pub found : slice_get (map plain_of c.args.table.now) (current_index (map plain_of c.args.table.now)) ≡ Some (plain_of c.index-table-index-2.result)
  pub answer : c.act.result ≡ deed_answer c.index-table-index-2.result.auction c.index-table-index-2.result.play c.args.seat c.args.at c.args.deed

is_there : (c : After-act) → IsThere c
is_there c =
    let kept = c.index-table-index.result in
    let again = c.index-table-index-2.result in
    let table = c.args.table.now in
    let index = c.in_ok-index.index in
    let at = sym c.current.ensures ∙ some_or c.current.result NotCurrent c.in_ok-index.index (sym c.ok_or.ensures.value ∙ c.in_ok-index.was) in
    let found = current_is c.args.deals.now table index again c.requires at c.index-table-index-2.is in
    let found_first = current_is c.args.deals.now table index kept c.requires at c.index-table-index.is in
    let one : again.board ≡ kept.board = one_board again kept (sym found ∙ found_first) in
    let is_same : not (kept.board == c.args.board) ≡ false =
    ap (λ (k : Record). not (k.board == c.args.board)) c.index-table-index.is ∙ sym c.ne.ensures ∙ c.if-ne.false in
    let test = ap (λ b. b == c.args.board) one ∙ not_false (kept.board == c.args.board) is_same in
    record {
      test = test;
      board = eqb-true again.board c.args.board test;
      tied = tied_there c.args.deals.now table index again c.requires at c.index-table-index-2.is;
      dealt = sym c.deal_on.ensures ∙ ap option_copied (some_or c.deal_on.result NotDealt c.in_ok-deal.deal (sym c.ok_or-2.ensures.value ∙ c.in_ok-deal.was));
      found = found;
      answer = c.act.ensures.answer ∙ ap (λ (k : Record). deed_answer k.auction k.play c.args.seat c.args.at c.args.deed) (sym c.index-table-index-2.is);
    }

pub returns-clause-answer : goal.returns-clause-answer
returns-clause-answer c =
    let there = is_there c in
    let kept = c.index-table-index-2.result in
    let deal = deal_on c.args.deals.now c.args.board in
    there.answer
    ∙ sym (ap (answer_current deal c.args.board c.args.seat c.args.at c.args.deed) there.found
    ∙ answer_there c.args.deals.now kept c.in_ok-deal.deal.now c.args.board c.args.seat c.args.at c.args.deed there.tied there.test there.board there.dealt)

-- what an accepted act leaves
left_there : (c : After-act) → c.act.result ≡ Ok tt → IsAfter c.in_ok-deal.deal.now c.args.seat c.args.deed c.index-table-index-2.result
left_there c ok =
    let there = is_there c in
    after_there c.args.deals.now c.index-table-index-2.result c.in_ok-deal.deal.now c.args.board c.args.seat c.args.at c.args.deed there.tied there.board there.dealt (sym there.answer ∙ ok)

-- it is the record after the act
left_is : (c : After-act) → (after : Record) → after ≡ after_deed c.in_ok-deal.deal.now c.args.seat c.args.deed (slice_index_or c.args.table.now c.in_ok-index.index c.index-table-index-2.result) → after ≡ after_deed c.in_ok-deal.deal.now c.args.seat c.args.deed c.index-table-index-2.result
left_is c after is = is ∙ ap (after_deed c.in_ok-deal.deal.now c.args.seat c.args.deed) (sym c.index-table-index-2.is)

pub returns-clause-taken : goal.returns-clause-taken
returns-clause-taken c =
    map_ok _ _ c.act.result c.act.ensures.taken
    (λ ok is.
    let left = left_there c ok in
    acted_is c.args.deals.now c.args.table.now c.in_ok-index.index c.index-table-index-2.result c.act.new.self c.args.seat c.args.deed c.requires (sym c.current.ensures ∙ some_or c.current.result NotCurrent c.in_ok-index.index (sym c.ok_or.ensures.value ∙ c.in_ok-index.was)) c.index-table-index-2.is
    (ap plain_of (left_is c c.act.new.self is) ∙ left.plain))

pub returns-clause-tied : goal.returns-clause-tied
returns-clause-tied c =
    let deals = c.args.deals.now in
    let table = c.args.table.now in
    let there = is_there c in
    let now : IsTiedIn deals c.act.new.self =
    at_result _ _ (IsTiedIn deals c.act.new.self) c.act.result c.act.ensures.taken c.act.ensures.refused
    (λ ok is.
    subst (IsTiedIn deals) (sym (left_is c c.act.new.self is))
    (tied_after deals c.index-table-index-2.result c.in_ok-deal.deal.now c.args.board c.args.seat c.args.deed there.board there.dealt (left_there c ok)))
    (λ same. subst (IsTiedIn deals) (c.index-table-index-2.is ∙ sym same) there.tied) in
    All-set (IsTiedIn deals) table c.in_ok-index.index c.act.new.self now c.requires
