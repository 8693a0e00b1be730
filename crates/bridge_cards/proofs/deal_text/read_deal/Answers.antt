use Rattle.std.proofs.Common.{ap, ◌∙◌}
use Rattle.std.specs.Result.{result_ok}
use Rattle.bridge_cards.proofs.DealLemmas.{deal_once}
use Rattle.bridge_cards.proofs.JudgedDeals.{judged_text}
use Rattle.bridge_cards.proofs.deal_text.read_deal.Goals as goal

pub returns-clause-judged : goal.returns-clause-judged
returns-clause-judged c =
    judged_text c.args.text.now c.in_ok-ok_or.field-0 c.from_hands.result c.read_hands.result
    (c.ok_or.ensures.ok_part ∙ ap result_ok c.in_ok-ok_or.was) c.read_hands.ensures.hands c.from_hands.ensures.judged

pub returns-in_err-ok_or-clause-once : goal.returns-in_err-ok_or-clause-once
returns-in_err-ok_or-clause-once c = λ hands spelled other. λ spelled'. deal_once other hands c.args.text.now spelled' spelled

pub returns-clause-once : goal.returns-clause-once
returns-clause-once c = λ hands spelled other. λ spelled'. deal_once other hands c.args.text.now spelled' spelled
