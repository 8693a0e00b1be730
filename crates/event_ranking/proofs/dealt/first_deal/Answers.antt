use Rattle.std.proofs.Common.{◌≡◌, ◌+◌, ℕ, List, get_or, drop, Option, Some, None, sym, ap, ◌∙◌}
use Rattle.std.specs.Option.{option_copied, option_or}
use Rattle.std.proofs.Math.ListN.{drop_of_length-le}
use Rattle.session_rules.specs.State.{SessionValue, deal_on}
use Rattle.event_ranking.specs.Dealt.{first_deal}
use Rattle.event_ranking.proofs.Deals.{deal_next}
use Rattle.event_ranking.proofs.dealt.first_deal.Goals as goal

pub returns-in-Some : goal.returns-in-Some
returns-in-Some c =
    let sections = c.args.sections.now in
    let board = c.args.board in
    let i = c.loop-session.session-index in
    let item = c.session-item.result in
    let later = first_deal (drop (i + 1) sections) board in
    let known : deal_on (get_or sections i item).deals board ≡ Some c.in-Some.deal.now
    = ap (λ (s : SessionValue). deal_on s.deals board) (sym c.session-item.is) ∙ sym c.deal.ensures ∙ ap option_copied c.in-Some.is in
    sym (c.loop-session.invariant ∙ deal_next sections board i item c.loop-session-test.true ∙ ap (λ (o : Option (List ℕ)). option_or o later) known)

pub loop-session-preserved : goal.loop-session-preserved
loop-session-preserved c =
    let sections = c.args.sections.now in
    let board = c.args.board in
    let i = c.loop-session.session-index in
    let item = c.session-item.result in
    let later = first_deal (drop (i + 1) sections) board in
    let none : deal_on (get_or sections i item).deals board ≡ None
    = ap (λ (s : SessionValue). deal_on s.deals board) (sym c.session-item.is) ∙ sym c.deal.ensures ∙ ap option_copied c.in_default.is in
    c.loop-session.invariant ∙ deal_next sections board i item c.loop-session-test.true ∙ ap (λ (o : Option (List ℕ)). option_or o later) none

pub returns : goal.returns
returns c =
    sym (c.loop-session.invariant ∙ ap (λ (ss : List SessionValue). first_deal ss c.args.board) (drop_of_length-le c.args.sections.now c.loop-session-test.false))
