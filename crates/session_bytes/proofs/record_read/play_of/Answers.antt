use Rattle.std.proofs.Common.{◌≡◌, ◌∙◌, ℕ, List, [], Option, Some, ap, sym, subst}
use Rattle.std.specs.Prelude.{unwrap_or}
use Rattle.bridge_auction.specs.Contract.{contract_of}
use Rattle.session_bytes.specs.Reading.{fields_in, plain_from, IsPlayed}
use Rattle.session_rules.specs.StateRange.{AreHands, AreHandsOrNone}
use Rattle.session_bytes.proofs.ReadRecords.{no_card, not_played, if_none}
use Rattle.session_bytes.proofs.record_read.play_of.Goals as goal

-- the deal that is there
dealt : (deal : Option (List ℕ)) (hands : List ℕ) → deal ≡ Some hands → AreHandsOrNone deal → AreHands hands
dealt deal hands is found = subst AreHandsOrNone is found

pub returns-in_err-cards-clause-none : goal.returns-in_err-cards-clause-none
returns-in_err-cards-clause-none c =
    let plain = plain_from c.args.board c.args.auction.now.calls (fields_in c.args.fields.now) in
    let contract = ap (λ d. contract_of d c.args.auction.now.calls) (sym c.requires.dealer) ∙ sym c.contract.ensures ∙ c.in-Some.is in
    let deal : AreHands c.in_ok-deal.deal = dealt c.args.deal c.in_ok-deal.deal c.in_ok-deal.was c.requires.deal in
    if_none c.from_residual-in_err-cards.result _ (λ played.
    not_played c.in_ok-deal.deal plain c.in-Some.contract contract
    (λ play. no_card c.in_ok-deal.deal c.in-Some.contract c.args.fields.now.cards.now deal play.legal c.in_err-cards.ensures.none)
    (subst (λ d. IsPlayed (unwrap_or d []) plain) c.in_ok-deal.was played))
