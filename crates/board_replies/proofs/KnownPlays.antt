-- What is known of a play is what its record says.
use Rattle.std.proofs.Common.{◌≡◌, ℕ, ◌≤◌, List, length, Option, Some, None, refl, ap, ◌∙◌, subst}
use Rattle.std.specs.Prelude.{IfSome}
use Rattle.std.specs.Option.{option_map}
use Rattle.bridge_auction.specs.Auction.{AuctionValue}
use Rattle.bridge_movement.specs.declared.row.Row.{Row}
use Rattle.bridge_play.specs.Play.{PlayValue}
use Rattle.session_rules.specs.declared.outcome.Outcome.{Outcome}
use Rattle.session_rules.specs.Outcome.{outcome_of, HasFewTricks}
use Rattle.session_rules.specs.Record.{PlainRecord, bidding_of, play_of}
use Rattle.session_rules.specs.State.{SessionValue, deal_on, hands_on}
use Rattle.bridge_results.proofs.Known.{IsRecordAt, few_tricks}
use Rattle.board_replies.specs.KnownPlay.{KnownPlay, known_in}

-- of the record that was found so much is known
pub known_is : (s : SessionValue) (board : ℕ) (hands : Option (List ℕ)) (auction : AuctionValue) (play : Option PlayValue) (outcome : Outcome) (found : Option PlainRecord)
    → ((plain : PlainRecord) → found ≡ Some plain → board ≡ plain.board) → hands ≡ deal_on s.deals board
    → Some auction ≡ option_map bidding_of found → Some play ≡ option_map (λ (plain : PlainRecord). play_of (hands_on s.deals plain.board) plain) found → Some outcome ≡ option_map outcome_of found
    → Some (record { board = board; hands = hands; calls = auction.calls; play = play; outcome = outcome }) ≡ option_map (known_in s.deals) found
known_is s board hands auction play outcome None at dealt called played came = absurd cc
known_is s board hands auction play outcome (Some plain) at dealt called played came =
    let board_is : board ≡ plain.board = at plain refl in
    let hands_is : hands ≡ deal_on s.deals plain.board = dealt ∙ ap (deal_on s.deals) board_is in
    let auction_is : auction ≡ bidding_of plain = cc in
    let calls_is : auction.calls ≡ plain.calls = ap (λ (bidding : AuctionValue). bidding.calls) auction_is in
    let play_is : play ≡ play_of (hands_on s.deals plain.board) plain = cc in
    let outcome_is : outcome ≡ outcome_of plain = cc in
    rw (board_is, hands_is, calls_is, play_is, outcome_is) refl

-- where there is no record nothing is known
pub none_known : (s : SessionValue) (found : Option PlainRecord) → ◌≡◌ {A = Option Outcome} None (option_map outcome_of found) → ◌≡◌ {A = Option KnownPlay} None (option_map (known_in s.deals) found)
none_known s None none = refl
none_known s (Some plain) none = absurd cc

-- what came of the play has 13 tricks at most
pub known_few : (s : SessionValue) (row : Row) (index : ℕ) (play : Option PlayValue) (outcome : Outcome) (found : Option PlainRecord) → ((plain : PlainRecord) → found ≡ Some plain → IsRecordAt s row index plain)
    → Some play ≡ option_map (λ (plain : PlainRecord). play_of (hands_on s.deals plain.board) plain) found → Some outcome ≡ option_map outcome_of found
    → IfSome play (λ (known : PlayValue). length known.cards ≤ 52) → HasFewTricks outcome
known_few s row index play outcome None at played came few = absurd cc
known_few s row index play outcome (Some plain) at played came few =
    let is = at plain refl in
    let hands = hands_on s.deals plain.board in
    let outcome_is : outcome_of plain ≡ outcome = cc in
    let play_is : play ≡ play_of hands plain = cc in
    let few_cards : IfSome (play_of hands plain) (λ (known : PlayValue). length known.cards ≤ 52) =
    subst (λ (p : Option PlayValue). IfSome p (λ (known : PlayValue). length known.cards ≤ 52)) play_is few in
    subst HasFewTricks outcome_is (few_tricks hands plain is.ranges.ruling few_cards is.valid.play)
