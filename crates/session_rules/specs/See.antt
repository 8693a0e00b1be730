-- What a player is shown.
use Rattle.std.specs.Prelude.{ℕ, ◌+◌, ◌-◌, ◌==◌, if◌then◌else◌, ok_or, List, [], length, filter, slice_get, Option, None, Some, Result, Ok}
use Rattle.std.specs.Option.{option_map, option_map_or}
use Rattle.bridge_cards.specs.declared.seat.Seat.{Seat}
use Rattle.bridge_cards.specs.declared.seat.Side.TheVariants.{NorthSouth, EastWest}
use Rattle.bridge_cards.specs.Seat.{clockwise_from}
use Rattle.bridge_cards.specs.Board.{dealer_of}
use Rattle.bridge_cards.specs.CardSet.{deck}
use Rattle.bridge_auction.specs.declared.call.Call.{Call}
use Rattle.bridge_auction.specs.declared.contract.Contract.{Contract}
use Rattle.bridge_play.specs.declared.claim.Claim.{Claim}
use Rattle.bridge_play.specs.Dummy.{dummy_of}
use Rattle.bridge_play.specs.Legal.{holds}
use Rattle.bridge_play.specs.Play.{PlayValue}
use Rattle.bridge_play.specs.Trick.{leader_of, trick_at, whole_tricks, tricks_won}
use Rattle.session_rules.specs.declared.refused.Refused.{Refused}
use Rattle.session_rules.specs.declared.refused.Refused.TheVariants.{NotCurrent, NotDealt}
use Rattle.bridge_config.specs.Then.{◌>>=◌}
use Rattle.session_rules.specs.Record.{PlainRecord, play_of}
use Rattle.session_rules.specs.State.{SessionValue, Deals, deal_on, row_at, current_index, seating_of}

-- the seat that led to a trick, and its cards in order
pub record PlainTrick : Type 0 where
  pub leader : Seat
  pub cards : List ℕ

-- What a player may be shown of a play in which there is a contract: the trick that is not whole, the last whole trick,
-- the whole tricks of both sides, and once a card was played dummy's cards.
pub record ShownPlay : Type 0 where
  pub trick : PlainTrick
  pub last : Option PlainTrick
  pub tricks_ns : ℕ
  pub tricks_ew : ℕ
  pub dummy : Option (List ℕ)

-- All that a player may be shown of the current play of the table: the index of the play among the table's, the board,
-- the calls, how many cards and claims were made, the claim, the viewer's cards that are left, and what may be shown of
-- the play of the cards. No other card is in it.
pub record Shown : Type 0 where
  pub index : ℕ
  pub board : ℕ
  pub calls : List Call
  pub cards_made : ℕ
  pub claims_made : ℕ
  pub claim : Option Claim
  pub hand : List ℕ
  pub play : Option ShownPlay

-- the cards, in order, that a seat still holds
abbrev pub cards_left : List ℕ → List ℕ → Seat → List ℕ
cards_left hands cards seat = filter (holds hands cards seat) deck

-- a trick of the cards, the tricks counted from 0
abbrev pub plain_trick : Contract → List ℕ → ℕ → PlainTrick
plain_trick contract cards trick = record { leader = leader_of contract cards trick; cards = trick_at cards trick }

-- the last of the whole tricks
abbrev pub last_trick : Contract → List ℕ → Option PlainTrick
last_trick contract cards = if whole_tricks cards == 0 then None else Some (plain_trick contract cards (whole_tricks cards - 1))

-- dummy's cards that are left, once a card was played
abbrev pub shown_dummy : PlayValue → Option (List ℕ)
shown_dummy play = if length play.cards == 0 then None else Some (cards_left play.hands play.cards (dummy_of play.contract))

-- what may be shown of the play of the cards
abbrev pub shown_play : PlayValue → ShownPlay
shown_play play = record {
  trick = plain_trick play.contract play.cards (whole_tricks play.cards);
  last = last_trick play.contract play.cards;
  tricks_ns = tricks_won play.contract play.cards NorthSouth (whole_tricks play.cards);
  tricks_ew = tricks_won play.contract play.cards EastWest (whole_tricks play.cards);
  dummy = shown_dummy play;
}

-- what a player in that seat may be shown of the play of the board, the index-th of the table's
abbrev pub shown_with : ℕ → Seat → List ℕ → ℕ → List Call → Option PlayValue → Shown
shown_with index seat hands board calls play = record {
  index = index;
  board = board;
  calls = calls;
  cards_made = length (option_map_or (λ (p : PlayValue). p.cards) play []);
  claims_made = option_map_or (λ (p : PlayValue). p.claims) play 0;
  claim = option_map_or (λ (p : PlayValue). p.claim) play None;
  hand = cards_left hands (option_map_or (λ (p : PlayValue). p.cards) play []) seat;
  play = option_map shown_play play;
}

-- what the record at that index shows
abbrev pub shown_of : ℕ → Seat → List ℕ → PlainRecord → Shown
shown_of row_index seat hands plain = shown_with (row_index + 1) seat hands plain.board plain.calls (play_of hands plain)

-- whose turn it is: to call, or once there is a contract whose hand plays next
abbrev pub shown_turn : Shown → Option ShownPlay → Seat
shown_turn shown None = clockwise_from (dealer_of shown.board) (length shown.calls)
shown_turn shown (Some play) = clockwise_from play.trick.leader (length play.trick.cards)

-- what may be shown to that seat of the current play among the records of a table, where there is one and its board is dealt
abbrev pub shown_among : Deals → Seat → List PlainRecord → Result Shown Refused
shown_among deals seat records = do
  plain ← ok_or (slice_get records (current_index records)) NotCurrent
  hands ← ok_or (deal_on deals plain.board) NotDealt
  Ok (shown_of (current_index records) seat hands plain)

-- all that the player of the key may be shown of the session, or why not
abbrev pub shown_to : SessionValue → ℕ → Result Shown Refused
shown_to s key = do
  seating ← seating_of s.configuration s.round key
  shown_among s.deals seating.seat (row_at s.records seating.row)
