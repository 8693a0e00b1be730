-- The record of one play, and what follows from it.
use Rattle.std.specs.Prelude.{ℕ, Bool, true, false, not, ◌&&◌, List, [], Option, None, Some}
use Rattle.std.specs.Option.{option_map, option_map_or}
use Rattle.bridge_cards.specs.Board.{dealer_of}
use Rattle.bridge_auction.specs.declared.call.Call.{Call}
use Rattle.bridge_auction.specs.declared.contract.Contract.{Contract}
use Rattle.bridge_auction.specs.Auction.{AuctionValue}
use Rattle.bridge_auction.specs.Contract.{contract_of}
use Rattle.bridge_auction.specs.Legal.{is_ended}
use Rattle.bridge_play.specs.declared.claim.Claim.{Claim}
use Rattle.bridge_play.specs.Play.{PlayValue, is_over_by}
use Rattle.session_rules.specs.declared.ruling.Ruling.{Ruling}
use Rattle.session_rules.specs.declared.ruling.Ruling.TheVariants as ruling

-- the board of a play, its calls and cards, how many claims were made, the claim that stands or was agreed, and the
-- director's ruling
pub record PlainRecord : Type 0 where
  pub board : ℕ
  pub calls : List Call
  pub cards : List ℕ
  pub claims : ℕ
  pub claim : Option Claim
  pub ruling : Option Ruling

-- nothing has happened in the play of the board
abbrev pub empty_record : ℕ → PlainRecord
empty_record board = record { board = board; calls = []; cards = []; claims = 0; claim = None; ruling = None }

-- the auction of the record
abbrev pub bidding_of : PlainRecord → AuctionValue
bidding_of plain = record { dealer = dealer_of plain.board; calls = plain.calls }

-- the contract of the calls
abbrev pub contract_in : PlainRecord → Option Contract
contract_in plain = contract_of (dealer_of plain.board) plain.calls

-- the cards and claims of a record, of those hands in that contract
abbrev pub playing_in : List ℕ → PlainRecord → Contract → PlayValue
playing_in hands plain contract = record {
  hands = hands;
  contract = contract;
  cards = plain.cards;
  claims = plain.claims;
  claim = plain.claim;
}

-- the play of those hands, once there is a contract
abbrev pub play_of : List ℕ → PlainRecord → Option PlayValue
play_of hands plain = option_map (playing_in hands plain) (contract_in plain)

-- what tells whether a play is over, and its tricks: the contract, the cards, and the claim that stands or was agreed. The
-- hands do not matter to it.
pub record Course : Type 0 where
  pub contract : Contract
  pub cards : List ℕ
  pub claim : Option Claim

-- the course of a play
abbrev pub course_of : PlayValue → Course
course_of play = record { contract = play.contract; cards = play.cards; claim = play.claim }

-- the course that a record tells of in that contract
abbrev pub course_by : PlainRecord → Contract → Course
course_by plain contract = record { contract = contract; cards = plain.cards; claim = plain.claim }

-- the course that a record tells of, once there is a contract
abbrev pub course_in : PlainRecord → Option Course
course_in plain = option_map (course_by plain) (contract_in plain)

-- the play is over
abbrev pub is_run : Course → Bool
is_run course = is_over_by course.contract course.cards course.claim

-- a play is finished when it is over, or passed out where the auction ended without a contract
abbrev pub is_done : List Call → Option Course → Bool
is_done calls course = option_map_or is_run course (is_ended calls)

-- whether the record is of a finished play
abbrev pub is_finished : PlainRecord → Bool
is_finished plain = is_done plain.calls (course_in plain)

-- whether a play is void or adjusted, or a score is assigned to it, so that no more of it is played
abbrev pub is_ruled_out : Option Ruling → Bool
is_ruled_out (Some ruling.Void) = true
is_ruled_out (Some (ruling.Adjusted ns ew)) = true
is_ruled_out (Some (ruling.Assigned contract tricks)) = true
is_ruled_out _ = false

-- whether the play is neither finished, void nor adjusted, and no score is assigned to it
abbrev pub is_open : PlainRecord → Bool
is_open plain = not (is_ruled_out plain.ruling) && not (is_finished plain)
