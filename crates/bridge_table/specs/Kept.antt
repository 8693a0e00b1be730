-- The records that the code keeps, and what contracts see of them.
use Rattle.std.specs.Prelude.{◌≡◌, ℕ, nat_lt, if◌then◌else◌, Err, Bool, not, ◌&&◌, ◌||◌, is_some, length, List, [], ◌∷◌, ◌++◌, Option, None, Some}
use Rattle.std.specs.Option.{option_map, option_map_or}
use Rattle.bridge_cards.specs.declared.seat.Seat.{Seat}
use Rattle.bridge_cards.specs.Board.{dealer_of}
use Rattle.bridge_auction.specs.declared.contract.Contract.{Contract}
use Rattle.bridge_auction.specs.Auction.{with_call, without_last_call}
use Rattle.bridge_auction.specs.Contract.{contract_of}
use Rattle.bridge_play.specs.Play.{PlayValue, with_card, with_claim, with_agreement, without_claim, without_latest}
use Rattle.bridge_cards.specs.declared.scoring.Scoring.{Scoring}
use Rattle.bridge_table.specs.declared.record.Record.{Record}
use Rattle.session_rules.specs.declared.deed.Deed.{Deed}
use Rattle.session_rules.specs.declared.deed.Deed.TheVariants as deed
use Rattle.session_rules.specs.declared.correction.Correction.{Correction}
use Rattle.session_rules.specs.declared.refused.Refused.TheVariants.{NoSuchPlay, NotYet}
use Rattle.session_rules.specs.Answer.{Answer}
use Rattle.session_rules.specs.Back.{back_answer}
use Rattle.session_rules.specs.Correction.{ruling_by, ruling_answer}
use Rattle.session_rules.specs.State.{Deals, deal_on, hands_on}
use Rattle.session_rules.specs.Record.{PlainRecord, Course, course_of, play_of, is_done, is_ruled_out}

-- the play that is begun with those hands in that contract, where so many claims were made before
abbrev pub begun_with : List ℕ → ℕ → Contract → PlayValue
begun_with hands claims contract = record { hands = hands; contract = contract; cards = []; claims = claims; claim = None }

-- what contracts see of a record
abbrev pub plain_of : Record → PlainRecord
plain_of kept = record {
  board = kept.board;
  calls = kept.auction.calls;
  cards = option_map_or (λ (play : PlayValue). play.cards) kept.play [];
  claims = option_map_or (λ (play : PlayValue). play.claims) kept.play kept.claims;
  claim = option_map_or (λ (play : PlayValue). play.claim) kept.play None;
  ruling = kept.ruling;
}

-- the play that is kept is what the rest of the record makes of the hands
pub record IsTied (hands : List ℕ) (kept : Record) : Type 0 where
  pub dealer : kept.auction.dealer ≡ dealer_of kept.board
  pub play : kept.play ≡ play_of hands (plain_of kept)

-- the course of the play that is kept, once there is one
abbrev pub course_kept : Record → Option Course
course_kept kept = option_map course_of kept.play

-- whether the play is neither finished, void nor adjusted
abbrev pub is_kept_open : Record → Bool
is_kept_open kept = not (is_ruled_out kept.ruling) && not (is_done kept.auction.calls (course_kept kept))

-- the record after what a player did in the play of the cards
abbrev pub after_play : Seat → Deed → Record → Record
after_play seat (deed.Card card) kept = record kept { play = option_map (λ (play : PlayValue). with_card play card) kept.play }
after_play seat (deed.Claim tricks) kept = record kept { play = option_map (λ (play : PlayValue). with_claim play seat tricks) kept.play }
after_play seat deed.Agree kept = record kept { play = option_map (λ (play : PlayValue). with_agreement play seat) kept.play }
after_play seat deed.Refuse kept = record kept { play = option_map without_claim kept.play }
after_play seat (deed.Call call) kept = kept

-- the record after what a player did: a call may make a contract, in which the play of those hands begins with the claims made
abbrev pub after_deed : List ℕ → Seat → Deed → Record → Record
after_deed hands seat (deed.Call call) kept = record kept {
  auction = with_call kept.auction call;
  play = option_map (begun_with hands kept.claims) (contract_of kept.auction.dealer (kept.auction.calls ++ call ∷ []));
}
after_deed hands seat deed kept = after_play seat deed kept

-- the answer to a ruling on the play
abbrev pub kept_ruling_answer : Scoring → Record → Correction → Bool → Answer
kept_ruling_answer scoring kept correction round_is_over = ruling_answer scoring kept.auction.calls (course_kept kept) correction round_is_over

-- the record is tied to the deal of its board, and has calls only where the board is dealt
pub record IsTiedIn (deals : Deals) (kept : Record) : Type 0 where
  pub tied : IsTied (hands_on deals kept.board) kept
  pub undealt : deal_on deals kept.board ≡ None → kept.auction.calls ≡ []

-- the board of a record
abbrev pub board_kept : Record → ℕ
board_kept kept = kept.board

-- a record in which nothing has happened
abbrev pub new_record : ℕ → Record
new_record board = record { board = board; auction = record { dealer = dealer_of board; calls = [] }; claims = 0; play = None; ruling = None }

-- the record after a ruling
abbrev pub with_kept_ruling : Correction → Record → Record
with_kept_ruling correction kept = record kept { ruling = ruling_by correction }

-- the answer to a ruling on the play of a record, if there is one
abbrev pub kept_rule_answer : Scoring → ℕ → ℕ → Correction → Option Record → Answer
kept_rule_answer scoring now round correction None = Err NoSuchPlay
kept_rule_answer scoring now round correction (Some kept) =
    if nat_lt now round then Err NotYet else kept_ruling_answer scoring kept correction (nat_lt round now)

-- the record of a play, or of none yet, less the latest thing done in it
abbrev pub less_in_play : Record → Option PlayValue → Record
less_in_play kept None = record kept { auction = without_last_call kept.auction; play = None }
less_in_play kept (Some play) =
    if is_some play.claim || nat_lt 0 (length play.cards) then record kept { play = Some (without_latest play) }
    else record kept { auction = without_last_call kept.auction; claims = play.claims; play = None }

-- the record less the latest thing done: the claim that stands or was agreed, the last card, or the last call
abbrev pub less_latest_kept : Record → Record
less_latest_kept kept = less_in_play kept kept.play

-- the answer where it is taken back, in the play of a record that there may be
abbrev pub kept_back_answer : ℕ → ℕ → Option Record → Answer
kept_back_answer now round kept = back_answer now round (option_map plain_of kept)
