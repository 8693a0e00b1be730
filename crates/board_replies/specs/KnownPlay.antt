-- What is known of a play.
use Rattle.std.specs.Prelude.{ℕ, Bool, List, Option}
use Rattle.std.specs.Option.{option_copied, option_map}
use Rattle.bridge_auction.specs.declared.call.Call.{Call}
use Rattle.bridge_movement.specs.declared.row.Row.{Row}
use Rattle.bridge_play.specs.Play.{PlayValue}
use Rattle.session_rules.specs.declared.outcome.Outcome.{Outcome}
use Rattle.session_rules.specs.Outcome.{outcome_of}
use Rattle.session_rules.specs.Record.{PlainRecord, course_of, is_done, play_of}
use Rattle.session_rules.specs.State.{SessionValue, Deals, deal_on, hands_on, record_of}
use Rattle.board_replies.specs.declared.known_play.KnownPlay.{KnownPlay as KnownType}

-- What is known of a play: its board, the hands once the board is dealt, the calls, the cards and claims once there is a
-- contract, and what came of it.
pub record KnownPlay : Type 0 where
  pub board : ℕ
  pub hands : Option (List ℕ)
  pub calls : List Call
  pub play : Option PlayValue
  pub outcome : Outcome

-- what is known of the play of a record
abbrev pub known_in : Deals → PlainRecord → KnownPlay
known_in deals plain = record {
  board = plain.board;
  hands = deal_on deals plain.board;
  calls = plain.calls;
  play = play_of (hands_on deals plain.board) plain;
  outcome = outcome_of plain;
}

-- whether the play is finished: over, or passed out
abbrev pub is_known_finished : KnownPlay → Bool
is_known_finished known = is_done known.calls (option_map course_of known.play)

-- what is known of the play of the board at an index of a row's set, if there is such a play
abbrev pub known_at : SessionValue → Row → ℕ → Option KnownPlay
known_at s row index =
    option_map (known_in s.deals) (record_of s (record { round = row.round; table = row.table; index = index }))

-- what contracts see of it
abbrev pub seen_play : KnownType → KnownPlay
seen_play known = record {
  board = known.board;
  hands = option_copied known.deal;
  calls = known.auction.now.calls;
  play = option_copied known.play;
  outcome = known.outcome;
}
