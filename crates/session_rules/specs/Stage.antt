-- How far the current play of a table is, for a player there: it is made of what the player is shown, and of nothing else.
use Rattle.std.specs.Prelude.{ℕ, false, List, Option, None, Some, Result, Ok}
use Rattle.bridge_cards.specs.declared.seat.Seat.{Seat}
use Rattle.bridge_cards.specs.Board.{dealer_of}
use Rattle.bridge_auction.specs.declared.contract.Contract.{Contract}
use Rattle.bridge_auction.specs.Contract.{contract_of}
use Rattle.bridge_play.specs.declared.claim.Claim.{Claim}
use Rattle.bridge_play.specs.Play.{is_awaited}
use Rattle.session_rules.specs.declared.refused.Refused.{Refused}
use Rattle.session_rules.specs.declared.stage.Stage.{Stage}
use Rattle.bridge_config.specs.Then.{◌>>=◌}
use Rattle.session_rules.specs.Record.{PlainRecord}
use Rattle.session_rules.specs.See.{Shown, shown_among}
use Rattle.session_rules.specs.State.{SessionValue, Deals, row_at, seating_of}

-- the stage of a play in a contract, or before there is one, for a seat
abbrev pub stage_with : Seat → Option Claim → Option Contract → Stage
stage_with seat claim None = record { contract = None; answer_due = false }
stage_with seat claim (Some contract) = record { contract = Some contract; answer_due = is_awaited contract claim seat }

-- the stage of the play that is shown to the player in that seat
abbrev pub stage_of : Seat → Shown → Stage
stage_of seat shown = stage_with seat shown.claim (contract_of (dealer_of shown.board) shown.calls)

-- the stage of the current play among the records of a table, for the player in that seat, where he is shown one
abbrev pub stage_among : Deals → Seat → List PlainRecord → Result Stage Refused
stage_among deals seat records = do
  shown ← shown_among deals seat records
  Ok (stage_of seat shown)

-- the stage of the current play for the player of the key, or why there is none to be shown
abbrev pub stage_to : SessionValue → ℕ → Result Stage Refused
stage_to s key = do
  seating ← seating_of s.configuration s.round key
  stage_among s.deals seating.seat (row_at s.records seating.row)
