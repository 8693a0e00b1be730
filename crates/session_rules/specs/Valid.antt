-- What a valid session is.
use Rattle.std.specs.Prelude.{◌≡◌, ℕ, ◌+◌, ◌*◌, ◌<◌, ◌≤◌, true, false, map, List, [], length, slice_get, Option, Some, None, Ok, IfSome, All}
use Rattle.bridge_cards.specs.Deal.{is_dealt_out}
use Rattle.bridge_auction.specs.Call.{IsCall}
use Rattle.bridge_auction.specs.Legal.{IsLegal}
use Rattle.bridge_movement.specs.declared.row.Row.{Row}
use Rattle.bridge_score.specs.declared.Scoring.{Scoring}
use Rattle.bridge_score.specs.declared.Scoring.TheVariants.{MatchPoints}
use Rattle.bridge_config.specs.Limits.{IsConfiguration}
use Rattle.bridge_play.specs.Play.{IsClaimCount, IsPlay}
use Rattle.session_rules.specs.declared.act.Act.{Act}
use Rattle.session_rules.specs.declared.act.Act.TheVariants as act
use Rattle.session_rules.specs.declared.action.Action.{Action}
use Rattle.session_rules.specs.declared.action.PlayId.{PlayId}
use Rattle.session_rules.specs.declared.deed.Deed.{Deed}
use Rattle.session_rules.specs.declared.deed.Deed.TheVariants as deed
use Rattle.session_rules.specs.declared.ruling.Ruling.{Ruling}
use Rattle.session_rules.specs.declared.ruling.Ruling.TheVariants as ruling
use Rattle.session_rules.specs.Act.{act_of}
use Rattle.session_rules.specs.Correction.{tricks_answer}
use Rattle.session_rules.specs.Record.{PlainRecord, Course, empty_record, contract_in, course_in, play_of, is_open}
use Rattle.session_rules.specs.State.{SessionValue, Deals, deal_on, row_at, row_boards, hands_on}

-- a ruling may stand: one of tricks where the play is over, averages where the scoring is by matchpoints
abbrev pub MayStand : Scoring → Option Course → Ruling → Type 0
MayStand scoring course (ruling.Tricks tricks) = tricks_answer course ≡ Ok tt
MayStand scoring course (ruling.Adjusted ns ew) = scoring ≡ MatchPoints
MayStand scoring course (ruling.Assigned contract tricks) = Unit {0}
MayStand scoring course ruling.Void = Unit {0}

-- nothing was played, and no claim stands; claims may have been made in an earlier contract, of which a call was taken back
pub record IsUnplayed (plain : PlainRecord) : Type 0 where
  pub cards : plain.cards ≡ []
  pub claims : IsClaimCount plain.claims
  pub claim : plain.claim ≡ None

-- The record of a play of that round: the calls are a legal list, and there are some only where the board is dealt; without a
-- contract nothing was played; the play is one by the rules, and the ruling may stand; in a later round than the current one
-- nothing has happened, and in an earlier one the play is finished, void or adjusted.
pub record IsValidRecord (scoring : Scoring) (deals : Deals) (now round : ℕ) (plain : PlainRecord) : Type 0 where
  pub calls : IsLegal plain.calls
  pub dealt : deal_on deals plain.board ≡ None → plain.calls ≡ []
  pub unplayed : contract_in plain ≡ None → IsUnplayed plain
  pub play : IfSome (play_of (hands_on deals plain.board) plain) IsPlay
  pub ruled : IfSome plain.ruling (MayStand scoring (course_in plain))
  pub later : now < round → plain ≡ empty_record plain.board
  pub earlier : round < now → is_open plain ≡ false

-- the hands are a deal
abbrev pub IsDealtOut : List ℕ → Type 0
IsDealtOut hands = is_dealt_out hands ≡ true

-- the board is not dealt, or its hands are a deal
abbrev pub IsDealOrNone : Option (List ℕ) → Type 0
IsDealOrNone deal = IfSome deal IsDealtOut

-- the board of a record
abbrev pub board_of : PlainRecord → ℕ
board_of plain = plain.board

-- The configuration is within its limits, the round is one of its rounds or the one after the last, each deal is one, and the
-- records are those of the boards of their rows and valid.
pub record IsValid (s : SessionValue) : Type 0 where
  pub configured : IsConfiguration s.configuration
  pub begun : 1 ≤ s.round
  pub ends : s.round ≤ s.configuration.movement.shape.rounds + 1
  pub boards : length s.deals ≡ s.configuration.movement.shape.sets * s.configuration.boards
  pub deals : All IsDealOrNone s.deals
  pub of_boards : map (map board_of) s.records ≡ map (row_boards s.configuration.boards) s.configuration.movement.rows
  pub plays : (row_index index : ℕ) (row : Row) (plain : PlainRecord) → slice_get s.configuration.movement.rows row_index ≡ Some row →
      slice_get (row_at s.records row_index) index ≡ Some plain → IsValidRecord s.configuration.scoring s.deals s.round row.round plain

-- a call that a player makes is one
abbrev pub IsDeed : Deed → Type 0
IsDeed (deed.Call made) = IsCall made
IsDeed _ = Unit {0}

-- rounds, tables and boards are counted from 1
abbrev pub IsPlayId : PlayId → Type 0
IsPlayId play = (1 ≤ play.round) × (1 ≤ play.table) × (1 ≤ play.index)

-- what the laws of valid sessions need of the numbers that an act names
abbrev pub IsAct : Act → Type 0
IsAct (act.Player key board at deed) = IsDeed deed
IsAct (act.Deal key board hands) = 1 ≤ board
IsAct (act.Undeal key board) = 1 ≤ board
IsAct (act.RoundEnd key round) = 1 ≤ round
IsAct (act.Back key play) = IsPlayId play
IsAct (act.Ruling key play made) = IsPlayId play

-- and of those that an action names; `ActionRange` has their whole ranges
abbrev pub IsAction : Action → Type 0
IsAction action = IsAct (act_of action)
