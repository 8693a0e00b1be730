-- What a player's boards depend on, and which they are.
use Rattle.std.specs.Prelude.{◌≡◌, ◌<◌, ◌⊎◌, ℕ, Bool, true, All, Contains, Some, Ok}
use Rattle.session_rules.specs.declared.seating.Player.{Player}
use Rattle.session_rules.specs.Outcome.{outcome_of}
use Rattle.session_rules.specs.Record.{PlainRecord, is_finished}
use Rattle.session_rules.specs.State.{SessionValue, acting_player, record_of}
use Rattle.bridge_results.specs.Plays.{has_outcome}
use Rattle.bridge_results.specs.Traveller.{traveller}
use Rattle.bridge_results.specs.ScoreCard.{side_at}
use Rattle.board_replies.specs.KnownPlay.{known_in}
use Rattle.board_replies.specs.declared.asked.Asked.{Asked}
use Rattle.board_replies.specs.OwnPlays.{OwnPlay, own_plays}
use Rattle.board_replies.specs.Told.{asked_text}

-- Two sessions have one configuration, and the same plays of the pair of the key's player are over in them; and where
-- players are told of other tables, the boards of these plays have the same travellers. Of plays that are not finished, of boards
-- that the pair has not finished, and of the round nothing is said.
pub record FinishedAlike (is_open : Bool) (key : ℕ) (s t : SessionValue) : Type 0 where
  pub configuration : s.configuration ≡ t.configuration
  pub plays : (player : Player) → acting_player s.configuration key ≡ Ok player → own_plays s player.pair ≡ own_plays t player.pair
  pub others : (player : Player) → acting_player s.configuration key ≡ Ok player → is_open ≡ true →
      All (λ (own : OwnPlay). traveller s own.known.board ≡ traveller t own.known.board) (own_plays s player.pair)

-- The play is one of the pair: of a row in which it sat on that side, and the record of it says what is known, and that
-- something came of it: it is finished, or ruled out in a round that has ended.
pub record IsOver (s : SessionValue) (pair : ℕ) (own : OwnPlay) : Type 0 where
  pub row : Contains s.configuration.movement.rows own.row
  pub sat : side_at pair own.row ≡ Some own.side
  pub plain : PlainRecord
  pub found : record_of s (record { round = own.row.round; table = own.row.table; index = own.index }) ≡ Some plain
  pub known : own.known ≡ known_in s.deals plain
  pub came : has_outcome (outcome_of plain) ≡ true
  pub over : (is_finished plain ≡ true) ⊎ (own.row.round < s.round)

-- in both sessions the same is answered
abbrev pub AnsweredAlike : Bool → Asked → SessionValue → SessionValue → Type 0
AnsweredAlike is_open asked s t = asked_text s is_open (Some asked) ≡ asked_text t is_open (Some asked)
