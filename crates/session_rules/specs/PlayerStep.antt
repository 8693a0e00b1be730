-- What a player does: the answer, and what changes.
use Rattle.std.specs.Prelude.{ℕ, ◌==◌, if◌then◌else◌, ok_or, List, [], slice_get, Option, None, Result, Ok, Err}
use Rattle.bridge_cards.specs.declared.seat.Seat.{Seat}
use Rattle.bridge_config.specs.ConfigValue.{ConfigValue}
use Rattle.session_rules.specs.declared.deed.Deed.{Deed}
use Rattle.session_rules.specs.declared.refused.Refused.{Refused}
use Rattle.session_rules.specs.declared.refused.Refused.TheVariants.{NotCurrent, NotDealt}
use Rattle.session_rules.specs.declared.seating.Seating.{Seating}
use Rattle.bridge_config.specs.Then.{◌>>=◌}
use Rattle.session_rules.specs.Answer.{Answer, ◌>>◌, require}
use Rattle.session_rules.specs.Record.{PlainRecord, bidding_of, play_of}
use Rattle.session_rules.specs.Deed.{deed_answer, with_deed}
use Rattle.session_rules.specs.State.{SessionValue, deal_on, row_at, changed_at, current_index, seating_of, is_of_set}

-- All that the answer to a player may depend on: the configuration, the round, the deal of the board that is named, if it
-- is one of the set that the player's table plays, and the records of that table in that round.
pub record Seen : Type 0 where
  pub configuration : ConfigValue
  pub round : ℕ
  pub deal : Option (List ℕ)
  pub records : List PlainRecord

-- the deal of the board, where it is one of the set of the player's table
abbrev pub seen_deal : SessionValue → ℕ → Result Seating Refused → Option (List ℕ)
seen_deal s board (Err refused) = None
seen_deal s board (Ok seating) = if is_of_set s.configuration seating.set board then deal_on s.deals board else None

-- the records of the player's table
abbrev pub seen_records : SessionValue → Result Seating Refused → List PlainRecord
seen_records s (Err refused) = []
seen_records s (Ok seating) = row_at s.records seating.row

-- what the answer to the player of the key, who names that board, may depend on
abbrev pub seen_by : SessionValue → ℕ → ℕ → Seen
seen_by s key board = record {
  configuration = s.configuration;
  round = s.round;
  deal = seen_deal s board (seating_of s.configuration s.round key);
  records = seen_records s (seating_of s.configuration s.round key);
}

-- the answer at a table with these records, to the player in that seat: the current play is of the board, and that is dealt
abbrev pub answer_among : List PlainRecord → Option (List ℕ) → ℕ → Seat → ℕ → Deed → Answer
answer_among records deal board seat at deed = do
  plain ← ok_or (slice_get records (current_index records)) NotCurrent
  require (plain.board == board) NotCurrent
  hands ← ok_or deal NotDealt
  deed_answer (bidding_of plain) (play_of hands plain) seat at deed

-- the answer to what the player of the key does: he sits at a table, and the board is one of its set
abbrev pub player_answer : Seen → ℕ → ℕ → ℕ → Deed → Answer
player_answer seen key board at deed = do
  seating ← seating_of seen.configuration seen.round key
  require (is_of_set seen.configuration seating.set board) NotCurrent
  answer_among seen.records seen.deal board seating.seat at deed

-- what is done changes the record of the current play
abbrev pub acted_among : Seat → Deed → List PlainRecord → List PlainRecord
acted_among seat deed records = changed_at (with_deed seat deed) records (current_index records)

-- of the table where the player sits
abbrev pub acted_at : SessionValue → Deed → Result Seating Refused → SessionValue
acted_at s deed (Err refused) = s
acted_at s deed (Ok seating) = record s { records = changed_at (acted_among seating.seat deed) s.records seating.row }

-- the session after what the player of the key did
abbrev pub acted : SessionValue → ℕ → Deed → SessionValue
acted s key deed = acted_at s deed (seating_of s.configuration s.round key)
