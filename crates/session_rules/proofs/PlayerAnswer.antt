-- The answer to a player, by what each test found.
use Rattle.std.proofs.Common.{ℕ, ◌==◌, List, Option, Result}
use Rattle.std.specs.Prelude.{ok_or}
use Rattle.bridge_cards.specs.declared.seat.Seat.{Seat}
use Rattle.session_rules.specs.declared.deed.Deed.{Deed}
use Rattle.session_rules.specs.declared.refused.Refused.{Refused}
use Rattle.session_rules.specs.declared.refused.Refused.TheVariants.{NotCurrent, NotDealt}
use Rattle.session_rules.specs.declared.seating.Seating.{Seating}
use Rattle.bridge_config.specs.Then.{◌>>=◌}
use Rattle.session_rules.specs.Answer.{Answer, ◌>>◌, require}
use Rattle.session_rules.specs.Deed.{deed_answer}
use Rattle.session_rules.specs.PlayerStep.{Seen, answer_among}
use Rattle.session_rules.specs.Record.{PlainRecord, bidding_of, play_of}
use Rattle.session_rules.specs.State.{is_of_set}

-- in the play of a board that is dealt
abbrev pub answer_dealt : PlainRecord → Seat → ℕ → Deed → Option (List ℕ) → Answer
answer_dealt plain seat at deed deal = do
  hands ← ok_or deal NotDealt
  deed_answer (bidding_of plain) (play_of hands plain) seat at deed

-- in the current play of the table, if there is one
abbrev pub answer_current : Option (List ℕ) → ℕ → Seat → ℕ → Deed → Option PlainRecord → Answer
answer_current deal board seat at deed found = do
  plain ← ok_or found NotCurrent
  require (plain.board == board) NotCurrent
  answer_dealt plain seat at deed deal

-- of the player who sits there, if there is one
abbrev pub answer_seated : Seen → ℕ → ℕ → Deed → Result Seating Refused → Answer
answer_seated seen board at deed sits = do
  seating ← sits
  require (is_of_set seen.configuration seating.set board) NotCurrent
  answer_among seen.records seen.deal board seating.seat at deed
