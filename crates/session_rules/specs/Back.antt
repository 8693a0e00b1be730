-- What the director takes back in a play: the answer, and what is left.
use Rattle.std.specs.Prelude.{ℕ, ◌-◌, ◌==◌, ◌||◌, nat_lt, if◌then◌else◌, is_some, length, Option, None, Some, Ok, Err}
use Rattle.bridge_auction.specs.Auction.{less_last}
use Rattle.bridge_movement.specs.Shape.{index_of_row}
use Rattle.bridge_play.specs.Play.{cards_left_by}
use Rattle.session_rules.specs.declared.action.PlayId.{PlayId}
use Rattle.session_rules.specs.declared.refused.Refused.TheVariants.{NoSuchPlay, NotYet, NotThisRound, RulingStands, NothingToTakeBack}
use Rattle.session_rules.specs.Answer.{Answer}
use Rattle.session_rules.specs.Record.{PlainRecord}
use Rattle.session_rules.specs.State.{SessionValue, changed_at}

-- The record less the latest thing done in it: the claim that stands or was agreed, or else the last card, or else the last call.
-- Each claim still counts as made, so that its number is never another's.
abbrev pub taken_back : PlainRecord → PlainRecord
taken_back plain =
    if is_some plain.claim || nat_lt 0 (length plain.cards) then record plain { cards = cards_left_by plain.claim plain.cards; claim = None }
    else record plain { calls = less_last plain.calls }

-- the answer where the latest thing done in the play of that record is taken back, if there is such a play
abbrev pub back_answer : ℕ → ℕ → Option PlainRecord → Answer
back_answer now round None = Err NoSuchPlay
back_answer now round (Some plain) =
    if nat_lt now round then Err NotYet
    else if nat_lt round now then Err NotThisRound
    else if is_some plain.ruling then Err RulingStands
    else if length plain.calls == 0 then Err NothingToTakeBack
    else Ok tt

-- the session without it
abbrev pub less_latest_in : SessionValue → PlayId → SessionValue
less_latest_in s play = record s {
  records = changed_at (λ records. changed_at taken_back records (play.index - 1)) s.records
      (index_of_row s.configuration.movement.shape play.round play.table);
}
