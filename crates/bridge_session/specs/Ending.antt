-- The ending of a play: what is left of it after its first cards, and who may ask for it.
use Rattle.std.specs.Prelude.{ℕ, ◌/◌, ◌%◌, nat_lt, nat_le, not, Bool, ◌==◌, ◌&&◌, ok_or, List, [], ◌∷◌, length, map, take, Option, Result, Ok}
use Rattle.bridge_cards.specs.declared.suit.Suit.{Suit}
use Rattle.bridge_cards.specs.declared.seat.Seat.{Seat}
use Rattle.bridge_cards.specs.declared.seat.Seat.TheVariants.{North, East, South, West}
use Rattle.bridge_cards.specs.CardSet.{cards_of}
use Rattle.bridge_play.specs.Play.{PlayValue}
use Rattle.bridge_play.specs.Trick.{trump_of, leader_of}
use Rattle.bridge_endings.specs.EndingValue.{EndingValue}
use Rattle.session_rules.specs.declared.action.PlayId.{PlayId}
use Rattle.session_rules.specs.declared.refused.Refused.{Refused}
use Rattle.session_rules.specs.declared.refused.Refused.TheVariants.{NoSuchPlay, NotYet, NoContract, NotAnEnding}
use Rattle.bridge_config.specs.Then.{◌>>=◌}
use Rattle.session_rules.specs.Answer.{◌>>◌, require}
use Rattle.session_rules.specs.Record.{play_of}
use Rattle.session_rules.specs.State.{SessionValue, director_answer, hands_on, record_of}
use Rattle.session_rules.specs.See.{cards_left}

-- the cards of each hand in order, North's first and then clockwise, the trump suit if there is one, and the seat to lead
pub record PlainEnding : Type 0 where
  pub hands : List (List ℕ)
  pub trump : Option Suit
  pub leader : Seat

-- what is seen of an ending
abbrev pub plain_ending : EndingValue → PlainEnding
plain_ending ending = record { hands = map cards_of ending.hands; trump = ending.trump; leader = ending.leader }

-- what is left of a play after its first cards, which are whole tricks
abbrev pub ending_after : PlayValue → ℕ → PlainEnding
ending_after play cards = record {
  hands = map (cards_left play.hands (take cards play.cards)) (North ∷ East ∷ South ∷ West ∷ []);
  trump = trump_of play.contract;
  leader = leader_of play.contract play.cards (cards / 4);
}

-- so many cards leave an ending: they are whole tricks, of which at most six are left, and so many were played
abbrev pub leave_an_ending : PlayValue → ℕ → Bool
leave_an_ending play cards = cards % 4 == 0 && (nat_le 28 cards && nat_le cards (length play.cards))

-- the ending of a play after so many cards, where there is a contract
abbrev pub ending_in : ℕ → Option PlayValue → Result PlainEnding Refused
ending_in cards play = do
  playing ← ok_or play NoContract
  require (leave_an_ending playing cards) NotAnEnding
  Ok (ending_after playing cards)

-- the ending of a play after so many cards, to the director
abbrev pub ending_answer : SessionValue → ℕ → PlayId → ℕ → Result PlainEnding Refused
ending_answer s key play cards = do
  director_answer s.configuration key
  plain ← ok_or (record_of s play) NoSuchPlay
  require (not (nat_lt s.round play.round)) NotYet
  ending_in cards (play_of (hands_on s.deals plain.board) plain)
