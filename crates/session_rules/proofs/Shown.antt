-- The cards that are left to a seat, and what is shown by what each test found.
use Rattle.std.proofs.Common.{◌≡◌, ℕ, Bool, true, false, not, ◌&&◌, List, [], Option, Result, Ok, filter, refl, ap, ◌∙◌}
use Rattle.std.specs.Prelude.{ok_or}
use Rattle.bridge_cards.specs.declared.seat.Seat.{Seat}
use Rattle.bridge_cards.specs.CardSet.{has_card, cards_of, deck}
use Rattle.bridge_cards.specs.Deal.{hand_at}
use Rattle.bridge_play.specs.Legal.{holds}
use Rattle.session_rules.specs.declared.refused.Refused.{Refused}
use Rattle.session_rules.specs.declared.refused.Refused.TheVariants.{NotCurrent, NotDealt}
use Rattle.session_rules.specs.declared.seating.Seating.{Seating}
use Rattle.bridge_config.specs.Then.{◌>>=◌}
use Rattle.session_rules.specs.Record.{PlainRecord}
use Rattle.session_rules.specs.See.{Shown, cards_left, shown_of, shown_among}
use Rattle.session_rules.specs.State.{SessionValue, Deals, deal_on, row_at}

pub left_is : (set : ℕ) (hands cards : List ℕ) (seat : Seat) → ((card : ℕ) → has_card set card ≡ holds hands cards seat card) → cards_of set ≡ cards_left hands cards seat
unfolding cards_of
left_is set hands cards seat same = ap (λ (p : ℕ → Bool). filter p deck) (λ i card. same card i)

unplayed : (b : Bool) → b ≡ (b && not false)
unplayed true = refl
unplayed false = refl

pub dealt_is : (set : ℕ) (hands : List ℕ) (seat : Seat) → set ≡ hand_at hands seat → cards_of set ≡ cards_left hands [] seat
dealt_is set hands seat is =
    left_is set hands [] seat (λ card. ap (λ s. has_card s card) is ∙ unplayed (has_card (hand_at hands seat) card))

-- of the play at that index, if it is dealt
abbrev pub shown_dealt : Seat → ℕ → PlainRecord → Option (List ℕ) → Result Shown Refused
shown_dealt seat row_index plain deal = do
  hands ← ok_or deal NotDealt
  Ok (shown_of row_index seat hands plain)

-- of the current play, if there is one
abbrev pub shown_current : Deals → Seat → ℕ → Option PlainRecord → Result Shown Refused
shown_current deals seat row_index found = do
  plain ← ok_or found NotCurrent
  shown_dealt seat row_index plain (deal_on deals plain.board)

-- to the player who sits there, if there is one
abbrev pub shown_seated : SessionValue → Result Seating Refused → Result Shown Refused
shown_seated s sits = do
  seating ← sits
  shown_among s.deals seating.seat (row_at s.records seating.row)
