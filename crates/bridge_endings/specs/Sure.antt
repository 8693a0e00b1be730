-- Sure tricks: the leader's side has a card that wins the trick, whatever the others play.
use Rattle.std.specs.Prelude.{◌≡◌, ℕ, ◌<◌, ◌⊎◌, Bool, true, false, Option, IsTrue}
use Rattle.bridge_cards.specs.declared.suit.Suit.{Suit}
use Rattle.bridge_cards.specs.declared.seat.Seat.{Seat}
use Rattle.bridge_cards.specs.declared.seat.Side.{Side}
use Rattle.bridge_cards.specs.declared.seat.Side.TheVariants.{NorthSouth, EastWest}
use Rattle.bridge_cards.specs.Seat.{clockwise_from}
use Rattle.bridge_cards.specs.Card.{same_suit}
use Rattle.bridge_cards.specs.CardSet.{has_card}
use Rattle.bridge_cards.specs.Trick.{is_or_beats}

-- each of the three other hands has a card
abbrev pub EachHasSome : (Seat → ℕ → Bool) → Seat → Type 0
EachHasSome held leader = (index : ℕ) → 0 < index → index < 4 → (card : ℕ) × IsTrue (held (clockwise_from leader index) card)

-- where its suit is led, the card is or beats each card of the three other hands
abbrev pub BeatsEach : Option Suit → (Seat → ℕ → Bool) → Seat → ℕ → Type 0
BeatsEach trump held leader card = (index : ℕ) → 0 < index → index < 4
    → (other : ℕ) → held (clockwise_from leader index) other ≡ true → is_or_beats trump card card other ≡ true

-- of these cards each that the leader has is or beats each card of the three other hands, where its suit is led
abbrev pub AreUnbeaten : Option Suit → (ℕ → Bool) → (Seat → ℕ → Bool) → Seat → Type 0
AreUnbeaten trump tops held leader = (card : ℕ) → tops card ≡ true → held leader card ≡ true → BeatsEach trump held leader card

-- the leader or the partner has the card, and wins the trick with it, once the leader leads that card of its suit
pub record IsSure (trump : Option Suit) (held : Seat → ℕ → Bool) (leader : Seat) (card led : ℕ) : Type 0 where
  pub holder : (held leader card ≡ true) ⊎ (held (clockwise_from leader 2) card ≡ true)
  pub has_led : held leader led ≡ true
  pub suit : same_suit led card ≡ true
  pub not_above : is_or_beats trump card card led ≡ true
  pub others : EachHasSome held leader
  pub beats_each : BeatsEach trump held leader card

-- the card is in one of two hands, the leader has a card of its suit, and of the cards left none of its suit is higher
pub record IsHighest (hand partner left card : ℕ) : Type 0 where
  pub holder : (has_card hand card ≡ true) ⊎ (has_card partner card ≡ true)
  pub lead : (led : ℕ) × IsTrue (has_card hand led) × IsTrue (same_suit led card)
  pub highest : (other : ℕ) → same_suit other card ≡ true → card < other → has_card left other ≡ false

-- how many tricks North and South need, where one trick more for the side settles whether they reach them
abbrev pub settled_by_one : Side → ℕ → ℕ
settled_by_one NorthSouth tricks = 1
settled_by_one EastWest tricks = tricks

-- none of the cards is among the others
abbrev pub AreApart : ℕ → ℕ → Type 0
AreApart others cards = (card : ℕ) → has_card cards card ≡ true → has_card others card ≡ false
