-- Which four hands are an ending: each has as many cards, at most six, and no card is in two of them.
use Rattle.std.specs.Prelude.{◌≡◌, ◌≢◌, ℕ, ◌≤◌, List, length, All, Any}
use Rattle.bridge_cards.specs.declared.seat.Seat.TheVariants.{North}
use Rattle.bridge_cards.specs.CardSet.{IsCardSet, card_count}
use Rattle.bridge_cards.specs.Deal.{hand_at, NoneTwice}

-- how many cards North has, and so, where the hands are equal, how many tricks are left
abbrev pub tricks_in : List ℕ → ℕ
tricks_in hands = card_count (hand_at hands North)

-- each hand has as many cards as North's
abbrev pub AllEqual : List ℕ → Type 0
AllEqual hands = All (λ hand. card_count hand ≡ tricks_in hands) hands

-- some hand has more or fewer cards than North's
abbrev pub SomeUnequal : List ℕ → Type 0
SomeUnequal hands = Any (λ hand. card_count hand ≢ tricks_in hands) hands

-- the hands of an ending
pub record IsEnding (hands : List ℕ) : Type 0 where
  pub four : length hands ≡ 4
  pub sets : All IsCardSet hands
  pub equal : AllEqual hands
  pub short : tricks_in hands ≤ 6
  pub once : NoneTwice hands
