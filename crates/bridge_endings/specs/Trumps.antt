-- Top trumps: trumps of a side that no card of the other side is as high as. Each trick to which a seat of the side plays one of
-- them is the side's, and the seat plays each of them in the end.
use Rattle.std.specs.Prelude.{◌≡◌, ℕ, ◌+◌, ◌<◌, ◌≤◌, Bool, true, false, ◌&&◌, count_by, Option}
use Rattle.bridge_cards.specs.declared.suit.Suit.{Suit}
use Rattle.bridge_cards.specs.declared.seat.Seat.{Seat}
use Rattle.bridge_cards.specs.declared.seat.Seat.TheVariants.{North, East, South, West}
use Rattle.bridge_cards.specs.declared.seat.Side.{Side}
use Rattle.bridge_cards.specs.declared.seat.Side.TheVariants.{NorthSouth, EastWest}
use Rattle.bridge_cards.specs.Seat.{side_of, plays_for}
use Rattle.bridge_cards.specs.CardSet.{deck}
use Rattle.bridge_cards.specs.Trick.{is_trump}

-- how many of the cards are held
abbrev pub held_of : (ℕ → Bool) → (ℕ → Bool) → ℕ
held_of cards hand = count_by (λ card. cards card && hand card) deck

-- no seat of the other side holds one of the cards
abbrev pub NoneOfTheirs : (ℕ → Bool) → (Seat → ℕ → Bool) → Seat → Type 0
NoneOfTheirs tops held seat = (other : Seat) → plays_for (side_of seat) other ≡ false → (card : ℕ) → tops card ≡ true → held other card ≡ false

-- each seat has so many cards
abbrev pub HasEach : (Seat → ℕ → Bool) → ℕ → Type 0
HasEach held tricks = (seat : Seat) → count_by (held seat) deck ≡ tricks

-- the same of each of the four in turn
abbrev pub FourHave : (Seat → ℕ → Bool) → ℕ → Type 0
FourHave held tricks =
    (count_by (held North) deck ≡ tricks) × (count_by (held East) deck ≡ tricks) × (count_by (held South) deck ≡ tricks) × (count_by (held West) deck ≡ tricks)

-- of so many tricks left, so many that a side wins settle whether North and South reach what they need
abbrev pub IsSettledBy : Side → ℕ → ℕ → ℕ → Type 0
IsSettledBy NorthSouth won tricks need = need ≤ won
IsSettledBy EastWest won tricks need = tricks < need + won

-- the cards are trumps, none of them is the other side's, and the seat has enough of them
pub record AreTopTrumps (trump : Option Suit) (tops : ℕ → Bool) (held : Seat → ℕ → Bool) (seat : Seat) (won : ℕ) : Type 0 where
  pub trumps : (card : ℕ) → tops card ≡ true → is_trump trump card ≡ true
  pub none : NoneOfTheirs tops held seat
  pub many : won ≤ held_of tops (held seat)
