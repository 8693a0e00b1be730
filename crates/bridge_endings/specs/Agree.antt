-- Positions that agree in the cards that count, and answers that are the same for all of them.
use Rattle.std.specs.Prelude.{◌≡◌, ◌≢◌, ℕ, ◌<◌, ◌⊎◌, Bool, true, false, not, ◌&&◌, nat_le, List, length, slice_index, count_by, Option}
use Rattle.bridge_cards.specs.declared.suit.Suit.{Suit}
use Rattle.bridge_cards.specs.declared.seat.Seat.{Seat}
use Rattle.bridge_cards.specs.Card.{same_suit}
use Rattle.bridge_cards.specs.CardSet.{deck}
use Rattle.bridge_cards.specs.Seat.{same_seat}
use Rattle.bridge_endings.specs.Worth.{worth_after, worth_with}
use Rattle.bridge_endings.specs.TrickValue.{IsWinning}

-- only cards of the deck are held, each by one seat at most
pub record IsDealtOut (held : Seat → ℕ → Bool) : Type 0 where
  pub inside : (seat : Seat) (card : ℕ) → held seat card ≡ true → card < 52
  pub once : (seat : Seat) (card : ℕ) → held seat card ≡ true → (other : Seat) → same_seat other seat ≡ false → held other card ≡ false

-- where a card counts, the cards of its suit above it count too
abbrev pub IsUpward : (ℕ → Bool) → Type 0
IsUpward counts = (card above : ℕ) → same_suit card above ≡ true → card < above → counts card ≡ true → counts above ≡ true

-- whether the hand has the card, which is of the suit led and does not count
abbrev pub is_small : (ℕ → Bool) → (ℕ → Bool) → ℕ → ℕ → Bool
is_small hand counts led card = hand card && (same_suit card led && not (counts card))

-- each seat holds the same of the cards that count, and as many of the others in each suit
pub record Agree (counts : ℕ → Bool) (held other : Seat → ℕ → Bool) : Type 0 where
  pub high : (seat : Seat) (card : ℕ) → counts card ≡ true → held seat card ≡ other seat card
  pub small : (seat : Seat) (led : ℕ) → led < 52 → count_by (is_small (held seat) counts led) deck ≡ count_by (is_small (other seat) counts led) deck

-- two cards are one, or of one suit, and neither counts
abbrev pub AreAlike : (ℕ → Bool) → ℕ → ℕ → Type 0
AreAlike counts card other = (card ≡ other) ⊎ ((same_suit card other ≡ true) × (counts card ≡ false) × (counts other ≡ false))

-- as many cards were played, each like the other trick's at its index
pub record AgreeTrick (counts : ℕ → Bool) (trick other : List ℕ) : Type 0 where
  pub long : length trick ≡ length other
  pub each : (index : ℕ) → index < length trick → AreAlike counts (slice_index trick index) (slice_index other index)

-- Whether North and South reach so many tricks, where so many cards are still to be played, has that answer in each
-- position that agrees with this one in the cards that count.
abbrev pub Settles : Option Suit → ℕ → ℕ → (ℕ → Bool) → Bool → (Seat → ℕ → Bool) → Seat → List ℕ → Type 0
Settles trump cards need counts answer held leader trick =
    (other : Seat → ℕ → Bool) → IsDealtOut other → (played : List ℕ) → Agree counts held other → AgreeTrick counts trick played
    → nat_le need (worth_after trump (worth_with trump cards) other leader played) ≡ answer

-- a card wins the trick, and counts or is alone of its suit there
pub record IsRanked (trump : Option Suit) (counts : ℕ → Bool) (trick : List ℕ) : Type 0 where
  pub index : ℕ
  pub winning : IsWinning trump trick index
  pub rank : (counts (slice_index trick index) ≡ true)
      ⊎ ((k : ℕ) → k < length trick → k ≢ index → same_suit (slice_index trick k) (slice_index trick index) ≡ false)
