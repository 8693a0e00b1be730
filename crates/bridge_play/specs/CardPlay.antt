-- The cards of a play, and what is kept beside them.
use Rattle.std.specs.Prelude.{◌≡◌, ℕ, Bool, nat_eq, List, [], ◌∷◌, ◌++◌, take}
use Rattle.bridge_cards.specs.declared.seat.Seat.{Seat}
use Rattle.bridge_cards.specs.declared.seat.Side.TheVariants.{NorthSouth}
use Rattle.std.specs.Cmp.Lexicographic.{pointwise}
use Rattle.std.specs.Ordering.{on, eq_of_both}
use Rattle.bridge_cards.specs.Seat.{seat_number}
use Rattle.bridge_cards.specs.CardSet.{has_card}
use Rattle.bridge_cards.specs.Deal.{hand_at}
use Rattle.bridge_auction.specs.declared.contract.Contract.{Contract}
use Rattle.bridge_auction.specs.declared.contract.Doubling.{Doubling}
use Rattle.bridge_auction.specs.declared.contract.Doubling.TheVariants.{Undoubled, Doubled, Redoubled}
use Rattle.bridge_auction.specs.Bid.{denomination_number}
use Rattle.bridge_play.specs.Trick.{whole_tricks, leader_of, tricks_won}
use Rattle.bridge_play.specs.Legal.{holds}

-- the dealt hands, the contract, and the cards so far
pub record CardPlayValue : Type 0 where
  pub hands : List ℕ
  pub contract : Contract
  pub cards : List ℕ

-- those cards of the deal, played to the contract
abbrev pub played : List ℕ → Contract → List ℕ → CardPlayValue
played hands contract cards = record { hands = hands; contract = contract; cards = cards }

-- the number of a doubling: how often the stakes were raised
abbrev pub doubling_number : Doubling → ℕ
doubling_number Undoubled = 0
doubling_number Doubled = 1
doubling_number Redoubled = 2

-- whether two contracts are one
abbrev pub same_contract : Contract → Contract → Bool
same_contract =
    eq_of_both
    (eq_of_both (on (λ c. c.bid.level) nat_eq) (on (λ c. denomination_number c.bid.denomination) nat_eq))
    (eq_of_both (on (λ c. doubling_number c.doubling) nat_eq) (on (λ c. seat_number c.declarer) nat_eq))

-- whether two plays have the same deal, contract and cards
abbrev pub same_cards : CardPlayValue → CardPlayValue → Bool
same_cards =
    eq_of_both (on (λ p. p.hands) (pointwise nat_eq))
    (eq_of_both (on (λ p. p.contract) same_contract) (on (λ p. p.cards) (pointwise nat_eq)))

-- the same with one card more
abbrev pub with_next : CardPlayValue → ℕ → CardPlayValue
with_next played card = record played { cards = played.cards ++ card ∷ [] }

-- the same with the first so many cards alone
abbrev pub with_first : CardPlayValue → ℕ → CardPlayValue
with_first played count = record played { cards = take count played.cards }

-- What is kept beside the cards is what they make of it: the cards left in each hand, the leader of the trick that is
-- not whole, and how many of the whole tricks North and South won.
pub record IsKeptWithCards (hands : List ℕ) (contract : Contract) (cards : List ℕ) (left : List ℕ) (leader : Seat) (won : ℕ) : Type 0 where
  pub left_of : (seat : Seat) (card : ℕ) → has_card (hand_at left seat) card ≡ holds hands cards seat card
  pub leads : leader ≡ leader_of contract cards (whole_tricks cards)
  pub won_by : won ≡ tricks_won contract cards NorthSouth (whole_tricks cards)
