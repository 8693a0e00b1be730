-- The lengths of suits in one number: where the numbers are equal, the lengths are.
use Rattle.std.proofs.Common.{◌≡◌, ℕ, ◌+◌, ◌*◌, ◌/◌, ◌<◌, ◌≤◌, ◌&&◌, List, arith}
use Rattle.std.proofs.lemmas.Bool.{eqb-true, and_parts}
use Rattle.bridge_cards.specs.declared.suit.Suit.{Suit}
use Rattle.bridge_cards.specs.declared.suit.Suit.TheVariants.{Clubs, Diamonds, Hearts, Spades}
use Rattle.bridge_cards.specs.declared.seat.Seat.{Seat}
use Rattle.bridge_cards.specs.declared.seat.Seat.TheVariants.{North, East, South, West}
use Rattle.bridge_cards.specs.Suit.{suit_number}
use Rattle.bridge_cards.specs.CardSet.{has_card, is_of_suit}
use Rattle.bridge_cards.specs.Deal.{hand_at}
use Rattle.bridge_endings.specs.Left.{suit_length, lengths_in, all_lengths, AreAsLong}
use Rattle.bridge_endings.proofs.Counting.{count_within}

number_few : (suit : Suit) → suit_number suit < 4
number_few Clubs = omega arith
number_few Diamonds = omega arith
number_few Hearts = omega arith
number_few Spades = omega arith

-- a hand has at most thirteen cards of a suit
pub few_of_suit : (hand : ℕ) (suit : Suit) → suit_length hand suit ≤ 13
few_of_suit hand suit =
    count_within 13 (13 * suit_number suit) (λ card. has_card hand card && is_of_suit suit card) (omega (arith, number_few suit))
    (λ card has.
    let of_suit : card / 13 ≡ suit_number suit = eqb-true (card / 13) (suit_number suit) ((and_parts (has_card hand card) (is_of_suit suit card) has).1) in
    (omega (arith, of_suit), omega (arith, of_suit)))

digits : (a b c d x y z w : ℕ) → a ≤ 13 → b ≤ 13 → c ≤ 13 → d ≤ 13 → x ≤ 13 → y ≤ 13 → z ≤ 13 → w ≤ 13 → (a * 16 + b) * 256 + (c * 16 + d) ≡ (x * 16 + y) * 256 + (z * 16 + w) → (a ≡ x) × (b ≡ y) × (c ≡ z) × (d ≡ w)
digits a b c d x y z w p q r s t u v m same =
    (omega (arith, p, q, r, s, t, u, v, m, same), omega (arith, p, q, r, s, t, u, v, m, same), omega (arith, p, q, r, s, t, u, v, m, same), omega (arith, p, q, r, s, t, u, v, m, same))

words : (a b c d x y z w : ℕ) → a < 65536 → b < 65536 → c < 65536 → d < 65536 → x < 65536 → y < 65536 → z < 65536 → w < 65536 → (a * 65536 + b) * 4294967296 + (c * 65536 + d) ≡ (x * 65536 + y) * 4294967296 + (z * 65536 + w) → (a ≡ x) × (b ≡ y) × (c ≡ z) × (d ≡ w)
words a b c d x y z w p q r s t u v m same =
    (omega (arith, p, q, r, s, t, u, v, m, same), omega (arith, p, q, r, s, t, u, v, m, same), omega (arith, p, q, r, s, t, u, v, m, same), omega (arith, p, q, r, s, t, u, v, m, same))

pub few_in : (hand : ℕ) → lengths_in hand < 65536
few_in hand = omega (arith, few_of_suit hand Clubs, few_of_suit hand Diamonds, few_of_suit hand Hearts, few_of_suit hand Spades)

same_lengths : (hand other : ℕ) → lengths_in hand ≡ lengths_in other → AreAsLong hand other
same_lengths hand other same suit =
    let parts = digits
    (suit_length hand Clubs) (suit_length hand Diamonds) (suit_length hand Hearts) (suit_length hand Spades)
    (suit_length other Clubs) (suit_length other Diamonds) (suit_length other Hearts) (suit_length other Spades)
    (few_of_suit hand Clubs) (few_of_suit hand Diamonds) (few_of_suit hand Hearts) (few_of_suit hand Spades)
    (few_of_suit other Clubs) (few_of_suit other Diamonds) (few_of_suit other Hearts) (few_of_suit other Spades) same in
    elim suit as (λ s. suit_length hand s ≡ suit_length other s) [
      | Clubs ↦ parts.0
      | Diamonds ↦ parts.1
      | Hearts ↦ parts.2
      | Spades ↦ parts.3
    ]

pub same_all_lengths : (hands others : List ℕ) → all_lengths hands ≡ all_lengths others → (seat : Seat) → AreAsLong (hand_at hands seat) (hand_at others seat)
same_all_lengths hands others same seat = same_lengths (hand_at hands seat) (hand_at others seat) (elim seat as (λ s. lengths_in (hand_at hands s) ≡ lengths_in (hand_at others s)) [
  | North ↦ parts.0
  | East ↦ parts.1
  | South ↦ parts.2
  | West ↦ parts.3
])
  where
    parts : (lengths_in (hand_at hands North) ≡ lengths_in (hand_at others North)) × (lengths_in (hand_at hands East) ≡ lengths_in (hand_at others East)) × (lengths_in (hand_at hands South) ≡ lengths_in (hand_at others South)) × (lengths_in (hand_at hands West) ≡ lengths_in (hand_at others West))
    parts = words
        (lengths_in (hand_at hands North)) (lengths_in (hand_at hands East)) (lengths_in (hand_at hands South)) (lengths_in (hand_at hands West))
        (lengths_in (hand_at others North)) (lengths_in (hand_at others East)) (lengths_in (hand_at others South)) (lengths_in (hand_at others West))
        (few_in (hand_at hands North)) (few_in (hand_at hands East)) (few_in (hand_at hands South)) (few_in (hand_at hands West))
        (few_in (hand_at others North)) (few_in (hand_at others East)) (few_in (hand_at others South)) (few_in (hand_at others West)) same
