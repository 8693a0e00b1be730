-- What is left of a play after seven tricks or more is an ending.
use Rattle.std.proofs.Common.{◌≡◌, ◌+◌, ◌*◌, ◌/◌, ◌≤◌, ◌<◌, ℕ, List, [], ◌∷◌, length, take, Option, Result, Ok, Err, IsOk, All, refl, ap, ◌∙◌, arith}
use Rattle.std.specs.Prelude.{map}
use Rattle.bridge_cards.specs.declared.suit.Suit.{Suit}
use Rattle.bridge_cards.specs.declared.seat.Seat.{Seat}
use Rattle.bridge_cards.specs.declared.seat.Seat.TheVariants.{North, East, South, West}
use Rattle.bridge_cards.specs.CardSet.{has_card, cards_of, card_count}
use Rattle.bridge_cards.specs.Deal.{hand_at, NoneTwice, SomeTwice}
use Rattle.bridge_play.specs.Legal.{holds}
use Rattle.bridge_play.specs.Play.{PlayValue}
use Rattle.bridge_play.specs.Trick.{trump_of, leader_of}
use Rattle.bridge_endings.specs.declared.ending.EndingRefused.{EndingRefused}
use Rattle.bridge_endings.specs.declared.ending.EndingRefused.TheVariants.{Unequal, TooLong, Overlap}
use Rattle.bridge_endings.specs.EndingValue.{EndingValue}
use Rattle.bridge_endings.specs.Ending.{tricks_in, SomeUnequal}
use Rattle.session_rules.specs.See.{cards_left}
use Rattle.bridge_session.specs.Ending.{plain_ending, ending_after}
use Rattle.session_rules.proofs.Shown.{left_is}

-- hands with as many cards each are not unequal
none_unequal : (hands : List ℕ) (tricks : ℕ) → All (λ hand. card_count hand + tricks ≡ 13) hands → SomeUnequal hands → ⊥
none_unequal hands tricks all some =
    some.4 (omega (arith, ap card_count some.3, all some.0 some.1 some.2, all 0 0 (omega (arith, some.2))))

not_twice : (hands : List ℕ) → NoneTwice hands → SomeTwice hands → ⊥
not_twice hands once twice = omega (arith, once twice.0, twice.1)

-- four equal hands, none longer than six cards and no card in two of them, are not refused
pub is_an_ending : (hands : List ℕ) (tricks : ℕ) (r : Result EndingValue EndingRefused) → length hands ≡ 4 → 7 ≤ tricks → All (λ hand. card_count hand + tricks ≡ 13) hands → NoneTwice hands → ((r ≡ Err Unequal) → SomeUnequal hands) → ((r ≡ Err TooLong) → 6 < tricks_in hands) → ((r ≡ Err Overlap) → SomeTwice hands) → IsOk r
is_an_ending hands tricks (Ok ending) four seven all once unequal long overlap = refl
is_an_ending hands tricks (Err Unequal) four seven all once unequal long overlap = absurd (none_unequal hands tricks all (unequal refl))
is_an_ending hands tricks (Err TooLong) four seven all once unequal long overlap = absurd (omega (arith, all 0 0 (omega arith), long refl))
is_an_ending hands tricks (Err Overlap) four seven all once unequal long overlap = absurd (not_twice hands once (overlap refl))

-- the cards of four sets that have what is left of the hands
hands_seen : (left hands cards : List ℕ) → length left ≡ 4 → ((seat : Seat) (card : ℕ) → has_card (hand_at left seat) card ≡ holds hands cards seat card) → map cards_of left ≡ map (cards_left hands cards) (North ∷ East ∷ South ∷ West ∷ [])
hands_seen [] hands cards four same = absurd (omega arith)
hands_seen (n ∷ []) hands cards four same = absurd (omega arith)
hands_seen (n ∷ e ∷ []) hands cards four same = absurd (omega arith)
hands_seen (n ∷ e ∷ s ∷ []) hands cards four same = absurd (omega arith)
hands_seen (n ∷ e ∷ s ∷ w ∷ []) hands cards four same =
    rw (left_is n hands cards North (same North), left_is e hands cards East (same East), left_is s hands cards South (same South), left_is w hands cards West (same West)) refl
hands_seen (n ∷ e ∷ s ∷ w ∷ x ∷ rest) hands cards four same = absurd (omega arith)

-- what is seen of an ending with those sets
pub ending_seen : (play : PlayValue) (tricks : ℕ) (left : List ℕ) (trump : Option Suit) (leader : Seat) (ending : EndingValue) → length left ≡ 4 → ((seat : Seat) (card : ℕ) → has_card (hand_at left seat) card ≡ holds play.hands (take (4 * tricks) play.cards) seat card) → trump ≡ trump_of play.contract → leader ≡ leader_of play.contract play.cards tricks → ending ≡ record { hands = left; trump = trump; leader = leader } → plain_ending ending ≡ ending_after play (4 * tricks)
ending_seen play tricks left trump leader ending four same suit leads is =
    let index : tricks ≡ 4 * tricks / 4 = omega arith in
    rw (is, hands_seen left play.hands (take (4 * tricks) play.cards) four same, suit, leads ∙ ap (leader_of play.contract play.cards) index) refl
