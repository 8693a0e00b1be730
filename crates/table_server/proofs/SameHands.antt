-- Hands with the same cards have one text, and endings of the same cards are one.
use Rattle.std.specs.Prelude.{ℕ, ◌≡◌, ◌+◌, ◌<◌, ◌⊎◌, Bool, true, false, cond, ◌==◌, nat_le, List, [], ◌∷◌, ◌++◌, map, filter, flat_map, count_by, All, refl, Option}
use Rattle.std.specs.List.{range_with_len, list_all}
use Rattle.std.proofs.Common.{sym, ap, ap₂, ◌∙◌, arith, inl, inr}
use Rattle.std.proofs.lemmas.List.Sums.{sum_by-cons}
use Rattle.std.proofs.lemmas.List.Elements.{All-head, All-tail}
use Rattle.std.proofs.lemmas.Bool.{cases_eq, ne_eqb, and_parts}
use Rattle.std.proofs.lemmas.Bool.Decides.{nat_tests}
use Rattle.bridge_cards.specs.declared.suit.Suit.{Suit}
use Rattle.bridge_cards.specs.declared.suit.Suit.TheVariants.{Clubs, Diamonds, Hearts, Spades}
use Rattle.bridge_cards.specs.declared.seat.Seat.{Seat}
use Rattle.bridge_cards.specs.Suit.{suit_number}
use Rattle.bridge_cards.specs.Rank.{rank_letter}
use Rattle.bridge_cards.specs.Card.{card_of}
use Rattle.bridge_cards.specs.CardSet.{IsCardSet, has_card, deck, cards_of}
use Rattle.bridge_cards.specs.DealText.{descending, letter_of, suit_text, hand_text}
use Rattle.bridge_cards.proofs.CardCounts.{count_one}
use Rattle.bridge_cards.proofs.CardSetLaws.{same_cards_of_deck}
use Rattle.bridge_endings.specs.Ending.{IsEnding}
use Rattle.bridge_endings.specs.EndingValue.{EndingValue}
use Rattle.bridge_session.specs.Ending.{PlainEnding, plain_ending}

-- how often a number stands among those that pass a test
count_passed : (p : ℕ → Bool) (n : ℕ) (xs : List ℕ) → count_by (λ x. x == n) (filter p xs) ≡ cond (p n) (count_by (λ x. x == n) xs) 0
count_passed p n [] = none (p n)
  where
    none : (b : Bool) → ◌≡◌ {A = ℕ} 0 (cond b 0 0)
    none true = refl
    none false = refl
count_passed p n (x ∷ xs) = at (count_passed p n xs) (p x) refl (cases_eq x n)
  where
    uncounted : (x ≡ n → ⊥) → (ys : List ℕ) → count_by (λ y. y == n) (x ∷ ys) ≡ count_by (λ y. y == n) ys
    uncounted other ys =
        let none : ◌≡◌ {A = ℕ} (cond (x == n) 1 0) 0 = ap (λ b. cond b 1 0) (ne_eqb x n other) in
        omega (arith, sum_by-cons (λ y. cond (y == n) 1 0) x ys, none)

    at : (count_by (λ y. y == n) (filter p xs) ≡ cond (p n) (count_by (λ y. y == n) xs) 0) → (b : Bool) → p x ≡ b → (x ≡ n) ⊎ (x ≡ n → ⊥) → count_by (λ y. y == n) (cond (p x) (x ∷ filter p xs) (filter p xs)) ≡ cond (p n) (count_by (λ y. y == n) (x ∷ xs)) 0
    at later true passes (inl same) =
        ap (λ b. count_by (λ y. y == n) (cond b (x ∷ filter p xs) (filter p xs))) passes
        ∙ sum_by-cons (λ y. cond (y == n) 1 0) x (filter p xs)
        ∙ ap (λ k. cond (x == n) 1 0 + k) (later ∙ ap (λ b. cond b (count_by (λ y. y == n) xs) 0) (ap p (sym same) ∙ passes))
        ∙ sym (ap (λ b. cond b (count_by (λ y. y == n) (x ∷ xs)) 0) (ap p (sym same) ∙ passes) ∙ sum_by-cons (λ y. cond (y == n) 1 0) x xs)
    at later true passes (inr other) =
        ap (λ b. count_by (λ y. y == n) (cond b (x ∷ filter p xs) (filter p xs))) passes
        ∙ uncounted other (filter p xs)
        ∙ later
        ∙ sym (ap (λ k. cond (p n) k 0) (uncounted other xs))
    at later false fails (inl same) =
        let fails_too : p n ≡ false = ap p (sym same) ∙ fails in
        ap (λ b. count_by (λ y. y == n) (cond b (x ∷ filter p xs) (filter p xs))) fails
        ∙ later
        ∙ ap (λ b. cond b (count_by (λ y. y == n) xs) 0) fails_too
        ∙ sym (ap (λ b. cond b (count_by (λ y. y == n) (x ∷ xs)) 0) fails_too)
    at later false fails (inr other) =
        ap (λ b. count_by (λ y. y == n) (cond b (x ∷ filter p xs) (filter p xs))) fails
        ∙ later
        ∙ sym (ap (λ k. cond (p n) k 0) (uncounted other xs))

-- a card of the deck stands once in the list of a hand that has it
count_held : (hand card : ℕ) → card < 52 → count_by (λ x. x == card) (cards_of hand) ≡ cond (has_card hand card) 1 0
unfolding cards_of deck
count_held hand card inside =
    count_passed (has_card hand) card (range_with_len 0 52)
    ∙ ap (λ k. cond (has_card hand card) k 0) (count_one card 52 0 (omega arith) (omega (arith, inside)))

told_apart : (a b : Bool) → ◌≡◌ {A = ℕ} (cond a 1 0) (cond b 1 0) → a ≡ b
told_apart true true e = refl
told_apart true false e = absurd (omega (arith, e))
told_apart false true e = absurd (omega (arith, e))
told_apart false false e = refl

-- hands with one list of cards have the same cards
same_held : (a b : ℕ) → cards_of a ≡ cards_of b → (card : ℕ) → card < 52 → has_card a card ≡ has_card b card
same_held a b same card inside =
    told_apart (has_card a card) (has_card b card)
    (sym (count_held a card inside) ∙ ap (count_by (λ x. x == card)) same ∙ count_held b card inside)

suit_below : (suit : Suit) → suit_number suit < 4
suit_below Clubs = omega arith
suit_below Diamonds = omega arith
suit_below Hearts = omega arith
suit_below Spades = omega arith

-- so they have the same letters of a suit
same_letters : (a b : ℕ) (suit : Suit) → cards_of a ≡ cards_of b → (ranks : List ℕ) → list_all (λ rank. nat_le rank 14) ranks ≡ true
    → flat_map (letter_of a suit) ranks ≡ flat_map (letter_of b suit) ranks
same_letters a b suit same [] low = refl
same_letters a b suit same (rank ∷ ranks) low =
    let parts = and_parts (nat_le rank 14) (list_all (λ r. nat_le r 14) ranks) low in
    let inside : card_of suit rank < 52 = grind (arith, nat_tests, parts.0, suit_below suit) in
    ap₂ (λ (xs ys : List ℕ). xs ++ ys)
    (ap (λ b. cond b (rank_letter rank ∷ []) []) (same_held a b same (card_of suit rank) inside))
    (same_letters a b suit same ranks parts.1)

same_suit_text : (a b : ℕ) (suit : Suit) → cards_of a ≡ cards_of b → suit_text a suit ≡ suit_text b suit
unfolding suit_text
same_suit_text a b suit same = same_letters a b suit same descending refl

-- hands with one list of cards have one text
pub same_hand_text : (a b : ℕ) → cards_of a ≡ cards_of b → hand_text a ≡ hand_text b
unfolding hand_text
same_hand_text a b same =
    let spades = same_suit_text a b Spades same in
    let hearts = same_suit_text a b Hearts same in
    let diamonds = same_suit_text a b Diamonds same in
    let clubs = same_suit_text a b Clubs same in
    cc

-- hands of the deck with the same lists of cards are the same
same_hands : (xs ys : List ℕ) → All IsCardSet xs → All IsCardSet ys → map cards_of xs ≡ map cards_of ys → xs ≡ ys
same_hands [] [] p q same = refl
same_hands [] (y ∷ ys) p q same = absurd (cc)
same_hands (x ∷ xs) [] p q same = absurd (cc)
same_hands (x ∷ xs) (y ∷ ys) p q same =
    let first : cards_of x ≡ cards_of y = cc in
    let later : map cards_of xs ≡ map cards_of ys = cc in
    ap₂ (λ (z : ℕ) (zs : List ℕ). z ∷ zs)
    (same_cards_of_deck x y (All-head IsCardSet x xs p) (All-head IsCardSet y ys q) (same_held x y first))
    (same_hands xs ys (All-tail IsCardSet x xs p) (All-tail IsCardSet y ys q) later)

-- endings that are seen the same are one
pub same_endings : (one other : EndingValue) → IsEnding one.hands → IsEnding other.hands → plain_ending one ≡ plain_ending other → one ≡ other
same_endings one other p q same =
    let hands : one.hands ≡ other.hands = same_hands one.hands other.hands p.sets q.sets (ap (λ (e : PlainEnding). e.hands) same) in
    let trump = ap (λ (e : PlainEnding). e.trump) same in
    let leader = ap (λ (e : PlainEnding). e.leader) same in
    let made : List ℕ → Option Suit → Seat → EndingValue = λ h t l. record { hands = h; trump = t; leader = l } in
    ap₂ (λ (h : List ℕ) (t : Option Suit). made h t one.leader) hands trump ∙ ap (made other.hands other.trump) leader
