-- The printed text of a suit and of a hand: how long it is, and that it spells them.
use Rattle.std.proofs.Common.{◌≡◌, ℕ, zero, suc, ◌+◌, ◌≤◌, Bool, true, false, cond, ltb, ◌==◌, ◌⊎◌, inl, inr, List, [], ◌∷◌, ◌++◌, length, refl, sym, ap, ◌∙◌, arith, All, count_by, sum_by, flat_map}
use Rattle.std.specs.List.{range_with_len}
use Rattle.std.proofs.lemmas.List.{append_assoc, length-append}
use Rattle.std.proofs.lemmas.List.Sums.{sum_by-append, sum_by-cons}
use Rattle.std.proofs.lemmas.List.Elements.{All-append, All-nil, All-cons}
use Rattle.std.proofs.lemmas.Bool.{cases_eq, eq-eqb, ne_eqb, lt-ltb, le-ltb, cond-true, cond-false}
use Rattle.std.proofs.lemmas.Bool.Decides.{nat_tests}
use Rattle.bridge_cards.specs.declared.suit.Suit.{Suit}
use Rattle.bridge_cards.specs.declared.suit.Suit.TheVariants.{Clubs, Diamonds, Hearts, Spades}
use Rattle.bridge_cards.specs.Rank.{IsRank, rank_letter}
use Rattle.bridge_cards.specs.Card.{card_of}
use Rattle.bridge_cards.specs.CardSet.{has_card, deck, card_count}
use Rattle.bridge_cards.specs.DealText.{dot, IsRankLetter, SpellsSuit, SpellsHand, descending, letter_of, suit_text, hand_text}
use Rattle.bridge_cards.proofs.CardCounts.{card_count_le}
use Rattle.bridge_cards.proofs.SuitText.{rank_letter_once}

-- the lowest ranks, as many as said, from the highest of them down
abbrev pub lowest_ranks : ℕ → List ℕ
lowest_ranks zero = []
lowest_ranks (suc n) = (n + 2) ∷ lowest_ranks n

-- their letters, as they are printed
unfoldable pub lowest_letters : ℕ → Suit → ℕ → List ℕ
lowest_letters hand suit n = flat_map (letter_of hand suit) (lowest_ranks n)

pub lowest_letters-none : (hand : ℕ) (suit : Suit) → lowest_letters hand suit 0 ≡ []
unfolding lowest_letters
lowest_letters-none hand suit = refl

pub lowest_letters-all : (hand : ℕ) (suit : Suit) → lowest_letters hand suit 13 ≡ suit_text hand suit
unfolding lowest_letters suit_text
lowest_letters-all hand suit = refl

-- one rank more, which the hand has
pub lowest_letters-yes : (hand : ℕ) (suit : Suit) (n : ℕ) → has_card hand (card_of suit (n + 2)) ≡ true → lowest_letters hand suit (suc n) ≡ rank_letter (n + 2) ∷ lowest_letters hand suit n
unfolding lowest_letters
lowest_letters-yes hand suit n h =
    ap (λ b. cond b (rank_letter (n + 2) ∷ []) [] ++ flat_map (letter_of hand suit) (lowest_ranks n)) h

-- one rank more, which it has not
pub lowest_letters-no : (hand : ℕ) (suit : Suit) (n : ℕ) → has_card hand (card_of suit (n + 2)) ≡ false → lowest_letters hand suit (suc n) ≡ lowest_letters hand suit n
unfolding lowest_letters
lowest_letters-no hand suit n h =
    ap (λ b. cond b (rank_letter (n + 2) ∷ []) [] ++ flat_map (letter_of hand suit) (lowest_ranks n)) h

-- a step of the printing, from what is left to what is printed
pub printed_yes : (bytes total : List ℕ) (hand : ℕ) (suit : Suit) (n index : ℕ) → index ≡ suc n → has_card hand (card_of suit (n + 2)) ≡ true
    → bytes ++ lowest_letters hand suit index ≡ total → (bytes ++ rank_letter (n + 2) ∷ []) ++ lowest_letters hand suit n ≡ total
printed_yes bytes total hand suit n index e has h =
    append_assoc bytes (rank_letter (n + 2) ∷ []) (lowest_letters hand suit n)
    ∙ ap (λ l. bytes ++ l) (sym (lowest_letters-yes hand suit n has) ∙ ap (lowest_letters hand suit) (sym e))
    ∙ h

pub printed_no : (bytes total : List ℕ) (hand : ℕ) (suit : Suit) (n index : ℕ) → index ≡ suc n → has_card hand (card_of suit (n + 2)) ≡ false
    → bytes ++ lowest_letters hand suit index ≡ total → bytes ++ lowest_letters hand suit n ≡ total
printed_no bytes total hand suit n index e has h =
    ap (λ l. bytes ++ l) (sym (lowest_letters-no hand suit n has) ∙ ap (lowest_letters hand suit) (sym e)) ∙ h

-- and it has room for one letter more
pub printed_room : (bytes total : List ℕ) (hand : ℕ) (suit : Suit) (n index : ℕ) → index ≡ suc n → has_card hand (card_of suit (n + 2)) ≡ true
    → bytes ++ lowest_letters hand suit index ≡ total → length bytes + 1 ≤ length total
printed_room bytes total hand suit n index e has h =
    let whole = ap length (printed_yes bytes total hand suit n index e has h) in
    omega (arith, whole, length-append (bytes ++ rank_letter (n + 2) ∷ []) (lowest_letters hand suit n), length-append bytes (rank_letter (n + 2) ∷ []))

-- how often a rank's letter stands where one rank is printed
one_counted : (hand : ℕ) (suit : Suit) (rank other : ℕ) → IsRank rank → IsRank other
    → count_by (λ l. l == rank_letter rank) (letter_of hand suit other) ≡ cond (other == rank) (cond (has_card hand (card_of suit rank)) 1 0) 0
one_counted hand suit rank other r o = go (cases_eq other rank)
  where
    at : (b : Bool) (l : ℕ) (t : Bool) → (l == rank_letter rank) ≡ t → count_by (λ x. x == rank_letter rank) (cond b (l ∷ []) []) ≡ cond t (cond b 1 0) 0
    at true l true e = ap (λ t. 0 + cond t 1 0) e
    at true l false e = ap (λ t. 0 + cond t 1 0) e
    at false l true e = refl
    at false l false e = refl

    go : (other ≡ rank) ⊎ (other ≡ rank → ⊥) → count_by (λ l. l == rank_letter rank) (letter_of hand suit other) ≡ cond (other == rank) (cond (has_card hand (card_of suit rank)) 1 0) 0
    go (inl e) =
        at (has_card hand (card_of suit other)) (rank_letter other) true (eq-eqb (rank_letter other) (rank_letter rank) (ap rank_letter e))
        ∙ ap (λ q. cond (has_card hand (card_of suit q)) 1 0) e
        ∙ sym (ap (λ t. cond t (cond (has_card hand (card_of suit rank)) 1 0) 0) (eq-eqb other rank e))
    go (inr ne) =
        at (has_card hand (card_of suit other)) (rank_letter other) false (ne_eqb (rank_letter other) (rank_letter rank) (λ e. ne (rank_letter_once other rank o r e)))
        ∙ sym (ap (λ t. cond t (cond (has_card hand (card_of suit rank)) 1 0) 0) (ne_eqb other rank ne))

joined : (x n rank : ℕ) → cond (n + 2 == rank) x 0 + cond (ltb rank (n + 2)) x 0 ≡ cond (ltb rank (suc n + 2)) x 0
joined x n rank = grind (arith, nat_tests)

-- how often it stands where the lowest ranks are printed
lowest_counted : (hand : ℕ) (suit : Suit) (rank n : ℕ) → IsRank rank → n ≤ 13
    → count_by (λ l. l == rank_letter rank) (flat_map (letter_of hand suit) (lowest_ranks n)) ≡ cond (ltb rank (n + 2)) (cond (has_card hand (card_of suit rank)) 1 0) 0
lowest_counted hand suit rank zero r h = sym (cond-false (ltb rank 2) (cond (has_card hand (card_of suit rank)) 1 0) 0 (le-ltb rank 2 r.0))
lowest_counted hand suit rank (suc n) r h =
    sum_by-append (λ l. cond (l == rank_letter rank) 1 0) (letter_of hand suit (n + 2)) (flat_map (letter_of hand suit) (lowest_ranks n))
    ∙ ap (λ x. x + count_by (λ l. l == rank_letter rank) (flat_map (letter_of hand suit) (lowest_ranks n))) (one_counted hand suit rank (n + 2) r (omega arith, omega arith))
    ∙ ap (λ x. cond (n + 2 == rank) (cond (has_card hand (card_of suit rank)) 1 0) 0 + x) (lowest_counted hand suit rank n r (omega arith))
    ∙ joined (cond (has_card hand (card_of suit rank)) 1 0) n rank

-- the printed letters of a suit spell it
pub suit_text_spells : (hand : ℕ) (suit : Suit) → SpellsSuit hand suit (suit_text hand suit)
unfolding suit_text
suit_text_spells hand suit = record {
  ranks_only = only 13 (omega arith);
  once = λ rank r.
      lowest_counted hand suit rank 13 r (omega arith) ∙ cond-true (ltb rank 15) (cond (has_card hand (card_of suit rank)) 1 0) 0 (lt-ltb rank 15 (omega arith));
}
  where
    one : (rank : ℕ) → IsRank rank → (b : Bool) → All IsRankLetter (cond b (rank_letter rank ∷ []) [])
    one rank r true = All-cons IsRankLetter (rank_letter rank) [] (rank, r, refl) (All-nil IsRankLetter)
    one rank r false = All-nil IsRankLetter

    only : (n : ℕ) → n ≤ 13 → All IsRankLetter (flat_map (letter_of hand suit) (lowest_ranks n))
    only zero h = All-nil IsRankLetter
    only (suc n) h =
        All-append IsRankLetter (letter_of hand suit (n + 2)) (flat_map (letter_of hand suit) (lowest_ranks n))
        (one (n + 2) (omega arith, omega arith) (has_card hand (card_of suit (n + 2)))) (only n (omega arith))

-- how many letters are printed of a suit
suit_count : (hand : ℕ) (suit : Suit) (ranks : List ℕ) → length (flat_map (letter_of hand suit) ranks) ≡ count_by (λ rank. has_card hand (card_of suit rank)) ranks
suit_count hand suit [] = refl
suit_count hand suit (rank ∷ ranks) =
    length-append (letter_of hand suit rank) (flat_map (letter_of hand suit) ranks)
    ∙ ap (λ n. n + length (flat_map (letter_of hand suit) ranks)) (one (has_card hand (card_of suit rank)))
    ∙ ap (λ n. cond (has_card hand (card_of suit rank)) 1 0 + n) (suit_count hand suit ranks)
    ∙ sym (sum_by-cons (λ q. cond (has_card hand (card_of suit q)) 1 0) rank ranks)
  where
    one : (b : Bool) → length (cond b (rank_letter rank ∷ []) []) ≡ cond b 1 0
    one true = refl
    one false = refl

-- the cards of the four suits are those of the deck
four_suits : (f : ℕ → ℕ)
    → sum_by (λ rank. f (card_of Spades rank)) descending + sum_by (λ rank. f (card_of Hearts rank)) descending
    + sum_by (λ rank. f (card_of Diamonds rank)) descending + sum_by (λ rank. f (card_of Clubs rank)) descending ≡ sum_by f (range_with_len 0 52)
four_suits f = omega arith

suits_counted : (hand : ℕ)
    → count_by (λ rank. has_card hand (card_of Spades rank)) descending + count_by (λ rank. has_card hand (card_of Hearts rank)) descending
    + count_by (λ rank. has_card hand (card_of Diamonds rank)) descending + count_by (λ rank. has_card hand (card_of Clubs rank)) descending ≡ card_count hand
unfolding card_count deck
suits_counted hand = four_suits (λ card. cond (has_card hand card) 1 0)

length-suit_text : (hand : ℕ) (suit : Suit) → length (suit_text hand suit) ≡ count_by (λ rank. has_card hand (card_of suit rank)) descending
unfolding suit_text
length-suit_text hand suit = suit_count hand suit descending

with_dots : (s h d k : List ℕ) (n : ℕ) → length s + length h + length d + length k ≡ n → length (s ++ dot ∷ (h ++ dot ∷ (d ++ dot ∷ k))) ≡ n + 3
with_dots s h d k n e =
    omega (arith, length-append s (dot ∷ (h ++ dot ∷ (d ++ dot ∷ k))), length-append h (dot ∷ (d ++ dot ∷ k)), length-append d (dot ∷ k))

-- a hand's text has a byte for each card, and three dots
pub length-hand_text : (hand : ℕ) → length (hand_text hand) ≡ card_count hand + 3
unfolding hand_text
length-hand_text hand =
    let s = suit_text hand Spades in
    let h = suit_text hand Hearts in
    let d = suit_text hand Diamonds in
    let k = suit_text hand Clubs in
    let counted : length s + length h + length d + length k ≡ card_count hand
    = rw (length-suit_text hand Spades, length-suit_text hand Hearts, length-suit_text hand Diamonds, length-suit_text hand Clubs) (suits_counted hand) in
    with_dots s h d k (card_count hand) counted

-- and takes 55 bytes at most
pub hand_text_short : (hand : ℕ) → length (hand_text hand) ≤ 55
hand_text_short hand = omega (arith, length-hand_text hand, card_count_le hand)

-- a hand's text by its suits
pub hand_text_is : (hand : ℕ) → hand_text hand
    ≡ suit_text hand Spades ++ dot ∷ (suit_text hand Hearts ++ dot ∷ (suit_text hand Diamonds ++ dot ∷ suit_text hand Clubs))
unfolding hand_text
hand_text_is hand = refl

pub length-hand_text_of_suits : (hand : ℕ) → length (hand_text hand)
    ≡ length (suit_text hand Spades) + length (suit_text hand Hearts) + length (suit_text hand Diamonds) + length (suit_text hand Clubs) + 3
unfolding hand_text
length-hand_text_of_suits hand =
    with_dots (suit_text hand Spades) (suit_text hand Hearts) (suit_text hand Diamonds) (suit_text hand Clubs) _ refl

-- a hand's printed text spells it
pub hand_text_spells : (hand : ℕ) → SpellsHand hand (hand_text hand)
unfolding hand_text
hand_text_spells hand = record {
  before = _;
  after = _;
  first = suit_text_spells hand Spades;
  rest = record {
    before = _;
    after = _;
    first = suit_text_spells hand Hearts;
    rest = record {
      before = _;
      after = _;
      first = suit_text_spells hand Diamonds;
      rest = suit_text_spells hand Clubs;
      whole = refl;
    };
    whole = refl;
  };
  whole = refl;
}
