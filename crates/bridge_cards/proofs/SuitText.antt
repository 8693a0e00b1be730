-- The text of one suit of a hand.
use Rattle.std.proofs.Common.{◌≡◌, ℕ, ◌+◌, ◌/◌, ◌<◌, Bool, true, false, cond, ◌||◌, ◌==◌, ◌⊎◌, inl, inr, List, [], ◌∷◌, ◌++◌, refl, sym, ap, ◌∙◌, subst, arith, add-zero, count_by, take, get_or, length}
use Rattle.std.proofs.lemmas.List.{take_more}
use Rattle.std.proofs.lemmas.List.Sums.{sum_by_push}
use Rattle.std.proofs.lemmas.List.Elements.{All-push}
use Rattle.std.proofs.lemmas.Bool.{cases_eq, eq-eqb, ne_eqb, or_right, both_ways}
use Rattle.std.proofs.lemmas.Bool.Decides.{nat_tests}
use Rattle.bridge_cards.specs.declared.suit.Suit.{Suit}
use Rattle.bridge_cards.specs.Suit.{suit_number}
use Rattle.bridge_cards.specs.Rank.{IsRank, rank_letter}
use Rattle.bridge_cards.specs.Card.{card_of}
use Rattle.bridge_cards.specs.CardSet.{has_card, is_of_suit}
use Rattle.bridge_cards.specs.DealText.{SpellsSuit, IsRankLetter}

-- two ranks have two letters
pub rank_letter_once : (q r : ℕ) → IsRank q → IsRank r → rank_letter q ≡ rank_letter r → q ≡ r
unfolding rank_letter
rank_letter_once q r p p' e = grind (arith, nat_tests)

-- no rank's letter is a dot or a space
pub rank_letter_above : (letter : ℕ) → IsRankLetter letter → 46 < letter
unfolding rank_letter
rank_letter_above letter h = grind (arith, nat_tests, h.0, h.1, h.2)

-- the count of a rank's letter, with one more letter
count_push : (rank : ℕ) (letters : List ℕ) (letter : ℕ) → count_by (λ l. l == rank_letter rank) (letters ++ letter ∷ []) ≡ count_by (λ l. l == rank_letter rank) letters + cond (letter == rank_letter rank) 1 0
count_push rank letters letter = sum_by_push (λ l. cond (l == rank_letter rank) 1 0) letters letter

or_false : (b : Bool) → (b || false) ≡ b
or_false true = refl
or_false false = refl

same_rank : (suit : Suit) (q r : ℕ) → IsRank q → IsRank r → card_of suit q ≡ card_of suit r → q ≡ r
same_rank suit q r p p' e = omega arith

-- one more letter, of a card that was not there
pub SpellsSuit-push : (hand new : ℕ) (suit : Suit) (letters : List ℕ) (letter rank : ℕ) → SpellsSuit hand suit letters → IsRank rank → rank_letter rank ≡ letter
    → has_card hand (card_of suit rank) ≡ false → ((other : ℕ) → has_card new other ≡ (has_card hand other || other == card_of suit rank)) → SpellsSuit new suit (letters ++ letter ∷ [])
SpellsSuit-push hand new suit letters letter rank spelled is_rank is_letter absent added = record {
  ranks_only = All-push IsRankLetter letters letter spelled.ranks_only (rank, is_rank, is_letter);
  once = λ other is_other. once other is_other (cases_eq other rank);
}
  where
    once : (other : ℕ) → IsRank other → (other ≡ rank) ⊎ (other ≡ rank → ⊥) → count_by (λ l. l == rank_letter other) (letters ++ letter ∷ []) ≡ cond (has_card new (card_of suit other)) 1 0
    once other is_other (inl same) =
        let card : card_of suit other ≡ card_of suit rank = ap (card_of suit) same in
        let none : has_card hand (card_of suit other) ≡ false = ap (has_card hand) card ∙ absent in
        let now = added (card_of suit other) ∙ or_right (has_card hand (card_of suit other)) (card_of suit other == card_of suit rank) (eq-eqb (card_of suit other) (card_of suit rank) card) in
        let is = eq-eqb letter (rank_letter other) (sym is_letter ∙ ap rank_letter (sym same)) in
        count_push other letters letter
        ∙ ap (λ n. n + cond (letter == rank_letter other) 1 0) (spelled.once other is_other ∙ ap (λ b. cond b 1 0) none)
        ∙ ap (λ b. 0 + cond b 1 0) is
        ∙ sym (ap (λ b. cond b 1 0) now)
    once other is_other (inr differ) =
        let other_card : card_of suit other ≡ card_of suit rank → ⊥ = λ e. differ (same_rank suit other rank is_other is_rank e) in
        let now = added (card_of suit other) ∙ ap (λ b. has_card hand (card_of suit other) || b) (ne_eqb (card_of suit other) (card_of suit rank) other_card) ∙ or_false (has_card hand (card_of suit other)) in
        let is_not = ne_eqb letter (rank_letter other) (λ e. differ (rank_letter_once other rank is_other is_rank (sym e ∙ sym is_letter))) in
        count_push other letters letter
        ∙ ap (λ b. count_by (λ l. l == rank_letter other) letters + cond b 1 0) is_not
        ∙ add-zero (count_by (λ l. l == rank_letter other) letters)
        ∙ spelled.once other is_other
        ∙ sym (ap (λ b. cond b 1 0) now)

-- the first letters and one more
pub SpellsSuit-more : (hand new : ℕ) (suit : Suit) (letters : List ℕ) (index letter rank : ℕ) → index < length letters → letter ≡ get_or letters index 0
    → SpellsSuit hand suit (take index letters) → IsRank rank → rank_letter rank ≡ letter → has_card hand (card_of suit rank) ≡ false
    → ((other : ℕ) → has_card new other ≡ (has_card hand other || other == card_of suit rank)) → SpellsSuit new suit (take (index + 1) letters)
SpellsSuit-more hand new suit letters index letter rank inside at spelled is_rank is_letter absent added =
    let grown : take (index + 1) letters ≡ take index letters ++ letter ∷ []
    = take_more letters index 0 inside ∙ ap (λ l. take index letters ++ l ∷ []) (sym at) in
    subst (SpellsSuit new suit) (sym grown) (SpellsSuit-push hand new suit (take index letters) letter rank spelled is_rank is_letter absent added)

-- a card is of its suit
pub is_of_suit-card_of : (suit : Suit) (rank : ℕ) → IsRank rank → is_of_suit suit (card_of suit rank) ≡ true
is_of_suit-card_of suit rank h = eq-eqb (card_of suit rank / 13) (suit_number suit) (omega arith)

-- a card that is not of the suit is none of the suit's
pub other_suit : (suit : Suit) (rank card : ℕ) → IsRank rank → is_of_suit suit card ≡ false → (card == card_of suit rank) ≡ false
other_suit suit rank card h other =
    ne_eqb card (card_of suit rank) (λ same. both_ways (is_of_suit suit card) other (ap (is_of_suit suit) same ∙ is_of_suit-card_of suit rank h))
