-- The card that a word is the text of.
use Rattle.std.proofs.Common.{◌≡◌, ℕ, ◌+◌, ◌/◌, ◌%◌, ◌<◌, Bool, true, false, List, length, get_or, Option, Some, None, refl, sym, ap, ◌∙◌, arith, zero-add}
use Rattle.std.specs.Prelude.{position, IfSome, IfNone}
use Rattle.std.specs.List.{range_with_len, position_or_len}
use Rattle.std.proofs.lemmas.List.Sums.{fails_before_first}
use Rattle.std.specs.Str.{bytes_eq}
use Rattle.std.proofs.lemmas.Bool.Decides.{nat_tests}
use Rattle.std.proofs.lemmas.Grind.{common_steps}
use Rattle.std.proofs.lemmas.List.Quantifiers.{position-Some}
use Rattle.std.proofs.lemmas.List.FromFn.{length-range_with_len, get_or-range_with_len}
use Rattle.line_text.proofs.WordLaws.{same_word, word_itself}
use Rattle.bridge_cards.specs.Rank.{IsRank, rank_letter}
use Rattle.bridge_cards.specs.Suit.{suit_at, suit_letter}
use Rattle.bridge_cards.specs.Card.{IsCard, card_text, card_suit, card_rank}
use Rattle.table_server.specs.LineWords.{card_of_word}

-- two ranks have two letters
rank_once : (a b : ℕ) → IsRank a → IsRank b → rank_letter a ≡ rank_letter b → a ≡ b
unfolding rank_letter
rank_once a b p q e = grind (arith, nat_tests)

-- two indexes have two letters
suit_once : (a b : ℕ) → a < 4 → b < 4 → suit_letter (suit_at a) ≡ suit_letter (suit_at b) → a ≡ b
suit_once a b p q e = grind (arith, nat_tests)

-- two cards have two texts
text_once : (c d : ℕ) → c < 52 → d < 52 → card_text c ≡ card_text d → c ≡ d
text_once c d p q e =
    let suits : suit_letter (card_suit c) ≡ suit_letter (card_suit d) = cc in
    let ranks : rank_letter (card_rank c) ≡ rank_letter (card_rank d) = cc in
    let same_suit : c / 13 ≡ d / 13 = suit_once (c / 13) (d / 13) (omega arith) (omega arith) suits in
    let same_rank : c % 13 + 2 ≡ d % 13 + 2 = rank_once (c % 13 + 2) (d % 13 + 2) (omega arith, omega arith) (omega arith, omega arith) ranks in
    omega (arith, same_suit, same_rank)

abbrev pub has_text : List ℕ → ℕ → Bool
has_text word card = bytes_eq (card_text card) word

true_not_false : true ≡ false → ⊥
true_not_false e = cc

-- the test at an index of the deck is that of the card of that number
test_at : (word : List ℕ) (card : ℕ) → card < 52 → has_text word (get_or (range_with_len 0 52) card 0) ≡ has_text word card
test_at word card inside = ap (has_text word) (get_or-range_with_len 0 52 card 0 inside ∙ zero-add card)

-- a card's text is that of this card alone
found_is : (word : List ℕ) (card : ℕ) (found : Option ℕ) → card < 52 → word ≡ card_text card → position (has_text word) (range_with_len 0 52) ≡ found → found ≡ Some card
found_is word card None inside same at =
    let none : position_or_len (has_text word) (range_with_len 0 52) ≡ length (range_with_len 0 52) = grind (arith, common_steps) in
    let count = length-range_with_len 0 52 in
    let fails = fails_before_first (has_text word) (range_with_len 0 52) card 0 (omega arith) in
    let passes : has_text word card ≡ true = ap (bytes_eq (card_text card)) same ∙ word_itself (card_text card) in
    let tested = test_at word card inside in
    absurd (true_not_false (sym passes ∙ sym tested ∙ fails))
found_is word card (Some i) inside same at =
    let first = position-Some (has_text word) (range_with_len 0 52) i 0 at in
    let count = length-range_with_len 0 52 in
    let low : i < 52 = omega (arith, first.0, count) in
    let text : card_text i ≡ word = same_word (card_text i) word (sym (test_at word i low) ∙ first.1) in
    ap (λ (n : ℕ). Some n) (text_once i card low inside (text ∙ same))

-- and no other word is a card's
none_is : (word : List ℕ) (found : Option ℕ) → ((card : ℕ) → IsCard card → word ≡ card_text card → ⊥) → position (has_text word) (range_with_len 0 52) ≡ found → found ≡ None
none_is word None none at = refl
none_is word (Some i) none at =
    let first = position-Some (has_text word) (range_with_len 0 52) i 0 at in
    let count = length-range_with_len 0 52 in
    let low : i < 52 = omega (arith, first.0, count) in
    absurd (none i low (sym (same_word (card_text i) word (sym (test_at word i low) ∙ first.1))))

-- what reading a card gives is the card of the word
pub card_read : (word : List ℕ) (r : Option ℕ) → IfSome r (λ card. IsCard card × (word ≡ card_text card)) → IfNone r ((card : ℕ) → IsCard card → word ≡ card_text card → ⊥) → r ≡ card_of_word word
card_read word None card none = sym (none_is word (card_of_word word) none refl)
card_read word (Some card) is none = sym (found_is word card (card_of_word word) is.0 is.1 refl)
