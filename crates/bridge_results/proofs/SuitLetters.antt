-- The letters of a hand in a suit, of which some have been printed.
use Rattle.std.proofs.Common.{◌≡◌, ℕ, ◌+◌, ◌-◌, List, [], ◌∷◌, ◌++◌, refl, ap, ◌∙◌, append-nil, add-one, arith}
use Rattle.std.specs.Prelude.{flat_map}
use Rattle.std.specs.List.{range_with_len}
use Rattle.std.proofs.lemmas.List.Concat.{flat_map-append}
use Rattle.session_rules.proofs.Lists.{range-push}
use Rattle.bridge_cards.specs.declared.suit.Suit.{Suit}
use Rattle.page_layout.specs.declared.format.Format.{Format}
use Rattle.bridge_results.specs.Diagram.{rank_in, suit_in}

-- the letter at an index, from the ace down
abbrev pub letter_at : Format → ℕ → Suit → ℕ → List ℕ
letter_at format hand suit index = rank_in format hand suit (14 - index)

-- the letters of so many ranks, from the ace down
unfoldable pub letters_to : Format → ℕ → Suit → ℕ → List ℕ
letters_to format hand suit count = flat_map (letter_at format hand suit) (range_with_len 0 count)

-- of one rank more
pub letters_more : (format : Format) (hand : ℕ) (suit : Suit) (n : ℕ) (before after : List ℕ) → before ≡ letters_to format hand suit n → after ≡ before ++ rank_in format hand suit (14 - n) → after ≡ letters_to format hand suit (n + 1)
unfolding letters_to
letters_more format hand suit n before after first second =
    let more : range_with_len 0 (n + 1) ≡ range_with_len 0 n ++ n ∷ [] = rw (add-one, range-push 0 n) (ap (λ i. range_with_len 0 n ++ i ∷ []) (omega arith)) in
    second ∙ ap (λ text. text ++ rank_in format hand suit (14 - n)) first
    ∙ rw (more, flat_map-append (letter_at format hand suit) (range_with_len 0 n) (n ∷ []), append-nil (rank_in format hand suit (14 - n))) refl

-- of all ranks
pub letters_all : (format : Format) (hand : ℕ) (suit : Suit) → letters_to format hand suit 13 ≡ suit_in format hand suit
unfolding letters_to suit_in
letters_all format hand suit = refl

-- of none
pub letters_none : (format : Format) (hand : ℕ) (suit : Suit) → [] ≡ letters_to format hand suit 0
unfolding letters_to
letters_none format hand suit = refl
