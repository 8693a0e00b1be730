-- The words of a text after its first.
use Rattle.std.proofs.Common.{◌≡◌, ◌≢◌, ℕ, ◌==◌, List, [], ◌∷◌, ◌++◌, refl, ap, ◌∙◌, Bor}
use Rattle.std.specs.Prelude.{Option, Some, None, MatchOption, IfSome, IfNone, All}
use Rattle.std.proofs.lemmas.List.Splits.{slice_split_at, slice_split_none}
use Rattle.line_text.proofs.Splits.{none_separates, some_part}
use Rattle.line_text.specs.Words.{spaced_words, only_word, five_words}

-- what is cut at the first space
pub first_word_of : (text : List ℕ) (r : Option (Bor (List ℕ) × Bor (List ℕ))) → IfSome r (λ parts. text ≡ parts.0.now ++ 32 ∷ parts.1.now) → IfSome r (λ parts. All (λ byte. byte ≢ 32) parts.0.now) → IfNone r (All (λ byte. byte ≢ 32) text) → MatchOption r (spaced_words text ≡ text ∷ []) (λ parts. spaced_words text ≡ parts.0.now ∷ spaced_words parts.1.now)
first_word_of text None whole first none = slice_split_none (λ byte. byte == 32) text (none_separates 32 text none)
first_word_of text (Some parts) whole first none =
    ap spaced_words whole ∙ slice_split_at (λ byte. byte == 32) parts.0.now 32 parts.1.now (none_separates 32 parts.0.now first) refl

-- a text of a word and more is not one word
pub only_word-more : (word : List ℕ) (text : List ℕ) → only_word (word ∷ spaced_words text) ≡ None
only_word-more word text = let rest = some_part 32 text in rw rest.2 refl

-- four words and others that are not one word are not five
pub five_words-only : (a b c d : List ℕ) (words : List (List ℕ)) → only_word words ≡ None → five_words (a ∷ b ∷ c ∷ d ∷ words) ≡ None
five_words-only a b c d [] none = refl
five_words-only a b c d (e ∷ []) none = cc
five_words-only a b c d (e ∷ f ∷ words) none = refl

-- four words and the one word after them are five
pub five_words-some : (a b c d e : List ℕ) (words : List (List ℕ)) → only_word words ≡ Some e → five_words (a ∷ b ∷ c ∷ d ∷ words) ≡ Some (record { first = a; second = b; third = c; fourth = d; fifth = e })
five_words-some a b c d e [] some = cc
five_words-some a b c d e (f ∷ []) some = let same : f ≡ e = cc in rw same refl
five_words-some a b c d e (f ∷ g ∷ words) some = cc
