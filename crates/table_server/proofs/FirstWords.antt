-- The first of several words, read.
use Rattle.std.proofs.Common.{◌≡◌, ℕ, List, ◌∷◌, Option, Some, refl, sym, ap, ◌∙◌}
use Rattle.std.specs.Option.{option_map}
use Rattle.line_text.specs.Words.{spaced_words}
use Rattle.line_text.proofs.Splits.{some_part}
use Rattle.table_server.specs.LineWords.{first_of}

-- a word before others is the first of several
first_more : {A : Type 0} (read : List ℕ → Option A) (word rest : List ℕ) → first_of read (word ∷ spaced_words rest) ≡ option_map (λ value. (value, spaced_words rest)) (read word)
first_more read word rest = let parts = some_part 32 rest in rw parts.2 refl

-- a first word that is read
pub first_read : {A : Type 0} (read : List ℕ → Option A) (text word rest : List ℕ) (value : A) → spaced_words text ≡ word ∷ spaced_words rest → Some value ≡ read word → first_of read (spaced_words text) ≡ Some (value, spaced_words rest)
first_read read text word rest value parts found =
    ap (first_of read) parts ∙ first_more read word rest ∙ ap (option_map (λ v. (v, spaced_words rest))) (sym found)
