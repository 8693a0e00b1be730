-- The first word of a line that is not as it must be.
use Rattle.std.specs.Prelude.{ℕ, ◌+◌, ◌==◌, if◌then◌else◌, List, [], ◌∷◌, length, Option, None, Some}
use Rattle.std.specs.Borrow.{Bor}
use Rattle.line_text.specs.Words.{spaced_words}
use Rattle.evening_plan.specs.declared.part.Part.{Part}
use Rattle.evening_plan.specs.declared.part.Check.{Check}
use Rattle.evening_plan.specs.declared.misfit.Misfit.{Misfit}
use Rattle.evening_plan.specs.declared.misfit.Misfit.TheVariants.{Lacking, Extra, Empty, Wrong}
use Rattle.evening_plan.specs.Part.{is_fit}

-- the words of what is left of a line, if there is something left
abbrev pub words_left : Option (Bor (List ℕ)) → List (List ℕ)
words_left None = []
words_left (Some text) = spaced_words text.now

-- what is wrong with a word: that it is empty, or is not what its part must be
abbrev pub wrong_at : ℕ → Part → List ℕ → Misfit
wrong_at at part word = if length word == 0 then Empty at else Wrong at part

-- what is wrong with a word of which no part is left: that it is empty, or is one too many
abbrev pub extra_at : ℕ → List ℕ → Misfit
extra_at at word = if length word == 0 then Empty at else Extra at

-- Each word is compared with its part, from the word of that number on, which follows the previous one. The first that is
-- not as it must be; or the first that is lacking, or one too many.
abbrev pub first_misfit : Check → ℕ → List ℕ → List Part → List (List ℕ) → Option Misfit
first_misfit check at previous [] [] = None
first_misfit check at previous [] (word ∷ words) = Some (extra_at at word)
first_misfit check at previous (part ∷ parts) [] = Some (Lacking at)
first_misfit check at previous (part ∷ parts) (word ∷ words) =
    if is_fit check previous part word then first_misfit check (at + 1) word parts words else Some (wrong_at at part word)
