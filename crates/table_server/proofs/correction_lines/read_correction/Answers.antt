use Rattle.std.proofs.Common.{◌≡◌, ℕ, List, ◌∷◌, refl, sym, ap, ◌∙◌}
use Rattle.line_text.specs.Words.{spaced_words}
use Rattle.line_text.proofs.Splits.{some_part}
use Rattle.table_server.specs.CorrectionLine.{correction_after, correction_of}
use Rattle.table_server.proofs.correction_lines.read_correction.Goals as goal

-- a keyword before other words
before_words : (keyword rest : List ℕ) → correction_of (keyword ∷ spaced_words rest) ≡ correction_after keyword (spaced_words rest)
before_words keyword rest = let parts = some_part 32 rest in rw parts.2 refl

pub returns : goal.returns
returns c =
    c.read_after.ensures ∙ sym (ap correction_of c.in_ok-keyword.ensures ∙ before_words c.in_ok-keyword.keyword.now c.in_ok-keyword.rest.now)
