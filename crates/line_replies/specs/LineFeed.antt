-- Lines of which no more than 129 bytes are kept, which tells that a line is too long.
use Rattle.std.specs.Prelude.{ℕ, List, take, map}
use Rattle.line_text.specs.Lines.{complete_lines}

-- what is kept of each complete line
abbrev pub kept_lines : List ℕ → List (List ℕ)
kept_lines bytes = map (take 129) (complete_lines bytes)
