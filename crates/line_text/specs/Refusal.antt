-- The line that answers a refused line.
use Rattle.std.specs.Prelude.{ℕ, List, ◌++◌, codes}
use Rattle.std.specs.Fmt.{decimal}

-- `ERR`, the refusal's number and its name
abbrev pub refusal_line : ℕ → List ℕ → List ℕ
refusal_line number name = (((codes "ERR " ++ decimal number) ++ codes " ") ++ name) ++ codes "\n"
