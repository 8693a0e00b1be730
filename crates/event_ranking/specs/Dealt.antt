-- What was dealt in any of several sections.
use Rattle.std.specs.Prelude.{ℕ, List, [], ◌∷◌, Option, None}
use Rattle.std.specs.Option.{option_or}
use Rattle.session_rules.specs.State.{SessionValue, deal_on}

-- the deal of a board, of the first section that has it dealt
abbrev pub first_deal : List SessionValue → ℕ → Option (List ℕ)
first_deal [] board = None
first_deal (s ∷ sections) board = option_or (deal_on s.deals board) (first_deal sections board)
