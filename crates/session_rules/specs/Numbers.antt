-- The ranges of the numbers that an action names.
use Rattle.std.specs.Prelude.{ℕ, ◌≤◌}

-- there are at most 12 rounds and 12 tables
abbrev pub IsRoundNumber : ℕ → Type 0
IsRoundNumber number = (1 ≤ number) × (number ≤ 12)

-- a table of a round
abbrev pub IsTableNumber : ℕ → Type 0
IsTableNumber number = (1 ≤ number) × (number ≤ 12)

-- the boards of a set are 1 to 3
abbrev pub IsBoardIndex : ℕ → Type 0
IsBoardIndex number = (1 ≤ number) × (number ≤ 3)

-- a board has 13 tricks
abbrev pub IsTrickCount : ℕ → Type 0
IsTrickCount number = number ≤ 13

-- how many calls, cards or claims were made
abbrev pub IsMadeCount : ℕ → Type 0
IsMadeCount number = number ≤ 999
