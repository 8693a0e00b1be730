-- How much is read, and what is written where more may stand there.
use Rattle.std.specs.Prelude.{ℕ, Bool, true, false, List, [], codes}

-- no more than this is read
abbrev pub byte_limit : ℕ
byte_limit = 65536

-- what stands before the last line, where the limit was reached
abbrev pub limit_notice : Bool → List ℕ
limit_notice true = codes "ERR 32 TooMuch\n"
limit_notice false = []
