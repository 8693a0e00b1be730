-- Averages by Law 12C2.
use Rattle.std.specs.Prelude.{ℕ, ◌==◌, if◌then◌else◌, Option, None, Some}
use Rattle.session_rules.specs.declared.average.Average.{Average}
use Rattle.session_rules.specs.declared.average.Average.TheVariants.{Minus, Even, Plus}

-- per cent of the matchpoints available
abbrev pub percent_of : Average → ℕ
percent_of Minus = 40
percent_of Even = 50
percent_of Plus = 60

-- the average of so many per cent
abbrev pub average_of : ℕ → Option Average
average_of percent =
    if percent == 40 then Some Minus else if percent == 50 then Some Even else if percent == 60 then Some Plus else None
