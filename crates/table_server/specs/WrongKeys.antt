-- Keys that nobody has, as lines have them.
use Rattle.std.specs.Prelude.{ℕ, Bool, false, List, Option, None, Some}
use Rattle.std.specs.List.{count_by}
use Rattle.std.specs.Option.{option_map_or}
use Rattle.bridge_config.specs.ConfigValue.{ConfigValue}
use Rattle.bridge_config.specs.declared.fields.Key.{Key}
use Rattle.session_rules.specs.Act.{act_of, key_of}
use Rattle.session_rules.specs.State.{is_nobodys}
use Rattle.table_server.specs.declared.asked.Asked.{Asked}
use Rattle.table_server.specs.declared.asked.Asked.TheVariants.{Change, Told, BadLine, LongLine}
use Rattle.table_server.specs.declared.asked.Question.{Question}
use Rattle.table_server.specs.declared.asked.Question.TheVariants.{Sync, See, Rank, Solve, Pbn}

-- the key of a question
abbrev pub key_of_question : Question → Option Key
key_of_question Sync = None
key_of_question (See key) = Some key
key_of_question (Rank key field) = Some key
key_of_question (Solve key play cards) = Some key
key_of_question (Pbn key) = Some key

-- the key of a line, if it has one
abbrev pub key_asked : Asked → Option Key
key_asked (Change action) = Some (key_of (act_of action))
key_asked (Told question) = key_of_question question
key_asked BadLine = None
key_asked LongLine = None

-- whether a line has a key that is nobody's
abbrev pub has_wrong_key : ConfigValue → Asked → Bool
has_wrong_key configuration asked = option_map_or (λ (key : Key). is_nobodys configuration key.0) (key_asked asked) false

-- how many lines have one
abbrev pub wrong_keys : ConfigValue → List Asked → ℕ
wrong_keys configuration asked = count_by (has_wrong_key configuration) asked
