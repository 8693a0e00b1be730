-- Keys that nobody has.
use Rattle.std.specs.Prelude.{ℕ, Bool, false, List}
use Rattle.std.specs.Option.{option_map_or}
use Rattle.bridge_config.specs.ConfigValue.{ConfigValue}
use Rattle.bridge_config.specs.declared.fields.Key.{Key}
use Rattle.session_rules.specs.State.{is_nobodys}
use Rattle.line_replies.specs.KeyWord.{key_of_word}

-- whether these bytes are a key that is nobody's
abbrev pub is_wrong_key : ConfigValue → List ℕ → Bool
is_wrong_key configuration bytes = option_map_or (λ (key : Key). is_nobodys configuration key.0) (key_of_word bytes) false
