-- Why a text is no configuration.
use Rattle.std.specs.Prelude.{ℕ, List, codes}
use Rattle.bridge_movement.specs.Refused.{refusal_name as movement_name}
use Rattle.bridge_config.specs.declared.refused.ConfigRefused.{ConfigRefused}
use Rattle.bridge_config.specs.declared.refused.ConfigRefused.TheVariants.{TooLong, Form, Range, KeyTwice, Movement}

-- what is wrong, in a word; of a movement that is refused, why
abbrev pub refusal_name : ConfigRefused → List ℕ
refusal_name TooLong = codes "TooLong"
refusal_name Form = codes "Form"
refusal_name Range = codes "Range"
refusal_name KeyTwice = codes "KeyTwice"
refusal_name (Movement refused) = movement_name refused
