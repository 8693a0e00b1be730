-- Why `draft`, `slips` or `evening` stops: the line that names it, and what is said before.
use Rattle.std.specs.Prelude.{◌≡◌, ◌⊎◌, ℕ, List, [], ◌++◌, codes, Result, IfErr, IsErrAnd}
use Rattle.std.specs.Fmt.{decimal}
use Rattle.bridge_config.specs.Refused.{refusal_name}
use Rattle.bridge_config.specs.declared.refused.ConfigFault.{ConfigFault}
use Rattle.evening_draft.specs.NamesFaultText as names_fault
use Rattle.evening_draft.specs.declared.names_refused.NamesFault.{NamesFault}
use Rattle.evening_draft.specs.declared.names_refused.NamesRefused.{NamesRefused}
use Rattle.evening_draft.specs.declared.names_refused.NamesRefused.TheVariants.{OneName, NoName, NotText, Character, LongName, TooManyPairs, TooFewPairs, TooManyLines}
use Rattle.line_text.specs.Streams.{Stream, Takes, TakesPrefix, Written}
use Rattle.evening_commands.specs.declared.fault.EveningFault.{EveningFault}
use Rattle.evening_commands.specs.declared.fault.EveningFault.TheVariants.{Read, Write, Random, Clock, Config, Names, LongList, OtherPairs, NoMovement, NoScoring, Seed, Movement, Keys, Heading, Address}

-- how a command ended
abbrev pub Made : Type 0
Made = Result (Unit {0}) EveningFault

-- a text is written, or a prefix of it where a write failed, which is the fault
abbrev pub Writes : Stream → List ℕ → Made → Type 0
Writes output text ended = Written output text ended × IfErr ended (λ fault. fault ≡ Write)

-- a text is written, and that is the fault; or a prefix of it, as a write failed, which is the fault then
abbrev pub StopsBy : Stream → List ℕ → EveningFault → EveningFault → Type 0
StopsBy output text cause fault = (Takes output text × (fault ≡ cause)) ⊎ (TakesPrefix output text × (fault ≡ Write))

-- so a command stops
abbrev pub WritesAndStops : Stream → List ℕ → EveningFault → Made → Type 0
WritesAndStops output text cause ended = IsErrAnd ended (StopsBy output text cause)

-- what is due, and why it is refused; of a list's line, a configuration and the system nothing
abbrev pub due_words : EveningFault → List ℕ
due_words LongList = codes "due: a list of at most 16,384 bytes\nrefused: it is longer\n"
due_words OtherPairs = codes "due: a list with the configuration's pairs\nrefused: it has another number of pairs\n"
due_words NoMovement = codes "due: a movement, mitchell or howell\nrefused: it has another name\n"
due_words NoScoring = codes "due: a scoring, mp or imp\nrefused: it has another name\n"
due_words Seed = codes "due: a seed of 64 hexadecimal digits\nrefused: it is none\n"
due_words Movement = codes "due: for a Howell 3 to 12 pairs\nrefused: the list has more\n"
due_words Keys = codes "due: a seed that gives different keys\nrefused: it gives too few\n"
due_words Heading =
    codes "due: for event and site 1 to 24 ASCII letters, digits, dots, hyphens and underscores, and a date as 2026.03.14\nrefused: one of them is none\n"
due_words Address = codes "due: an address of at most 100 bytes\nrefused: it is longer\n"
due_words Read = []
due_words Write = []
due_words Random = []
due_words Clock = []
due_words (Config fault) = []
due_words (Names fault) = []

-- what standard output takes of a fault: of a list its line, what is due, and why
abbrev pub fault_words : EveningFault → List ℕ
fault_words (Names fault) = names_fault.fault_text fault
fault_words fault = due_words fault

-- the number of the configuration's line, and what is wrong with it
abbrev pub config_line : ConfigFault → List ℕ
config_line fault = (((codes "config line " ++ decimal fault.line) ++ codes ": ") ++ refusal_name fault.cause) ++ codes "\n"

-- the name of what is wrong with a line of names
abbrev pub names_name : NamesRefused → List ℕ
names_name OneName = codes "OneName"
names_name NoName = codes "NoName"
names_name NotText = codes "NotText"
names_name Character = codes "Character"
names_name LongName = codes "LongName"
names_name TooManyPairs = codes "TooManyPairs"
names_name TooFewPairs = codes "TooFewPairs"
names_name TooManyLines = codes "TooManyLines"

-- the number of the line of names, and what is wrong with it
abbrev pub names_line : NamesFault → List ℕ
names_line fault = (((codes "names line " ++ decimal fault.line) ++ codes ": ") ++ names_name fault.cause) ++ codes "\n"

-- the line on standard error that names a fault; what the system does not give counts as what cannot be read
abbrev pub evening_line : EveningFault → List ℕ
evening_line Read = codes "cannot read input\n"
evening_line Random = codes "cannot read input\n"
evening_line Clock = codes "cannot read input\n"
evening_line Write = codes "cannot write output\n"
evening_line (Config fault) = config_line fault
evening_line (Names fault) = names_line fault
evening_line LongList = codes "evening: LongList\n"
evening_line OtherPairs = codes "evening: OtherPairs\n"
evening_line NoMovement = codes "evening: NoMovement\n"
evening_line NoScoring = codes "evening: NoScoring\n"
evening_line Seed = codes "evening: Seed\n"
evening_line Movement = codes "evening: Movement\n"
evening_line Keys = codes "evening: Keys\n"
evening_line Heading = codes "evening: Heading\n"
evening_line Address = codes "evening: Address\n"
