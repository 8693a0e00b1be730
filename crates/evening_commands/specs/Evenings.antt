-- The commands `draft` and `slips`: what is read of a list of names, the evening that is made of it, and the slips.
use Rattle.std.specs.Prelude.{◌≡◌, ◌≢◌, ◌⊎◌, ◌≤◌, ◌<◌, ℕ, Bool, if◌then◌else◌, List, codes, Option, Some, None, length, Result, Ok, Err, IfSome, IsSomeAnd, IsErrAnd, MatchOption}
use Rattle.std.specs.Str.Lines.{lines}
use Rattle.hex.specs.Hex.{decode_of}
use Rattle.bridge_config.specs.ConfigValue.{ConfigValue}
use Rattle.bridge_config.specs.Spelling.{Spells}
use Rattle.command_line.specs.declared.command.DraftWords.{DraftWords}
use Rattle.command_line.specs.declared.command.SlipWords.{SlipWords}
use Rattle.bridge_movement.specs.declared.named.NamedMovement.{NamedMovement}
use Rattle.bridge_movement.specs.declared.named.NamedMovement.TheVariants.{Mitchell, Howell}
use Rattle.bridge_cards.specs.declared.scoring.Scoring.{Scoring}
use Rattle.bridge_cards.specs.declared.scoring.Scoring.TheVariants.{MatchPoints, Imps}
use Rattle.std.specs.Option.{option_map}
use Rattle.evening_draft.specs.ConfigText.{IsFormOf, config_text}
use Rattle.evening_draft.specs.Names.{ReadsNames}
use Rattle.evening_draft.specs.Wishing.{IsDateAt, MakesEvening, RefusesEvening}
use Rattle.evening_draft.specs.declared.form.MovementForm.{MovementForm}
use Rattle.evening_draft.specs.declared.names_refused.NamesFault.{NamesFault}
use Rattle.evening_draft.specs.declared.refused.DraftRefused.{DraftRefused}
use Rattle.evening_draft.specs.declared.refused.DraftRefused.TheVariants as draft
use Rattle.evening_draft.specs.declared.wishes.PairNames.{PairNames}
use Rattle.evening_draft.specs.declared.wishing.WishWords.{WishWords}
use Rattle.evening_plan.specs.FaultText.{fault_text}
use Rattle.evening_slips.specs.Slips.{slips_text}
use Rattle.page_layout.specs.declared.format.Format.{Format}
use Rattle.page_layout.specs.declared.format.Format.TheVariants.{Plain, Html}
use Rattle.std.specs.Borrow.{Bor}
use Rattle.line_text.specs.Streams.{Stream, IsUntouched}
use Rattle.evening_commands.specs.Fault.{Made, Writes, WritesAndStops, fault_words}
use Rattle.evening_commands.specs.TextFile.{OfFile, OfText}
use Rattle.evening_commands.specs.declared.fault.EveningFault.{EveningFault}
use Rattle.evening_commands.specs.declared.fault.EveningFault.TheVariants.{Read, Random, Clock, Config, Names, LongList, OtherPairs, NoMovement, NoScoring, Seed, Movement, Keys, Heading, Address}
use Rattle.evening_commands.specs.declared.text_file.TheConstants.{FILE_BYTES}

-- what a list's text gives: pairs, or the first fault; of a longer text than there may be, that it is longer
abbrev pub ReadsList : List ℕ → Result (List PairNames) EveningFault → Type 0
ReadsList text (Ok names) = (length text < FILE_BYTES) × ReadsNames (lines text) (Ok names)
ReadsList text (Err fault) = ((FILE_BYTES ≤ length text) × (fault ≡ LongList))
    ⊎ ((length text < FILE_BYTES)
    × ((cause : NamesFault) × ReadsNames (lines text) (Err cause) × (fault ≡ Names cause)))

-- the date that is given, or that of some second since the beginning of 1970
abbrev pub HasDate : Option (Bor (List ℕ)) → List ℕ → Type 0
HasDate given date = MatchOption given ((seconds : ℕ) × IsDateAt seconds date) (λ text. date ≡ text.now)

-- the seed that is given, or some
abbrev pub HasSeed : Option (Bor (List ℕ)) → List ℕ → Type 0
HasSeed given seed = IfSome given (λ text. decode_of text.now ≡ Ok seed)

-- the name of a movement
abbrev pub movement_name : NamedMovement → List ℕ
movement_name Mitchell = codes "mitchell"
movement_name Howell = codes "howell"

-- the name of a scoring
abbrev pub scoring_name : Scoring → List ℕ
scoring_name MatchPoints = codes "mp"
scoring_name Imps = codes "imp"

-- the movement of that name, or none where no name is given
abbrev pub HasMovement : Option (Bor (List ℕ)) → Option NamedMovement → Type 0
HasMovement given movement = option_map (λ name. name.now) given ≡ option_map movement_name movement

-- what is wished for is what the words say, that date and that seed
pub record AreWished (words : DraftWords) (date seed : List ℕ) (wished : WishWords) : Type 0 where
  pub movement : HasMovement words.movement wished.movement
  pub boards : wished.boards ≡ words.boards
  pub scoring : words.scoring.now ≡ scoring_name wished.scoring
  pub event : wished.event.now ≡ words.event.now
  pub site : wished.site.now ≡ words.site.now
  pub date_is : wished.date.now ≡ date
  pub seed_is : wished.seed ≡ seed

-- why no evening is made of wishes, as the run's fault
abbrev pub evening_fault : DraftRefused → EveningFault
evening_fault draft.Movement = Movement
evening_fault draft.Keys = Keys
evening_fault draft.Heading = Heading

-- the system gives no seed where the words leave it out, or what they give is none
abbrev pub LacksSeed : DraftWords → EveningFault → Type 0
LacksSeed words fault = MatchOption words.seed (fault ≡ Random) (λ _. fault ≡ Seed)

-- the movement or the scoring has a name that is none
abbrev pub LacksName : DraftWords → EveningFault → Type 0
LacksName words fault =
    (((movement : Option NamedMovement) → ¬ HasMovement words.movement movement) × (fault ≡ NoMovement))
    ⊎ (((scoring : Scoring) → words.scoring.now ≢ scoring_name scoring) × (fault ≡ NoScoring))

-- an evening is made of these pairs on that date with that seed, or why not
abbrev pub MakesOn : DraftWords → List PairNames → List ℕ → List ℕ → Result ConfigValue EveningFault → Type 0
MakesOn words names date seed (Ok configuration) =
    (wished : WishWords) × AreWished words date seed wished × MakesEvening wished names configuration
MakesOn words names date seed (Err fault) = LacksName words fault ⊎ (
    (wished : WishWords) × (refused : DraftRefused) × AreWished words date seed wished
    × RefusesEvening wished (length names) refused × (fault ≡ evening_fault refused))

-- the system gives no seed or no date where the words leave it out, or what they give as the seed is none
abbrev pub LacksWish : DraftWords → EveningFault → Type 0
LacksWish words fault = LacksSeed words fault ⊎ ((words.date ≡ None) × (fault ≡ Clock))

-- an evening is made of these pairs as the words wish, or the first fault
abbrev pub Makes : DraftWords → List PairNames → Result ConfigValue EveningFault → Type 0
Makes words names made = IsErrAnd made (LacksWish words)
    ⊎ ((date : List ℕ) × (seed : List ℕ) × HasDate words.date date × HasSeed words.seed seed × MakesOn words names date seed made)

-- a configuration is written, in a text that spells it; or a prefix of that where a write failed, which is the fault
abbrev pub WritesConfig : Stream → ConfigValue → Made → Type 0
WritesConfig output configuration ended = (form : MovementForm) × IsFormOf form configuration.movement
    × Spells (config_text form configuration) configuration × Writes output (config_text form configuration) ended

-- the configuration is written; or what is wrong, and that is the fault
abbrev pub WritesMade : Stream → Made → Result ConfigValue EveningFault → Type 0
WritesMade output ended (Ok configuration) = WritesConfig output configuration ended
WritesMade output ended (Err fault) = WritesAndStops output (fault_words fault) fault ended

-- of the pairs of a list an evening is made, and its configuration is written; or what is wrong with the list
abbrev pub DraftsList : DraftWords → Stream → Made → Result (List PairNames) EveningFault → Type 0
DraftsList words output ended (Ok names) =
    (made : Result ConfigValue EveningFault) × Makes words names made × WritesMade output ended made
DraftsList words output ended (Err fault) = WritesAndStops output (fault_words fault) fault ended

-- The configuration of an evening for the pairs of a list is written; or what is wrong, and that is the fault. Where no list
-- could be read, nothing is written.
abbrev pub Drafts : DraftWords → Stream → Made → Option (List ℕ) → Type 0
Drafts words output ended None = (ended ≡ Err Read) × IsUntouched output
Drafts words output ended (Some text) =
    (found : Result (List PairNames) EveningFault) × ReadsList text found × DraftsList words output ended found

-- the pairs that a text has, or what is wrong with it
abbrev pub ListOf : Result (List PairNames) EveningFault → Option (List ℕ) → Type 0
ListOf result None = result ≡ Err Read
ListOf result (Some text) = ReadsList text result

-- a list is to have so many pairs
abbrev pub FitsPairs : ℕ → Result (List PairNames) EveningFault → Result (List PairNames) EveningFault → Type 0
FitsPairs pairs (Ok names) result = ((length names ≡ pairs) × (result ≡ Ok names))
    ⊎ ((length names ≢ pairs) × (result ≡ Err OtherPairs))
FitsPairs pairs (Err fault) result = result ≡ Err fault

-- the names of so many pairs that a text has, or what is wrong with it
abbrev pub NamesOf : ℕ → Result (List PairNames) EveningFault → Option (List ℕ) → Type 0
NamesOf pairs result None = result ≡ Err Read
NamesOf pairs result (Some text) = (found : Result (List PairNames) EveningFault) × ReadsList text found × FitsPairs pairs found result

-- the page that `--text` asks for, and that without it
abbrev pub slip_format : Bool → Format
slip_format text = if text then Plain else Html

-- the slips are written, with these names
abbrev pub WritesSlips : SlipWords → ConfigValue → Stream → Made → Option (Bor (List PairNames)) → Type 0
WritesSlips words configuration output ended names =
    Writes output (slips_text (record { format = slip_format words.text; address = words.address }) configuration names) ended

-- or what is wrong with the list of names
abbrev pub WritesNamed : SlipWords → ConfigValue → Stream → Made → Result (List PairNames) EveningFault → Type 0
WritesNamed words configuration output ended (Ok names) =
    (shown : Bor (List PairNames)) × (shown.now ≡ names) × WritesSlips words configuration output ended (Some shown)
WritesNamed words configuration output ended (Err fault) = WritesAndStops output (fault_words fault) fault ended

-- with the names of a list's text, which has the configuration's number of pairs
abbrev pub SlipsNamed : SlipWords → ConfigValue → Stream → Made → Option (List ℕ) → Type 0
SlipsNamed words configuration output ended given = (found : Result (List PairNames) EveningFault)
    × NamesOf (length configuration.pairs) found given × WritesNamed words configuration output ended found

-- the address is longer than there may be
abbrev pub IsLongAddress : SlipWords → Type 0
IsLongAddress words = IsSomeAnd words.address (λ address. 100 < length address.now)

-- the slips of a configuration are written; or that the address is too long, or what is wrong with the list of names
abbrev pub SlipsOf : SlipWords → Stream → Made → ConfigValue → Type 0
SlipsOf words output ended configuration =
    (IsLongAddress words × WritesAndStops output (fault_words Address) Address ended)
    ⊎ MatchOption words.names (WritesSlips words configuration output ended None)
    (λ _. OfFile (SlipsNamed words configuration output ended))

-- The slips of the configuration that a text spells are written; or what is wrong, and that is the fault. Where no text could be
-- read, nothing is written.
abbrev pub Slips : SlipWords → Stream → Made → Option (List ℕ) → Type 0
Slips words output ended None = (ended ≡ Err Read) × IsUntouched output
Slips words output ended (Some text) = OfText (SlipsOf words output ended)
    (λ fault. WritesAndStops output (fault_text text fault) (Config fault) ended) text
