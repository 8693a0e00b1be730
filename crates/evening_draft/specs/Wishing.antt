-- What is wished of an evening, from words: texts of any length, the date of a day, a seed in digits.
use Rattle.std.specs.Prelude.{ℕ, ◌≡◌, ◌<◌, ◌⊎◌, ◌/◌, nat_lt, nat_le, if◌then◌else◌, List, ◌++◌, codes, length, pos, unsigned_abs}
use Rattle.std.specs.Fmt.{decimal}
use Rattle.std.specs.Option.{unwrap_or}
use Rattle.jiff_core.specs.Date.{epoch_day}
use Rattle.jiff_core.specs.declared.civil.date.Date.{Date}
use Rattle.bridge_config.specs.ConfigValue.{ConfigValue, keys_of}
use Rattle.bridge_movement.specs.Named.{IsNamed}
use Rattle.bridge_movement.specs.declared.named.NamedMovement.{NamedMovement}
use Rattle.bridge_movement.specs.declared.named.NamedMovement.TheVariants.{Mitchell, Howell}
use Rattle.evening_draft.specs.Draft.{drafted}
use Rattle.evening_draft.specs.Drafted.{IsDraftRefused}
use Rattle.evening_draft.specs.Keys.{evening_keys}
use Rattle.evening_draft.specs.declared.refused.DraftRefused.{DraftRefused}
use Rattle.evening_draft.specs.declared.refused.DraftRefused.TheVariants.{Heading}
use Rattle.evening_draft.specs.declared.wishes.PairNames.{PairNames}
use Rattle.evening_draft.specs.declared.wishes.Wishes.{Wishes}
use Rattle.evening_draft.specs.declared.wishing.WishWords.{WishWords}

-- the movement that suits so many pairs: a Howell up to 7, and a Mitchell from 8 on
abbrev pub suited : ℕ → NamedMovement
suited pairs = if nat_le pairs 7 then Howell else Mitchell

-- a number in two digits
abbrev pub two_digits : ℕ → List ℕ
two_digits number = if nat_lt number 10 then codes "0" ++ decimal number else decimal number

-- a date, as `2026.03.14`
unfoldable pub date_text : Date → List ℕ
date_text date =
    (((decimal (unsigned_abs date.year) ++ codes ".") ++ two_digits date.month) ++ codes ".") ++ two_digits date.day

-- a text is the date so many seconds after the beginning of 1970, by UTC
abbrev pub IsDateAt : ℕ → List ℕ → Type 0
IsDateAt seconds text = (date : Date) × (epoch_day date ≡ pos (seconds / 86400)) × (text ≡ date_text date)

-- the words are these wishes
pub record AreWishes (words : WishWords) (pairs : ℕ) (wishes : Wishes) : Type 0 where
  pub movement : wishes.movement ≡ unwrap_or words.movement (suited pairs)
  pub boards : wishes.boards ≡ words.boards
  pub scoring : wishes.scoring ≡ words.scoring
  pub event : wishes.event.bytes ≡ words.event.now
  pub site : wishes.site.bytes ≡ words.site.now
  pub date : wishes.date.bytes ≡ words.date.now
  pub seed : wishes.seed ≡ words.seed

-- a text of the heading is longer than any that there may be
abbrev pub IsLongHeading : WishWords → Type 0
IsLongHeading words = (24 < length words.event.now) ⊎ ((24 < length words.site.now) ⊎ (10 < length words.date.now))

-- the configuration is that of an evening for these pairs, as it is wished for
pub record IsEvening (wishes : Wishes) (names : List PairNames) (configuration : ConfigValue) : Type 0 where
  pub movement : IsNamed wishes.movement (length names) configuration.movement
  pub keys : keys_of configuration ≡ evening_keys wishes.seed (length names)
  pub stated : configuration ≡ drafted wishes names configuration.movement (keys_of configuration)

-- of the words an evening is made
abbrev pub MakesEvening : WishWords → List PairNames → ConfigValue → Type 0
MakesEvening words names configuration =
    (wishes : Wishes) × AreWishes words (length names) wishes × IsEvening wishes names configuration

-- or it is refused: a text of the heading is too long, or the wishes are refused
abbrev pub RefusesEvening : WishWords → ℕ → DraftRefused → Type 0
RefusesEvening words pairs refused =
    (IsLongHeading words × (refused ≡ Heading))
    ⊎ ((wishes : Wishes) × AreWishes words pairs wishes × IsDraftRefused wishes pairs refused)
