-- What is read of a text's file.
use Rattle.std.specs.Prelude.{◌≡◌, ◌⊎◌, ◌≤◌, ◌<◌, ◌++◌, ℕ, Bool, true, false, List, Option, Some, None, length, Result, Err, MatchResult}
use Rattle.std.specs.Io.KnownBytes.{IsAtEnd}
use Rattle.bridge_config.specs.ConfigValue.{ConfigValue}
use Rattle.bridge_config.specs.Reading.{ReadsConfiguration}
use Rattle.bridge_config.specs.Spelling.{Spells}
use Rattle.bridge_config.specs.declared.refused.ConfigFault.{ConfigFault}
use Rattle.line_text.specs.Streams.{Stream, Gives, stream}
use Rattle.evening_commands.specs.declared.text_file.TheConstants.{FILE_BYTES}

-- one read more: the reader gave some bytes, which follow the text, or it is at its end
pub record ReadsOn (reader : Stream) (old new : List ℕ) (some : Bool) : Type 0 where
  pub bytes : List ℕ
  pub grown : new ≡ old ++ bytes
  pub given : Gives reader bytes
  pub more : some ≡ true → length old < length new
  pub end : some ≡ false → IsAtEnd reader.new

-- the reader gave this text, and all that it has, unless that is more than is read
pub record IsTextRead (reader : Stream) (text : List ℕ) : Type 0 where
  pub given : Gives reader text
  pub few : length text ≤ FILE_BYTES
  pub whole : length text < FILE_BYTES → IsAtEnd reader.new

-- the text spells a configuration, of which the one holds; or the other holds of its first fault
abbrev pub OfText : (ConfigValue → Type 0) → (ConfigFault → Type 0) → List ℕ → Type 0
OfText Spelled Refused text = ((configuration : ConfigValue) × Spells text configuration × Spelled configuration)
    ⊎ ((fault : ConfigFault) × ReadsConfiguration text (Err fault) × Refused fault)

-- that holds of the text that a reader gave, or of none where a read failed
abbrev pub OfReader : (Option (List ℕ) → Type 0) → Stream → Type 0
OfReader P reader = P None ⊎ ((text : List ℕ) × IsTextRead reader text × P (Some text))

-- the same of a file that was found, which still gives these bytes; one that is not found counts as one that cannot be read
abbrev pub OfFound : {F E : Type 0} → (F → Option (List ℕ)) → (Option (List ℕ) → Type 0) → Result F E → Type 0
OfFound {F = F} remaining P found = MatchResult found (λ file. (after : F) × OfReader P (stream remaining file after)) (λ _. P None)

-- the same of some text, of at most the bytes that are read: that it is the text of a file no contract can say
abbrev pub OfFile : (Option (List ℕ) → Type 0) → Type 0
OfFile P = P None ⊎ ((text : List ℕ) × (length text ≤ FILE_BYTES) × P (Some text))
