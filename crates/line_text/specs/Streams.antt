-- What a call takes from a reader and adds to a writer, where their bytes are known.
use Rattle.std.specs.Prelude.{◌≡◌, ℕ, List, ◌++◌, Option, Result, Ok, Err}
use Rattle.std.specs.Io.KnownBytes.{Appends, Consumes, Keeps}

-- a stream over a call: the bytes that a reader still gives, or that a writer has taken, before it and after it
pub record Stream : Type 0 where
  pub old : Option (List ℕ)
  pub new : Option (List ℕ)

-- the stream of those bytes before and after
abbrev pub between : Option (List ℕ) → Option (List ℕ) → Stream
between old new = record { old = old; new = new }

-- the stream of a reader or writer, by what says which bytes it still gives or has taken
abbrev pub stream : {S : Type 0} → (S → Option (List ℕ)) → S → S → Stream
stream bytes old new = between (bytes old) (bytes new)

-- the reader gave exactly these bytes
abbrev pub Gives : Stream → List ℕ → Type 0
Gives reader bytes = Consumes reader.old reader.new bytes

-- the writer took exactly these bytes
abbrev pub Takes : Stream → List ℕ → Type 0
Takes writer bytes = Appends writer.old writer.new bytes

-- nothing was read or written
abbrev pub IsUntouched : Stream → Type 0
IsUntouched either = Keeps either.old either.new

-- the writer took a prefix of the text
abbrev pub TakesPrefix : Stream → List ℕ → Type 0
TakesPrefix writer text = (prefix : List ℕ) × (rest : List ℕ) × (text ≡ prefix ++ rest) × Takes writer prefix

-- the writer took the whole text at Ok, and a prefix of it at an error
abbrev pub Written : {E : Type 0} → Stream → List ℕ → Result (Unit {0}) E → Type 0
Written writer text (Ok _) = Takes writer text
Written writer text (Err _) = TakesPrefix writer text
