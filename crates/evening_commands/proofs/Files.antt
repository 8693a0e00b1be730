-- What came of a file.
use Rattle.std.proofs.Common.{ℕ, List, Option, None, Some, Result, Ok, Err, inl, inr}
use Rattle.line_text.specs.Streams.{Stream, stream}
use Rattle.evening_commands.specs.Fault.{Made}
use Rattle.evening_commands.specs.Making.{IntoFound, IntoFile}
use Rattle.evening_commands.specs.TextFile.{OfFound, OfReader, OfFile}

-- what came of a file is what came of some text
pub of_file : {F E : Type 0} (remaining : F → Option (List ℕ)) (P : Option (List ℕ) → Type 0) (found : Result F E)
    → OfFound remaining P found → OfFile P
of_file remaining P (Ok file) came = of came.1
  where
    of : OfReader P (stream remaining file came.0) → OfFile P
    of (inl none) = inl none
    of (inr read) = inr (read.0, read.1.few, read.2)
of_file remaining P (Err _) none = inl none

-- what follows from what came of some text
pub then_of_file : (P Q : Option (List ℕ) → Type 0) → ((given : Option (List ℕ)) → P given → Q given) → OfFile P → OfFile Q
then_of_file P Q then (inl none) = inl (then None none)
then_of_file P Q then (inr read) = inr (read.0, read.1, then (Some read.0) read.2)

-- what was written to a file that was made is what was written to some file
pub into_file : {F E : Type 0} (contents : F → Option (List ℕ)) (P : Stream → Made → Type 0) (made : Result F E) (ended : Made)
    → IntoFound contents P made ended → IntoFile P ended
into_file contents P (Ok file) ended written = inr (stream contents file written.0, written.1)
into_file contents P (Err _) ended failed = inl failed
