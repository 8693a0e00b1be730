-- A text that is read piece by piece, and what came of a file.
use Rattle.std.proofs.Common.{ℕ, Bool, List, Option, Result, Ok, Err, inl, inr, subst, sym}
use Rattle.std.specs.Io.KnownBytes.{Consumes}
use Rattle.std.proofs.KnownBytes.{Consumes-trans}
use Rattle.line_text.specs.Streams.{between, stream}
use Rattle.makeable_deals.specs.Making.{ReadsOn, OfFound, OfReader, OfFile}

-- a reader that gave a text, and then a piece more, gave the longer text
pub reads_on : (a b c : Option (List ℕ)) (old new : List ℕ) (some : Bool) → Consumes a b old → ReadsOn (between b c) old new some → Consumes a c new
reads_on a b c old new some before read =
    subst (λ (bytes : List ℕ). Consumes a c bytes) (sym read.grown) (Consumes-trans a b c old read.bytes before read.given)

-- what came of a file is what came of some text
pub of_file : {F E : Type 0} (remaining : F → Option (List ℕ)) (P : Option (List ℕ) → Type 0) (found : Result F E)
    → OfFound remaining P found → OfFile P
of_file remaining P (Ok file) came = of came.1
  where
    of : OfReader P (stream remaining file came.0) → OfFile P
    of (inl none) = inl none
    of (inr read) = inr (read.0, read.2)
of_file remaining P (Err _) none = inl none
