-- Texts that are read piece by piece.
use Rattle.std.proofs.Common.{ℕ, Bool, List, Option, subst, sym}
use Rattle.std.specs.Io.KnownBytes.{Consumes}
use Rattle.std.proofs.KnownBytes.{Consumes-trans}
use Rattle.line_text.specs.Streams.{between}
use Rattle.evening_commands.specs.TextFile.{ReadsOn}

-- a reader that gave a text, and then a piece more, gave the longer text
pub reads_on : (a b c : Option (List ℕ)) (old new : List ℕ) (some : Bool) → Consumes a b old → ReadsOn (between b c) old new some → Consumes a c new
reads_on a b c old new some before read =
    subst (λ (bytes : List ℕ). Consumes a c bytes) (sym read.grown) (Consumes-trans a b c old read.bytes before read.given)
