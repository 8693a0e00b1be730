-- A text that is written in two parts.
use Rattle.std.proofs.Common.{ℕ, List, ◌++◌, Option, Result, Ok, Err}
use Rattle.std.specs.Io.KnownBytes.{Appends}
use Rattle.std.proofs.KnownBytes.{Appends-trans}
use Rattle.line_text.specs.Streams.{between, Written}
use Rattle.line_text.proofs.Streams.{takes_prefix}

-- the second part after the first, which was written whole
pub written_after : {E : Type 0} (a b c : Option (List ℕ)) (xs ys : List ℕ) (result : Result (Unit {0}) E) → Appends a b xs → Written (between b c) ys result → Written (between a c) (xs ++ ys) result
written_after a b c xs ys (Ok _) first second = Appends-trans a b c xs ys first second
written_after a b c xs ys (Err _) first second = takes_prefix a b c xs ys first second
