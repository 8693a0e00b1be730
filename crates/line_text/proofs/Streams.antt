-- Prefixes of a text that a writer took.
use Rattle.std.proofs.Common.{ℕ, ◌∙◌, List, ◌++◌, Option, Result, Ok, Err, IsErr, sym, ap, append_assoc}
use Rattle.std.specs.Io.KnownBytes.{Appends}
use Rattle.std.proofs.KnownBytes.{Appends-trans}
use Rattle.line_text.specs.Streams.{Stream, between, TakesPrefix, Written}

-- a prefix of what follows a text that was written is a prefix of both
pub takes_prefix : (a b c : Option (List ℕ)) (xs ys : List ℕ) → Appends a b xs → TakesPrefix (between b c) ys → TakesPrefix (between a c) (xs ++ ys)
takes_prefix a b c xs ys first second = (
  xs ++ second.0,
  second.1,
  ap (λ rest. xs ++ rest) second.2 ∙ sym (append_assoc xs second.0 second.1),
  Appends-trans a b c xs second.0 first second.3,
)

-- a prefix of a text is a prefix of a longer one
pub prefix_longer : (a b : Option (List ℕ)) (xs ys : List ℕ) → TakesPrefix (between a b) xs → TakesPrefix (between a b) (xs ++ ys)
prefix_longer a b xs ys prefix =
    (prefix.0, prefix.1 ++ ys, ap (λ text. text ++ ys) prefix.2 ∙ append_assoc prefix.0 prefix.1 ys, prefix.3)

-- at an error the writer took a prefix
pub written_error : {E : Type 0} (writer : Stream) (text : List ℕ) (result : Result (Unit {0}) E) → IsErr result → TakesPrefix writer text → Written writer text result
written_error writer text (Ok u) is prefix = cc
written_error writer text (Err error) is prefix = prefix
