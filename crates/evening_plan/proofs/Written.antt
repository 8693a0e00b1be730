-- Texts written one after another.
use Rattle.std.proofs.Common.{ℕ, List, ◌++◌, Option, Result, IsErr}
use Rattle.line_text.specs.Streams.{between, Takes, TakesPrefix, Written}
use Rattle.line_text.proofs.Streams.{takes_prefix, prefix_longer, written_error}

-- a text that failed after one that was taken, and before another
pub then_failed : {E : Type 0} (a b c : Option (List ℕ)) (xs ys zs : List ℕ) (result : Result (Unit {0}) E) → IsErr result → Takes (between a b) xs → TakesPrefix (between b c) ys → Written (between a c) (xs ++ (ys ++ zs)) result
then_failed a b c xs ys zs result is first second =
    written_error (between a c) (xs ++ (ys ++ zs)) result is (takes_prefix a b c xs (ys ++ zs) first (prefix_longer b c ys zs second))
