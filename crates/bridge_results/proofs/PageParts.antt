-- What the parts of a page are made of.
use Rattle.std.proofs.Common.{◌≡◌, ℕ, ◌==◌, false, List, [], ◌∷◌, ◌++◌, length, Option, Some, None, Result, IsErr, refl}
use Rattle.std.specs.Prelude.{IfSome, is_some}
use Rattle.std.specs.Option.{option_map}
use Rattle.line_text.specs.Streams.{between, Takes, TakesPrefix, Written}
use Rattle.line_text.proofs.Streams.{takes_prefix, prefix_longer, written_error}
use Rattle.session_rules.specs.State.{SessionValue, deal_on}
use Rattle.page_layout.specs.declared.format.Format.{Format}
use Rattle.bridge_results.specs.declared.traveller.BoardLine.{BoardLine}
use Rattle.bridge_results.specs.MakeableText.{MakeableBoards, makeable_on}
use Rattle.bridge_results.specs.BoardText.{board_text}
use Rattle.bridge_results.specs.ResultsText.{played_text}

-- a text that failed after one that was taken, and before another
pub then_failed : {E : Type 0} (a b c : Option (List ℕ)) (xs ys zs : List ℕ) (result : Result (Unit {0}) E) → IsErr result → Takes (between a b) xs → TakesPrefix (between b c) ys → Written (between a c) (xs ++ (ys ++ zs)) result
then_failed a b c xs ys zs result is first second =
    written_error (between a c) (xs ++ (ys ++ zs)) result is (takes_prefix a b c xs (ys ++ zs) first (prefix_longer b c ys zs second))

-- the text of a board with some line
pub played_some : (format : Format) (analysis : MakeableBoards) (s : SessionValue) (board : ℕ) (lines : List BoardLine) → (length lines == 0) ≡ false
    → board_text format s.configuration.scoring board (deal_on s.deals board) (makeable_on analysis board) lines ≡ played_text format analysis s board lines
played_some format analysis s board [] none = cc
played_some format analysis s board (line ∷ lines) some = refl

-- what holds of what is there holds of what is made of it
pub mapped_some : {X Y : Type 0} (given : Option X) (f : X → Y) (Q : Y → Type 0) → IfSome given (λ x. Q (f x)) → IfSome (option_map f given) Q
mapped_some None f Q none = none
mapped_some (Some x) f Q some = some

-- and it is there where that is
pub mapped_there : {X Y : Type 0} (given : Option X) (f : X → Y) → is_some (option_map f given) ≡ is_some given
mapped_there None f = refl
mapped_there (Some x) f = refl
