-- The game of a board that was played.
use Rattle.std.proofs.Common.{◌≡◌, ℕ, ◌==◌, false, List, [], ◌∷◌, length, refl}
use Rattle.session_rules.specs.State.{SessionValue}
use Rattle.bridge_results.specs.declared.traveller.BoardLine.{BoardLine}
use Rattle.bridge_results.specs.MakeableText.{MakeableBoards}
use Rattle.results_pbn.specs.Totals.{Totals}
use Rattle.results_pbn.specs.Games.{board_game, played_game}

-- that with some line
pub played_some : (s : SessionValue) (boards : MakeableBoards) (totals : Totals) (board : ℕ) (lines : List BoardLine) → (length lines == 0) ≡ false
    → board_game s boards totals board lines ≡ played_game s boards totals board lines
played_some s boards totals board [] none = cc
played_some s boards totals board (line ∷ lines) some = refl
