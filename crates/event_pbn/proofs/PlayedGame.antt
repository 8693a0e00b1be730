-- The game of a board that was played.
use Rattle.std.proofs.Common.{◌≡◌, ℕ, ◌==◌, false, List, [], ◌∷◌, length, refl}
use Rattle.event_results.specs.declared.play.SectionPlay.{SectionPlay}
use Rattle.event_pbn.specs.EventGames.{EventGames, board_game, played_game}

-- that with some play
pub played_some : (event : EventGames) (board : ℕ) (plays : List SectionPlay) → (length plays == 0) ≡ false
    → board_game event board plays ≡ played_game event board plays
played_some event board [] none = cc
played_some event board (play ∷ plays) some = refl
