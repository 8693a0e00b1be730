-- Where the links of an HTML page lead.
use Rattle.std.specs.Prelude.{ℕ, List, ◌++◌, codes}
use Rattle.std.specs.Fmt.{decimal}
use Rattle.bridge_results.specs.declared.play.TablePlay.{TablePlay}

-- a board
abbrev pub board_target : ℕ → List ℕ
board_target board = codes "board-" ++ decimal board

-- the score card of a pair
abbrev pub pair_target : ℕ → List ℕ
pair_target pair = codes "pair-" ++ decimal pair

-- how a board was played, by the board, the round and the table
abbrev pub play_target : TablePlay → List ℕ
play_target play =
    ((((codes "play-" ++ decimal play.board) ++ codes "-") ++ decimal play.row.round) ++ codes "-") ++ decimal play.row.table
