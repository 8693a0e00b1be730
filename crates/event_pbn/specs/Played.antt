-- What was played in any of several sections.
use Rattle.std.specs.Prelude.{ℕ, Bool, true, false, List, [], ◌∷◌, unwrap_or}
use Rattle.std.specs.List.{range_with_len, find}
use Rattle.session_rules.specs.State.{SessionValue}
use Rattle.event_results.specs.declared.play.SectionPlay.{SectionPlay}
use Rattle.event_results.specs.EventTraveller.{event_traveller}

-- whether there is a play
abbrev pub has_play : List SectionPlay → Bool
has_play [] = false
has_play (play ∷ plays) = true

-- whether a section has a play of a board
abbrev pub is_played : List SessionValue → ℕ → Bool
is_played sections board = has_play (event_traveller sections board)

-- the first board of which a section has a play; 37 where there is none
abbrev pub first_board : List SessionValue → ℕ
first_board sections = unwrap_or (find (is_played sections) (range_with_len 1 36)) 37
