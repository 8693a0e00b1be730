-- The head of the plan: which event is played where and when, and how.
use Rattle.std.specs.Prelude.{ℕ, ◌+◌, ◌*◌, ◌==◌, if◌then◌else◌, List, ◌++◌, codes}
use Rattle.std.specs.Fmt.{decimal}
use Rattle.bridge_movement.specs.declared.shape.Shape.{Shape}
use Rattle.bridge_cards.specs.declared.scoring.Scoring.{Scoring}
use Rattle.bridge_cards.specs.declared.scoring.Scoring.TheVariants.{MatchPoints, Imps}
use Rattle.evening_plan.specs.Evening.{Evening}

-- the event, on a line of its own
unfoldable pub event_line : List ℕ → List ℕ
event_line event = event ++ codes "\n"

-- how scores are compared
abbrev pub scoring_words : Scoring → List ℕ
scoring_words MatchPoints = codes "Scoring: matchpoints\n"
scoring_words Imps = codes "Scoring: IMPs\n"

-- where and when it is played
unfoldable pub place_words : List ℕ → List ℕ → List ℕ
place_words site date = ((site ++ codes ", ") ++ date) ++ codes "\n"

-- how many tables, rounds and pairs there are
unfoldable pub count_words : Shape → List ℕ
count_words shape =
    (((((codes "Tables: " ++ decimal shape.tables) ++ codes ", rounds: ") ++ decimal shape.rounds)
    ++ codes ", pairs: ") ++ decimal shape.pairs) ++ codes "\n"

-- how many sets and boards there are
unfoldable pub board_words : Shape → ℕ → List ℕ
board_words shape boards =
    (((((codes "Sets: " ++ decimal shape.sets) ++ codes ", boards in a set: ") ++ decimal boards)
    ++ codes ", boards in all: ") ++ decimal (shape.sets * boards)) ++ codes "\n"

-- the two fields, whose pairs are ranked apart
unfoldable pub two_fields : Shape → List ℕ
two_fields shape =
    (((((codes "Ranked: pairs 1 to " ++ decimal shape.split) ++ codes " apart from pairs ")
    ++ decimal (shape.split + 1)) ++ codes " to ") ++ decimal shape.pairs) ++ codes "\n"

-- which pairs are ranked together
abbrev pub field_words : Shape → List ℕ
field_words shape = if shape.split == shape.pairs then codes "Ranked: all pairs together\n" else two_fields shape

-- where the players of a pair sit
unfoldable pub seat_words : List ℕ
seat_words = codes "Of a pair the first player sits North or East, the second South or West.\n"

-- The head of the plan, a line each: the event, where and when, the scoring, and the numbers.
unfoldable pub event_text : Evening → List ℕ
event_text evening =
    (((((event_line evening.heading.event ++ place_words evening.heading.site evening.heading.date)
    ++ scoring_words evening.heading.scoring)
    ++ count_words evening.movement.shape)
    ++ board_words evening.movement.shape evening.heading.boards)
    ++ field_words evening.movement.shape)
    ++ seat_words
