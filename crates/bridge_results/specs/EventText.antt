-- The head of the page: which event was played where and when, and how.
use Rattle.std.specs.Prelude.{ℕ, ◌*◌, List, ◌++◌, codes}
use Rattle.std.specs.Fmt.{decimal}
use Rattle.bridge_movement.specs.declared.shape.Shape.{Shape}
use Rattle.bridge_cards.specs.declared.scoring.Scoring.{Scoring}
use Rattle.bridge_cards.specs.declared.scoring.Scoring.TheVariants.{MatchPoints, Imps}
use Rattle.bridge_config.specs.ConfigValue.{ConfigValue}
use Rattle.page_layout.specs.declared.format.Format.{Format}
use Rattle.page_layout.specs.declared.format.Level.TheVariants.{Title}
use Rattle.page_layout.specs.Page.{page_start, heading_text, paragraph_text}

-- how scores are compared
abbrev pub scoring_words : Scoring → List ℕ
scoring_words MatchPoints = codes "Matchpoints"
scoring_words Imps = codes "IMPs"

-- where and when the session was held
abbrev pub place_words : List ℕ → List ℕ → List ℕ
place_words site date = (site ++ codes ", ") ++ date

-- how many tables, boards and rounds the session has
abbrev pub count_words : Shape → ℕ → List ℕ
count_words shape boards =
    ((((codes "Tables: " ++ decimal shape.tables) ++ codes ", boards: ") ++ decimal (shape.sets * boards)) ++ codes ", rounds: ")
    ++ decimal shape.rounds

-- The head of the page: the event, and a paragraph each for the place, the scoring and the numbers.
abbrev pub event_text : Format → ConfigValue → List ℕ
event_text format configuration =
    (((page_start format configuration.event
    ++ heading_text format Title configuration.event)
    ++ paragraph_text format (place_words configuration.site configuration.date))
    ++ paragraph_text format (scoring_words configuration.scoring))
    ++ paragraph_text format (count_words configuration.movement.shape configuration.boards)
