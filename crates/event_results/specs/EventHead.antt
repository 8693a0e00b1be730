-- The head of the page: which event was played where and when, how, and in how many sections.
use Rattle.std.specs.Prelude.{ℕ, List, ◌++◌, codes}
use Rattle.std.specs.Fmt.{decimal}
use Rattle.bridge_config.specs.ConfigValue.{ConfigValue}
use Rattle.bridge_results.specs.EventText.{place_words, scoring_words}
use Rattle.page_layout.specs.declared.format.Format.{Format}
use Rattle.page_layout.specs.declared.format.Level.TheVariants.{Title}
use Rattle.page_layout.specs.Page.{page_start, heading_text, paragraph_text}

-- how many sections there are
abbrev pub count_words : ℕ → List ℕ
count_words sections = codes "Sections: " ++ decimal sections

-- The head of the page: the event, and a paragraph each for the place, the scoring and the number of sections.
abbrev pub event_head : Format → ConfigValue → ℕ → List ℕ
event_head format configuration sections =
    (((page_start format configuration.event
    ++ heading_text format Title configuration.event)
    ++ paragraph_text format (place_words configuration.site configuration.date))
    ++ paragraph_text format (scoring_words configuration.scoring))
    ++ paragraph_text format (count_words sections)
