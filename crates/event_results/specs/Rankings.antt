-- The rankings of a field, as they are kept.
use Rattle.std.specs.Prelude.{List}
use Rattle.event_ranking.specs.declared.ranking.SectionRanked.{SectionRanked}

-- over the pairs of all sections, and of each section
pub record RankingsValue : Type 0 where
  pub over_all : List SectionRanked
  pub by_section : List (List SectionRanked)
