-- What is kept of several sections for their results.
use Rattle.std.specs.Prelude.{◌≡◌, ◌<◌, ◌≤◌, ℕ, List, length, map, slice_index_or}
use Rattle.std.specs.List.{range_with_len}
use Rattle.bridge_ranking.specs.declared.field.Field.{Field}
use Rattle.bridge_ranking.specs.declared.field.Field.TheVariants.{First, Second}
use Rattle.session_rules.specs.State.{SessionValue}
use Rattle.event_ranking.specs.declared.ranking.SectionRanked.{SectionRanked}
use Rattle.event_ranking.specs.EventRanking.{IsFieldRanking, IsSectionRanking}
use Rattle.event_results.specs.declared.play.SectionPlay.{SectionPlay}
use Rattle.event_results.specs.EventTraveller.{event_traveller}
use Rattle.event_results.specs.Rankings.{RankingsValue}

-- the rankings of a field in so many sections, from the first on
pub record AreRankingsOf (sections : List SessionValue) (field : Field) (count : ℕ) (rankings : List (List SectionRanked)) : Type 0 where
  pub count_is : length rankings ≡ count
  pub each : (i : ℕ) (d : List SectionRanked) → i < count → IsSectionRanking sections i field (slice_index_or rankings i d)

-- the rankings of a field: over all sections, and of each section
pub record AreFieldRankings (sections : List SessionValue) (field : Field) (rankings : RankingsValue) : Type 0 where
  pub over_all : IsFieldRanking sections field rankings.over_all
  pub by_section : AreRankingsOf sections field (length sections) rankings.by_section

-- of 40 sections at most the travellers of boards 1 to 36, and the rankings of both fields
pub record AreEventResults (sections : List SessionValue) (travellers : List (List SectionPlay)) (first second : RankingsValue) : Type 0 where
  pub few : length sections ≤ 40
  pub lines_are : travellers ≡ map (event_traveller sections) (range_with_len 1 36)
  pub of_first : AreFieldRankings sections First first
  pub of_second : AreFieldRankings sections Second second
