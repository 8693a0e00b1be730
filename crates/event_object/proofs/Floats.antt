-- No value of the object is a float.
use Rattle.std.proofs.Common.{◌≡◌, ℕ, ◌-◌, true, false, List, [], ◌∷◌, refl}
use Rattle.std.specs.Prelude.{slice_get, Option, Some, None}
use Rattle.std.specs.List.{range_with_len, enumerate_from}
use Rattle.std.specs.Option.{option_map_or}
use Rattle.bridge_cards.specs.Board.{vulnerability_on}
use Rattle.bridge_cards.specs.Vulnerability.{vulnerability_text}
use Rattle.bridge_cards.specs.declared.scoring.Scoring.{Scoring}
use Rattle.bridge_config.specs.ConfigValue.{ConfigValue}
use Rattle.bridge_results.specs.PlayCells.{line_score}
use Rattle.session_rules.specs.State.{SessionValue}
use Rattle.event_ranking.specs.declared.ranking.SectionRanked.{SectionRanked}
use Rattle.event_ranking.specs.Dealt.{first_deal}
use Rattle.event_ranking.specs.EventRanking.{scoring_of}
use Rattle.event_ranking.specs.EventText.{section_text}
use Rattle.event_results.specs.EventTraveller.{event_traveller}
use Rattle.event_results.specs.declared.play.SectionPlay.{SectionPlay}
use Rattle.serde_json.specs.Data.{null}
use Rattle.serde_json.specs.Written.{has_float}
use Rattle.results_object.specs.Plays.{gain_of}
use Rattle.results_object.specs.Object.{names_data, event_data}
use Rattle.results_object.proofs.Floats.{IsPlain, both, list_plain, text_plain, number_plain, averages_plain, result_plain, gain_plain, deal_plain, total_plain, names_plain, event_plain}
use Rattle.event_object.specs.Sections.{pair_data, pairs_data, section_data}
use Rattle.event_object.specs.SectionPlays.{section_play_data}
use Rattle.event_ranking.specs.EventRanking.{unplaced}
use Rattle.event_object.specs.SectionRankings.{section_ranked_data, field_data}
use Rattle.event_object.specs.EventObject.{available_on, board_data, event_results_data}

pairs_plain : (configuration : ConfigValue) → IsPlain (pairs_data configuration)
pairs_plain configuration =
    list_plain (pair_data configuration.pairs) (λ pair. both _ _ (names_plain configuration.pairs pair) refl) (range_with_len 1 configuration.movement.shape.pairs)

section_plain : (numbered : ℕ × SessionValue) → IsPlain (section_data numbered)
section_plain numbered = both _ _ (pairs_plain numbered.1.configuration) (both _ _ (text_plain (section_text numbered.0)) refl)

play_plain : (scoring : Scoring) (available : ℕ) (play : SectionPlay) → IsPlain (section_play_data scoring available play)
play_plain scoring available play =
    both _ _ (averages_plain play.line.play.outcome) (both _ _ (gain_plain scoring available (gain_of false play.line.comparison))
    (both _ _ (gain_plain scoring available (gain_of true play.line.comparison)) (both _ _ (result_plain play.line.play) (both _ _ refl
    (both _ _ (number_plain (line_score play.line.comparison)) (both _ _ (text_plain (section_text play.section)) refl))))))

board_plain : (sections : List SessionValue) (board : ℕ) → IsPlain (board_data sections board)
unfolding board_data
board_plain sections board =
    let scoring = scoring_of sections in
    let available = available_on sections board in
    both _ _ refl (both _ _ (deal_plain board (first_deal sections board)) (both _ _ refl
    (both _ _ (list_plain (section_play_data scoring available) (play_plain scoring available) (event_traveller sections board))
    (both _ _ (text_plain (vulnerability_text (vulnerability_on board))) refl))))

names_on_plain : (pair : ℕ) (found : Option SessionValue) → IsPlain (option_map_or (λ (s : SessionValue). names_data s.configuration.pairs pair) found (names_data [] pair))
names_on_plain pair None = names_plain [] pair
names_on_plain pair (Some s) = names_plain s.configuration.pairs pair

ranked_plain : (scoring : Scoring) (sections : List SessionValue) (ranked : SectionRanked) → IsPlain (section_ranked_data scoring sections ranked)
ranked_plain scoring sections ranked =
    both _ _ (names_on_plain ranked.pair (slice_get sections (ranked.section - 1))) (both _ _ refl (both _ _ refl
    (both _ _ (text_plain (section_text ranked.section)) (both _ _ (total_plain scoring (unplaced ranked)) refl))))

field_plain : (scoring : Scoring) (sections : List SessionValue) (ranking : List SectionRanked) → IsPlain (field_data scoring sections ranking)
field_plain scoring sections [] = refl
field_plain scoring sections (ranked ∷ ranking) = list_plain (section_ranked_data scoring sections) (ranked_plain scoring sections) (ranked ∷ ranking)

first_event_plain : (found : Option SessionValue) → IsPlain (option_map_or (λ (s : SessionValue). event_data s.configuration) found null)
first_event_plain None = refl
first_event_plain (Some s) = event_plain s.configuration

-- the object has no float
pub event_results_plain : (sections : List SessionValue) (first second : List SectionRanked) → has_float (event_results_data sections first second) ≡ false
unfolding event_results_data
event_results_plain sections first second =
    both _ _ (list_plain (board_data sections) (board_plain sections) (range_with_len 1 36))
    (both _ _ (first_event_plain (slice_get sections 0)) (both _ _ (field_plain (scoring_of sections) sections first)
    (both _ _ (field_plain (scoring_of sections) sections second)
    (both _ _ (list_plain section_data section_plain (enumerate_from 1 sections)) refl))))
