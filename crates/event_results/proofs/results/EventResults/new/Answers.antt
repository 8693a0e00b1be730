use Rattle.std.proofs.Common.{List, length, map, sym, ap, ◌∙◌, subst, arith}
use Rattle.std.specs.Prelude.{All}
use Rattle.std.specs.List.{range_with_len}
use Rattle.std.proofs.lemmas.List.{length-map}
use Rattle.bridge_cards.specs.declared.scoring.Scoring.{Scoring}
use Rattle.bridge_ranking.specs.declared.field.Field.TheVariants.{First, Second}
use Rattle.bridge_ranking.specs.Ranking.{games_of}
use Rattle.session_rules.specs.State.{SessionValue}
use Rattle.bridge_results.specs.declared.play.TablePlay.{TablePlay}
use Rattle.bridge_results.specs.Plays.{plays_of, HasTricksWithin}
use Rattle.event_ranking.specs.Joint.{joint}
use Rattle.event_ranking.specs.EventRanking.{scoring_of}
use Rattle.event_results.specs.EventTraveller.{lines_among}
use Rattle.event_results.specs.Kept.{AreFieldRankings}
use Rattle.event_results.proofs.results.EventResults.new.Goals as goal

pub lines_by_board-requires-clause-few : goal.lines_by_board-requires-clause-few
lines_by_board-requires-clause-few c =
    let plays = c.in_ok-plays.plays.items in
    omega (
      arith,
      ap length c.as_slice.ensures.value,
      length-map plays (λ plays. plays.items),
      ap length c.in_ok-plays.ensures.plays,
      length-map c.args.sections.now plays_of,
      c.requires.few,
    )

pub lines_by_board-requires-clause-tricks : goal.lines_by_board-requires-clause-tricks
lines_by_board-requires-clause-tricks c =
    subst (λ lists. All (All HasTricksWithin) (map (λ plays. plays.items) lists)) (sym c.as_slice.ensures.value) c.in_ok-plays.ensures.tricks

pub invariant_of-result : goal.invariant_of-result
invariant_of-result c =
    let sections = c.args.sections.now in
    let event = c.in_ok-event.ensures in
    let lists = c.in_ok-plays.ensures.plays in
    record {
      few = c.requires.few;
      lines_are = c.in_ok-travellers.ensures
          ∙ ap (λ (plays : List (List TablePlay)). map (lines_among c.scoring_of.result (joint (map games_of c.in_ok-event.event)) plays) (range_with_len 1 36))
          (ap (map (λ plays. plays.items)) c.as_slice.ensures.value ∙ lists)
          ∙ ap (λ (scoring : Scoring). map (lines_among scoring (joint (map games_of c.in_ok-event.event)) (map plays_of sections)) (range_with_len 1 36)) c.scoring_of.ensures
          ∙ ap (λ (of : List SessionValue). map (lines_among (scoring_of sections) (joint (map games_of of)) (map plays_of sections)) (range_with_len 1 36)) event;
      of_first = subst (λ (of : List SessionValue). AreFieldRankings of First c.in_ok-first.first) event c.in_ok-first.ensures;
      of_second = subst (λ (of : List SessionValue). AreFieldRankings of Second c.in_ok-second.second) event c.in_ok-second.ensures;
    }
