use Rattle.std.proofs.Common.{ap, ◌∙◌}
use Rattle.std.specs.Prelude.{map, flat_map, ◌++◌}
use Rattle.std.specs.Option.{option_to_list}
use Rattle.std.proofs.lemmas.List.{take_all}
use Rattle.bridge_results.specs.Plays.{plays_of}
use Rattle.bridge_results.specs.declared.play.TablePlay.{TablePlay}
use Rattle.session_analysis.specs.Analysed.{cost_on, seen_costs, all_costs}
use Rattle.session_analysis.proofs.OneByOne.{one_more}
use Rattle.session_analysis.proofs.costs.costs_of.Goals as goal

pub loop-play-preserved : goal.loop-play-preserved
loop-play-preserved c =
    one_more (λ (play : TablePlay). option_to_list (cost_on c.args.session.now play)) c.plays-plays.result.now c.loop-play.play-index c.play-item.result
    (map seen_costs c.loop-play.found.items) (map seen_costs c.add_costs.new.found.items)
    c.loop-play-test.true c.play-item.is c.loop-play.invariant
    (c.in_ok-add_costs.ensures ∙ ap (λ known. map seen_costs c.loop-play.found.items ++ option_to_list known) c.in_ok-cost_on.ensures)

pub returns : goal.returns
unfolding all_costs
returns c =
    let f = λ (play : TablePlay). option_to_list (cost_on c.args.session.now play) in
    c.loop-play.invariant
    ∙ ap (flat_map f) (take_all c.loop-play.play-index c.plays-plays.result.now c.loop-play-test.false ∙ c.plays-plays.ensures ∙ ap plays_of c.new-results.ensures)
