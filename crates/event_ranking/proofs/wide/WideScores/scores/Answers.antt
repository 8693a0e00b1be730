use Rattle.std.proofs.Common.{◌≡◌, ◌-◌, ◌<◌, ◌≤◌, List, ℤ, map, length, get_or, sym, ap, ◌∙◌, subst, arith}
use Rattle.std.proofs.lemmas.List.{length-map, get_or-map}
use Rattle.std.proofs.lemmas.List.FromFn.{length-map-range_with_len}
use Rattle.bridge_cards.specs.declared.seat.Side.TheVariants.{NorthSouth}
use Rattle.bridge_ranking.specs.declared.game.Game.{Game}
use Rattle.bridge_ranking.specs.Ranking.{scores_on}
use Rattle.event_ranking.specs.Joint.{joint}
use Rattle.event_ranking.proofs.Joined.{scores_there, most_scores}
use Rattle.event_ranking.proofs.wide.WideScores.scores.Goals as goal

-- what was found on the board
found : (c : goal.After-as_slice) → c.as_slice.result.now ≡ scores_on (joint (map (λ games. games.items) c.self.inside.games.items)) NorthSouth c.args.board
found c =
    let lists = c.self.inside.scores.items in
    let sections = map (λ games. games.items) c.self.inside.games.items in
    let board = c.args.board in
    let count = sym (length-map lists (λ scores. scores.items)) ∙ ap length c.self.invariant.by_board ∙ length-map-range_with_len (scores_on (joint sections) NorthSouth) 1 36 in
    let within : board - 1 < length lists = omega (arith, count, c.requires.0, c.requires.1) in
    let there = c.index.ensures ∙ ap (λ i. get_or lists i c.index.result.now) c.from.ensures in
    c.as_slice.ensures.value
    ∙ ap (λ scores. scores.items) there
    ∙ sym (get_or-map (λ scores. scores.items) lists (board - 1) c.index.result.now c.as_slice.result.now within)
    ∙ scores_there (joint sections) (map (λ scores. scores.items) lists) board c.as_slice.result.now c.self.invariant.by_board c.requires

pub returns-clause-scores : goal.returns-clause-scores
returns-clause-scores c = found c ∙ ap (λ (sections : List (List Game)). scores_on (joint sections) NorthSouth c.args.board) c.self.view_is

pub returns-clause-most : goal.returns-clause-most
returns-clause-most c =
    subst (λ (scores : List ℤ). length scores ≤ 17280) (sym (found c))
    (most_scores (map (λ games. games.items) c.self.inside.games.items) c.args.board c.self.invariant.of_sections)
