use Rattle.std.proofs.Common.{◌≡◌, ◌≤◌, List, length, sym, ap, ◌∙◌, subst}
use Rattle.bridge_config.specs.ConfigValue.{ConfigValue}
use Rattle.bridge_ranking.specs.declared.game.Game.{Game}
use Rattle.bridge_ranking.specs.Ranking.{games_of}
use Rattle.session_rules.specs.State.{SessionValue}
use Rattle.bridge_results.specs.declared.play.TablePlay.{TablePlay}
use Rattle.bridge_results.specs.declared.traveller.BoardLine.{BoardLine}
use Rattle.std.specs.Prelude.{AllPairs, IsPermutation}
use Rattle.bridge_results.specs.Plays.{plays_on}
use Rattle.bridge_results.specs.Traveller.{StandsOver, rows_on, rows_of}
use Rattle.bridge_results.proofs.Order.{are_in_order, in_order_permutes}
use Rattle.bridge_results.proofs.Counts.{few_plays_on}
use Rattle.bridge_results.proofs.results.Results.traveller.Goals as goal

pub lines_on-requires-clause-few : goal.lines_on-requires-clause-few
lines_on-requires-clause-few c =
    subst (λ (plays : List TablePlay). length (plays_on plays c.args.board) ≤ 144) (sym (c.deref-2.ensures.0 ∙ c.self.invariant.plays_are))
    (few_plays_on c.self.inside.session.now c.args.board c.self.invariant.session)

pub returns-clause-order : goal.returns-clause-order
returns-clause-order c =
    subst (AllPairs StandsOver) (sym c.lines_on.ensures) (are_in_order (rows_on c.fields.result.now.scoring c.deref.result.now c.deref-2.result.now c.args.board))

pub returns-clause-same : goal.returns-clause-same
returns-clause-same c =
    let s = c.self.inside.session.now in
    let board = c.args.board in
    let scoring : c.fields.result.now.scoring ≡ s.configuration.scoring = ap (λ (k : ConfigValue). k.scoring) (c.fields.ensures.fields ∙ c.config.ensures) in
    let rows : rows_on c.fields.result.now.scoring c.deref.result.now c.deref-2.result.now board ≡ rows_of c.args.self.now board =
    ap (λ k. rows_on k c.deref.result.now c.deref-2.result.now board) scoring
    ∙ ap (λ (games : List Game). rows_on s.configuration.scoring games c.deref-2.result.now board) (c.deref.ensures.0 ∙ c.self.invariant.games_are)
    ∙ ap (λ (plays : List TablePlay). rows_on s.configuration.scoring (games_of s) plays board) (c.deref-2.ensures.0 ∙ c.self.invariant.plays_are)
    ∙ ap (λ (t : SessionValue). rows_of t board) c.self.view_is in
    subst (λ (lines : List BoardLine). IsPermutation lines c.lines_on.result.items) rows
    (subst (IsPermutation (rows_on c.fields.result.now.scoring c.deref.result.now c.deref-2.result.now board)) (sym c.lines_on.ensures)
    (in_order_permutes (rows_on c.fields.result.now.scoring c.deref.result.now c.deref-2.result.now board)))
