use Rattle.std.proofs.Common.{◌≡◌, List, ℤ, map, sym, ap, ◌∙◌, subst}
use Rattle.std.specs.Prelude.{All}
use Rattle.arrayvec.specs.ArrayVec.{ArrayVec}
use Rattle.bridge_cards.specs.declared.seat.Side.TheVariants.{NorthSouth, EastWest}
use Rattle.bridge_score.specs.ScoringTable.{IsScore}
use Rattle.bridge_ranking.specs.declared.game.Game.{Game}
use Rattle.bridge_ranking.specs.Ranking.{scores_on}
use Rattle.bridge_ranking.specs.KeptGames.{IsGame}
use Rattle.bridge_ranking.proofs.Gains.{scores_range, scores_there}
use Rattle.bridge_ranking.proofs.scored.ScoredGames.scores.Goals as goal

abbrev items : ArrayVec ℤ → List ℤ
items scores = scores.items

-- the list found on the board
found-in-NorthSouth : (c : goal.After-scores_at) → c.scores_at.result.now ≡ scores_on c.args.self.now c.args.side c.args.board
found-in-NorthSouth c =
    let inside = c.self.inside in
    let lists = ap (map items) c.deref.ensures.0 ∙ c.self.invariant.ns in
    scores_there inside.games.now NorthSouth (map items c.deref.result.now) c.args.board c.scores_at.result.now lists c.scores_at.ensures.index c.requires.board
    ∙ ap (λ (games : List Game). scores_on games NorthSouth c.args.board) c.self.view_is
    ∙ ap (λ side. scores_on c.args.self.now side c.args.board) (sym c.in-NorthSouth.is)

pub returns-in-NorthSouth-clause-scores : goal.returns-in-NorthSouth-clause-scores
returns-in-NorthSouth-clause-scores c = found-in-NorthSouth c

pub returns-in-NorthSouth-clause-range : goal.returns-in-NorthSouth-clause-range
returns-in-NorthSouth-clause-range c =
    let each = subst (All IsGame) c.self.view_is c.self.invariant.each in
    subst (All IsScore) (sym (found-in-NorthSouth c)) (scores_range c.args.self.now c.args.side c.args.board each)

-- the list found on the board
found-in-EastWest : (c : goal.After-scores_at-in-EastWest) → c.scores_at-in-EastWest.result.now ≡ scores_on c.args.self.now c.args.side c.args.board
found-in-EastWest c =
    let inside = c.self.inside in
    let lists = ap (map items) c.deref-in-EastWest.ensures.0 ∙ c.self.invariant.ew in
    scores_there inside.games.now EastWest (map items c.deref-in-EastWest.result.now) c.args.board c.scores_at-in-EastWest.result.now lists c.scores_at-in-EastWest.ensures.index c.requires.board
    ∙ ap (λ (games : List Game). scores_on games EastWest c.args.board) c.self.view_is
    ∙ ap (λ side. scores_on c.args.self.now side c.args.board) (sym c.in-EastWest.is)

pub returns-in-EastWest-clause-scores : goal.returns-in-EastWest-clause-scores
returns-in-EastWest-clause-scores c = found-in-EastWest c

pub returns-in-EastWest-clause-range : goal.returns-in-EastWest-clause-range
returns-in-EastWest-clause-range c =
    let each = subst (All IsGame) c.self.view_is c.self.invariant.each in
    subst (All IsScore) (sym (found-in-EastWest c)) (scores_range c.args.self.now c.args.side c.args.board each)
