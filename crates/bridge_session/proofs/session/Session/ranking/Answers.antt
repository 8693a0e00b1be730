use Rattle.std.proofs.Common.{◌≡◌, ◌≤◌, Bool, true, cond, List, length, filter, Ok, Err, Result, Vec, Global, get_or, sym, ap, ◌∙◌, subst, arith, map}
use Rattle.std.specs.Prelude.{All, IsPermutation}
use Rattle.std.proofs.lemmas.List.{length-map, get_or_default}
use Rattle.bridge_config.specs.ConfigValue.{ConfigValue}
use Rattle.bridge_movement.specs.declared.row.Row.{Row}
use Rattle.bridge_movement.specs.declared.shape.Shape.{Shape}
use Rattle.bridge_score.specs.declared.ranking.Line.{Line}
use Rattle.bridge_cards.specs.declared.scoring.Scoring.{Scoring}
use Rattle.bridge_score.specs.Ranking.{ranked_in}
use Rattle.bridge_ranking.specs.declared.game.Game.{Game}
use Rattle.bridge_table.specs.declared.record.Record.{Record}
use Rattle.session_rules.specs.declared.refused.Refused.{Refused}
use Rattle.session_rules.specs.declared.refused.Refused.TheVariants.{NoSuchPlay}
use Rattle.session_rules.specs.State.{SessionValue}
use Rattle.session_rules.specs.DirectorStep.{if_allowed}
use Rattle.bridge_ranking.specs.Ranking.{is_on, line_of, lines_of, games_of, pairs_of_field, has_field, IsRankingTo}
use Rattle.bridge_ranking.specs.KeptGames.{IsGame, kept_games}
use Rattle.bridge_session.specs.KeptSession.{state_of}
use Rattle.bridge_table.proofs.Tables.{lists_in, list_there, few_row}
use Rattle.bridge_ranking.proofs.Games.{few_on_board, games_seen}
use Rattle.bridge_session.proofs.session.Session.ranking.Goals as goal

pub games_of-games-requires-clause-few : goal.games_of-games-requires-clause-few
games_of-games-requires-clause-few c = λ k d within.
    let vectors = c.as_slice.result.now in
    let table = get_or vectors k d in
    let few = subst (λ (vs : List (Vec Record Global)). length (get_or vs k d).items ≤ 3) (sym c.as_slice.ensures.value) in
    let s = c.self.inside in
    let inside = length-map s.tables.items (λ (t : Vec Record Global). t.items) in
    let own = get_or s.tables.items k d in
    few (few_row (lists_in s.tables.items) k own.items c.self.invariant.few
    (list_there s.tables.items k own (omega (arith, inside, ap length c.as_slice.ensures.value)) (get_or_default s.tables.items k d own (omega (arith, ap length c.as_slice.ensures.value)))))

-- the games of the session
games_are : (rows others : List Row) (vectors tables : List (Vec Record Global)) (games held : List Game) → held ≡ games → games ≡ kept_games others (lists_in tables) → others ≡ rows → tables ≡ vectors → held ≡ kept_games rows (lists_in vectors)
games_are rows others vectors tables games held is found same kept =
    is ∙ found ∙ ap (λ rs. kept_games rs (lists_in tables)) same ∙ ap (λ (vs : List (Vec Record Global)). kept_games rows (lists_in vs)) kept

pub lines_of-lines-requires-clause-games : goal.lines_of-lines-requires-clause-games
lines_of-lines-requires-clause-games c =
    let s = c.self.inside in
    let rows : c.rows.result.now ≡ s.config.movement.rows = c.rows.ensures.rows ∙ ap (λ (k : ConfigValue). k.movement.rows) c.fields-fields.ensures.fields in
    let count : length s.config.movement.rows ≤ 144 = omega (arith, ap length rows, c.rows.ensures.most) in
    let is = games_are s.config.movement.rows c.rows.result.now s.tables.items c.as_slice.result.now c.games_of-games.result.items c.deref.result.now c.deref.ensures.0 c.games_of-games.ensures.games rows c.as_slice.ensures.value in
    record {
      most = omega (arith, ap length c.deref.ensures.0, c.games_of-games.ensures.most);
      few = λ board.
          omega (
            arith,
            count,
            ap (λ (gs : List Game). length (filter (is_on board) gs)) is,
            few_on_board s.config.boards s.config.movement.rows (lists_in s.tables.items) board c.self.invariant.boards_are,
          );
      each = subst (All IsGame) (sym c.deref.ensures.0) c.games_of-games.ensures.each;
    }

pub returns : goal.returns
returns c =
    let s = c.self.inside in
    let key = c.args.key.0 in
    let field = c.args.field in
    let state = state_of s.config s.round s.deals.items (lists_in s.tables.items) in
    let fields = c.fields-fields.ensures.fields in
    let scoring : c.fields-fields.result.now.scoring ≡ s.config.scoring = ap (λ (k : ConfigValue). k.scoring) fields in
    let rows : c.rows.result.now ≡ s.config.movement.rows = c.rows.ensures.rows ∙ ap (λ (k : ConfigValue). k.movement.rows) fields in
    let shape : c.shape-shape.result ≡ s.config.movement.shape = c.shape-shape.ensures.shape ∙ ap (λ (k : ConfigValue). k.movement.shape) fields in
    let games : c.deref.result.now ≡ games_of state =
    games_are s.config.movement.rows c.rows.result.now s.tables.items c.as_slice.result.now c.games_of-games.result.items c.deref.result.now c.deref.ensures.0 c.games_of-games.ensures.games rows c.as_slice.ensures.value
    ∙ games_seen s.deals.items s.config.movement.rows (lists_in s.tables.items) c.self.invariant.tied in
    let line : Scoring → List Game → Shape → List Line = λ k gs sh. map (line_of k gs) (pairs_of_field sh field) in
    let lines : c.deref-2.result.now ≡ lines_of state field =
    c.deref-2.ensures.0
    ∙ c.lines_of-lines.ensures.lines
    ∙ ap (λ k. line k c.deref.result.now c.shape-shape.result) scoring
    ∙ ap (λ gs. line s.config.scoring gs c.shape-shape.result) games
    ∙ ap (line s.config.scoring (games_of state)) shape in
    let has : has_field s.config.movement.shape field ≡ true = ap (λ (sh : Shape). has_field sh field) (sym shape) ∙ sym c.if-not-has_field.ensures in
    let answer : Bool → Result (Unit {0}) Refused = λ b. cond b (Ok tt) (Err NoSuchPlay) in
    subst (λ (t : SessionValue). IsRankingTo t key field c.rank.result.items) c.self.view_is
    (record {
      allowed =
          ap (λ asker. if_allowed asker (answer (has_field s.config.movement.shape field))) (sym c.in_ok-check_asker.ensures)
          ∙ ap answer has;
      ranked = record {
        lines_are =
            subst (λ (ls : List Line). IsPermutation (map (ranked_in s.config.scoring ls) ls) c.rank.result.items) lines
            (subst (λ (k : Scoring). IsPermutation (map (ranked_in k c.deref-2.result.now) c.deref-2.result.now) c.rank.result.items) scoring c.rank.ensures.lines);
        order = c.rank.ensures.order;
      };
    })
