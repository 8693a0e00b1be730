use Rattle.std.proofs.Common.{◌≡◌, ◌+◌, ◌++◌, get_or, take, drop, sym, ap, subst, ◌∙◌}
use Rattle.std.specs.List.{filter_map}
use Rattle.std.specs.Option.{option_to_list}
use Rattle.std.proofs.lemmas.List.Elements.{filter_map-append}
use Rattle.std.proofs.lemmas.Result.{err_from_is_err_and}
use Rattle.line_text.specs.Streams.{between, Takes, TakesPrefix}
use Rattle.bridge_movement.specs.declared.row.Row.{Row}
use Rattle.bridge_config.specs.ConfigValue.{ConfigValue}
use Rattle.line_text.specs.Lines.{lines_text}
use Rattle.bridge_pbn.specs.Games.{game_at}
use Rattle.bridge_pbn.specs.Written.{games_after, has_begun}
use Rattle.bridge_pbn.proofs.Joined.{written_more, written_prefix}
use Rattle.bridge_pbn.proofs.Rows.{row_numbers}
use Rattle.bridge_pbn.proofs.Walked.{made_more, made_whole, made_of_one}
use Rattle.bridge_pbn.proofs.write.write_board.Goals as goal

pub write_game-requires-clause-round : goal.write_game-requires-clause-round
write_game-requires-clause-round g c =
    (row_numbers c.fields.result.now.movement.shape c.rows-rows.result.now c.loop-row.row-index (record { round = 0; table = 0; ns = 0; ew = 0; set = 0 })
    c.rows-rows.ensures.limits c.rows-rows.ensures.fair c.loop-row-test.true).0

pub write_game-requires-clause-table : goal.write_game-requires-clause-table
write_game-requires-clause-table g c =
    (row_numbers c.fields.result.now.movement.shape c.rows-rows.result.now c.loop-row.row-index (record { round = 0; table = 0; ns = 0; ew = 0; set = 0 })
    c.rows-rows.ensures.limits c.rows-rows.ensures.fair c.loop-row-test.true).1

pub returns-in_err-begun_now : goal.returns-in_err-begun_now
returns-in_err-begun_now g c =
    let p = err_from_is_err_and c.from_residual.result c.from_residual.ensures.1 in
    let game = game_at c.args.session.now c.args.board in
    let rows = c.rows-rows.result.now in
    let i = c.loop-row.row-index in
    let d : Row = record { round = 0; table = 0; ns = 0; ew = 0; set = 0 } in
    let stated = ap (λ (configuration : ConfigValue). configuration.movement.rows) (c.fields.ensures.fields ∙ c.config.ensures) in
    let whole : filter_map game c.args.session.now.configuration.movement.rows ≡ (filter_map game (take i rows) ++ option_to_list (game (get_or rows i d))) ++ filter_map game (drop (i + 1) rows) =
    ap (filter_map game) (sym (c.rows-rows.ensures.rows ∙ stated))
    ∙ made_whole (filter_map game) (filter_map-append game) rows i d c.loop-row-test.true
    ∙ ap (λ last. (filter_map game (take i rows) ++ last) ++ filter_map game (drop (i + 1) rows)) (made_of_one (game (get_or rows i d))) in
    rw p.1
    (subst (λ games. TakesPrefix (between (g.W.Write.contents c.args.writer.now) (g.W.Write.contents c.write_game.new.writer)) (lines_text (games_after c.args.begun games))) (sym whole)
    (written_prefix (g.W.Write.contents c.args.writer.now) (g.W.Write.contents c.loop-row.writer) (g.W.Write.contents c.write_game.new.writer)
    c.args.begun c.loop-row.begun_now (filter_map game (take i rows)) (option_to_list (game (get_or rows i d))) (filter_map game (drop (i + 1) rows))
    c.loop-row.invariant.taken c.loop-row.invariant.begun c.in_err-begun_now.ensures))

pub loop-row-preserved : goal.loop-row-preserved
loop-row-preserved g c =
    let game = game_at c.args.session.now c.args.board in
    let rows = c.rows-rows.result.now in
    let i = c.loop-row.row-index in
    let d : Row = record { round = 0; table = 0; ns = 0; ew = 0; set = 0 } in
    let more : filter_map game (take (i + 1) rows) ≡ filter_map game (take i rows) ++ option_to_list (game (get_or rows i d)) =
    made_more (filter_map game) (filter_map-append game) rows i d c.loop-row-test.true
    ∙ ap (λ last. filter_map game (take i rows) ++ last) (made_of_one (game (get_or rows i d))) in
    let both = written_more (g.W.Write.contents c.args.writer.now) (g.W.Write.contents c.loop-row.writer) (g.W.Write.contents c.write_game.new.writer)
    c.args.begun c.loop-row.begun_now c.in_ok-begun_now.begun_now (filter_map game (take i rows)) (option_to_list (game (get_or rows i d)))
    c.loop-row.invariant.taken c.loop-row.invariant.begun c.in_ok-begun_now.ensures in
    record {
      taken = subst (λ games. Takes (between (g.W.Write.contents c.args.writer.now) (g.W.Write.contents c.write_game.new.writer)) (lines_text (games_after c.args.begun games))) (sym more) both.0;
      begun = subst (λ games. c.in_ok-begun_now.begun_now ≡ has_begun c.args.begun games) (sym more) both.1;
    }
