use Rattle.std.proofs.Common.{◌≡◌, ◌++◌, List, refl, ap, ◌∙◌}
use Rattle.std.specs.Prelude.{flat_map}
use Rattle.std.proofs.lemmas.List.{take_all}
use Rattle.bridge_movement.specs.declared.row.Row.{Row}
use Rattle.bridge_config.specs.ConfigValue.{ConfigValue}
use Rattle.board_replies.specs.OwnPlays.{OwnPlay, own_plays_in}
use Rattle.board_replies.specs.Told.{own_text}
use Rattle.board_replies.proofs.OwnTexts.{own_append, one_row_more, all_rows}
use Rattle.board_replies.proofs.own_plays.push_own_plays.Goals as goal

-- the value that a read past the end would give
abbrev none : Row
none = record { round = 0; table = 0; ns = 0; ew = 0; set = 0 }

pub loop-row-preserved : goal.loop-row-preserved
loop-row-preserved c =
    let s = c.args.told.now.session.now in
    one_row_more (own_text s c.args.told.now.is_open) (own_append s c.args.told.now.is_open) refl (own_plays_in s c.args.pair) c.rows-rows.result.now c.loop-row.row-index none _ _ _ c.loop-row-test.true
    c.loop-row.invariant c.in_ok-push_own_plays_in.ensures

pub returns : goal.returns
returns c =
    let s = c.args.told.now.session.now in
    let rows = c.rows-rows.result.now in
    let stated : rows ≡ s.configuration.movement.rows = c.rows-rows.ensures.rows ∙ ap (λ (k : ConfigValue). k.movement.rows) (c.fields.ensures.fields ∙ c.config.ensures) in
    let text = λ (plays : List OwnPlay). c.args.text.now.items ++ own_text s c.args.told.now.is_open plays in
    c.loop-row.invariant
    ∙ ap (λ (some : List Row). text (flat_map (own_plays_in s c.args.pair) some)) (take_all c.loop-row.row-index rows c.loop-row-test.false ∙ stated)
    ∙ ap text (all_rows s c.args.pair)
