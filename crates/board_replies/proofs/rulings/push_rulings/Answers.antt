use Rattle.std.proofs.Common.{◌≡◌, ℕ, ◌++◌, List, refl, ap, ◌∙◌}
use Rattle.std.specs.Prelude.{flat_map}
use Rattle.std.proofs.lemmas.List.{take_all}
use Rattle.bridge_movement.specs.declared.row.Row.{Row}
use Rattle.bridge_config.specs.ConfigValue.{ConfigValue}
use Rattle.line_text.specs.Lines.{lines_text}
use Rattle.board_replies.specs.Rulings.{ruled_in}
use Rattle.board_replies.proofs.OwnTexts.{lines_append, one_row_more, all_ruled}
use Rattle.board_replies.proofs.rulings.push_rulings.Goals as goal

-- the value that a read past the end would give
abbrev none : Row
none = record { round = 0; table = 0; ns = 0; ew = 0; set = 0 }

pub loop-row-preserved : goal.loop-row-preserved
loop-row-preserved c =
    one_row_more lines_text lines_append refl (ruled_in c.args.session.now) c.rows-rows.result.now c.loop-row.row-index none _ _ _ c.loop-row-test.true
    c.loop-row.invariant c.in_ok-push_ruled_in.ensures

pub returns : goal.returns
returns c =
    let s = c.args.session.now in
    let rows = c.rows-rows.result.now in
    let stated : rows ≡ s.configuration.movement.rows = c.rows-rows.ensures.rows ∙ ap (λ (k : ConfigValue). k.movement.rows) (c.fields.ensures.fields ∙ c.config.ensures) in
    let text = λ (lines : List (List ℕ)). c.args.text.now.items ++ lines_text lines in
    c.loop-row.invariant
    ∙ ap (λ (some : List Row). text (flat_map (ruled_in s) some)) (take_all c.loop-row.row-index rows c.loop-row-test.false ∙ stated)
    ∙ ap text (all_ruled s)
