use Rattle.std.proofs.Common.{◌≡◌, ◌∷◌, ap, ◌∙◌}
use Rattle.bridge_config.specs.ConfigValue.{configuration_of}
use Rattle.line_replies.proofs.Added.{line_then}
use Rattle.line_replies.specs.ReplyTexts.{listed_text}
use Rattle.line_replies.proofs.Pairs.{listed_is}
use Rattle.std.specs.Prelude.{map}
use Rattle.page_replies.specs.Place.{round_line}
use Rattle.page_replies.specs.Tables.{boards_line, table_line, tables_now, table_lines}
use Rattle.page_replies.proofs.tables.push_all.Goals as goal

pub returns : goal.returns
returns c =
    let session = c.args.session.now in
    let fields = configuration_of c.fields-fields.result.now in
    let round = c.round.result in
    let tables = map (table_line session) (tables_now session) in
    let boards = boards_line fields ∷ tables in
    let lines = round_line fields round ∷ boards in
    let is_listed =
    listed_is lines _ _ _ _ c.requires c.push_str.ensures.bytes
    (line_then _ _ _ (round_line fields round) boards c.push_round_line.ensures.line
    (line_then _ _ _ (boards_line fields) tables c.push_boards_line.ensures.line c.push_tables_now.ensures.lines))
    c.push_str-2.ensures.bytes in
    let configuration : fields ≡ session.configuration = c.fields-fields.ensures.fields ∙ c.config.ensures in
    let is_round : round ≡ session.round = c.round.ensures in
    let same : lines ≡ table_lines session = cc in
    is_listed ∙ ap listed_text same
