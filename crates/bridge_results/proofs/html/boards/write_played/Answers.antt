use Rattle.std.proofs.Common.{ℕ, List, sym, ◌∙◌, subst}
use Rattle.line_text.specs.Streams.{stream, Written}
use Rattle.bridge_results.specs.Costs.{seen}
use Rattle.bridge_results.proofs.HtmlParts.{some_html}
use Rattle.bridge_results.proofs.html.boards.write_played.Goals as goal

pub returns : goal.returns
returns g c =
    let some = some_html c.args.names (seen c.args.analysis.now) c.args.session.now c.args.board c.args.lines.now (sym c.is_empty.ensures ∙ c.if-is_empty.false) in
    subst (λ (text : List ℕ). Written (stream g.W.Write.contents c.args.writer.now c.write_board.new.writer) text c.write_board.result) some c.write_board.ensures
