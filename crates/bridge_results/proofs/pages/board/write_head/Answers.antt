use Rattle.std.proofs.Common.{List, ℕ, subst, ◌∙◌}
use Rattle.line_text.specs.Streams.{stream, Written}
use Rattle.bridge_results.proofs.pages.board.write_head.Goals as goal

pub returns : goal.returns
returns g c =
    subst (λ (text : List ℕ). Written (stream g.W.Write.contents c.args.writer.now c.write_text.new.writer) text c.write_text.result)
    (c.as_slice.ensures.value ∙ c.board_head-text.ensures) c.write_text.ensures
