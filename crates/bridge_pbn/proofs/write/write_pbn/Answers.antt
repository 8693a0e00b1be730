use Rattle.std.proofs.Common.{[], ◌∷◌, ◌++◌}
use Rattle.std.specs.Prelude.{codes}
use Rattle.std.proofs.lemmas.Result.{err_from_is_err_and}
use Rattle.line_text.proofs.Streams.{takes_prefix, prefix_longer}
use Rattle.line_text.specs.Lines.{lines_text, parted}
use Rattle.bridge_pbn.specs.Games.{all_games}
use Rattle.bridge_pbn.proofs.write.write_pbn.Goals as goal

pub returns-in_err-write_text : goal.returns-in_err-write_text
returns-in_err-write_text g c =
    let p = err_from_is_err_and c.from_residual.result c.from_residual.ensures.1 in
    rw p.1
    (prefix_longer (g.W.Write.contents c.args.writer.now) (g.W.Write.contents c.write_text.new.writer)
    (codes "% PBN 2.1" ++ 10 ∷ []) (lines_text (parted [] (all_games c.args.session.now))) c.in_err-write_text.ensures)

pub returns-in_err-write_games : goal.returns-in_err-write_games
returns-in_err-write_games g c =
    let p = err_from_is_err_and c.from_residual-in_err-write_games.result c.from_residual-in_err-write_games.ensures.1 in
    rw p.1
    (takes_prefix (g.W.Write.contents c.args.writer.now) (g.W.Write.contents c.write_text.new.writer) (g.W.Write.contents c.write_games.new.writer)
    (codes "% PBN 2.1" ++ 10 ∷ []) (lines_text (parted [] (all_games c.args.session.now))) c.in_ok-write_text.ensures c.in_err-write_games.ensures)
