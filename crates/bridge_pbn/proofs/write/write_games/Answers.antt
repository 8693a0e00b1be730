use Rattle.std.proofs.Common.{◌≡◌, ◌+◌, ◌-◌, false, take, drop, sym, ap, subst, arith}
use Rattle.std.specs.List.{range_with_len}
use Rattle.std.proofs.lemmas.Result.{err_from_is_err_and}
use Rattle.line_text.specs.Streams.{between, Takes, TakesPrefix}
use Rattle.line_text.specs.Lines.{lines_text}
use Rattle.bridge_pbn.specs.Games.{games_on, games_on_boards, all_games}
use Rattle.bridge_pbn.specs.Written.{games_after, has_begun}
use Rattle.bridge_pbn.proofs.Joined.{written_more, written_prefix}
use Rattle.bridge_pbn.proofs.Numbered.{numbers_more, numbers_whole}
use Rattle.bridge_pbn.proofs.write.write_games.Goals as goal

pub returns : goal.returns
unfolding all_games
returns g c =
    let s = c.args.session.now in
    let all = range_with_len 1 36 in
    let last : c.loop-number.number - 1 ≡ 36 = omega arith in
    let passed : games_on_boards s (take (c.loop-number.number - 1) all) ≡ games_on_boards s all = ap (λ i. games_on_boards s (take i all)) last in (
      subst (λ games. Takes (between (g.W.Write.contents c.args.writer.now) (g.W.Write.contents c.loop-number.writer)) (lines_text (games_after false games))) passed c.loop-number.invariant.taken,
      subst (λ games. c.loop-number.begun ≡ has_begun false games) passed c.loop-number.invariant.begun,
    )

pub returns-in_err-begun : goal.returns-in_err-begun
unfolding all_games
returns-in_err-begun g c =
    let p = err_from_is_err_and c.from_residual.result c.from_residual.ensures.1 in
    let s = c.args.session.now in
    let n = c.loop-number.number in
    let board = rw c.unwrap-board.ensures at c.new.ensures.value in
    let all = range_with_len 1 36 in
    rw p.1
    (subst (λ games. TakesPrefix (between (g.W.Write.contents c.args.writer.now) (g.W.Write.contents c.write_board.new.writer)) (lines_text (games_after false games)))
    (sym (numbers_whole (games_on s) 36 n c.loop-number.invariant.least (omega arith)))
    (written_prefix (g.W.Write.contents c.args.writer.now) (g.W.Write.contents c.loop-number.writer) (g.W.Write.contents c.write_board.new.writer)
    false c.loop-number.begun (games_on_boards s (take (n - 1) all)) (games_on s n) (games_on_boards s (drop (n - 1 + 1) all))
    c.loop-number.invariant.taken c.loop-number.invariant.begun (rw board at c.in_err-begun.ensures)))

pub loop-number-preserved : goal.loop-number-preserved
loop-number-preserved g c =
    let s = c.args.session.now in
    let n = c.loop-number.number in
    let board = rw c.unwrap-board.ensures at c.new.ensures.value in
    let more = numbers_more (games_on s) 36 n c.loop-number.invariant.least (omega arith) in
    let both = written_more (g.W.Write.contents c.args.writer.now) (g.W.Write.contents c.loop-number.writer) (g.W.Write.contents c.write_board.new.writer)
    false c.loop-number.begun c.in_ok-begun.begun (games_on_boards s (take (n - 1) (range_with_len 1 36))) (games_on s n)
    c.loop-number.invariant.taken c.loop-number.invariant.begun (rw board at c.in_ok-begun.ensures) in
    record {
      taken = subst (λ games. Takes (between (g.W.Write.contents c.args.writer.now) (g.W.Write.contents c.write_board.new.writer)) (lines_text (games_after false games))) (sym more) both.0;
      begun = subst (λ games. c.in_ok-begun.begun ≡ has_begun false games) (sym more) both.1;
      least = omega arith;
    }
