use Rattle.std.proofs.Common.{length, ap, arith}
use Rattle.bridge_results.specs.HtmlCourse.{trick_row, fours}
use Rattle.bridge_results.proofs.WrittenRows.{index_taken, index_failed, indexes_taken}
use Rattle.bridge_results.proofs.html.tricks.write_tricks.Goals as goal

pub returns-in_err-write_trick : goal.returns-in_err-write_trick
returns-in_err-write_trick g c =
    let count = ap length c.cards.ensures.cards in
    index_failed (trick_row c.args.play.now.contract c.args.play.now.cards c.args.costs.now) (fours (length c.args.play.now.cards)) c.loop-trick.trick
    (g.W.Write.contents c.args.writer.now) (g.W.Write.contents c.loop-trick.writer) (g.W.Write.contents c.write_trick.new.writer) c.from_residual.result
    c.from_residual.ensures.0 (rw count at c.loop-trick-test.true) c.loop-trick.invariant c.in_err-write_trick.ensures

pub loop-trick-preserved : goal.loop-trick-preserved
loop-trick-preserved g c =
    let count = ap length c.cards.ensures.cards in
    index_taken (trick_row c.args.play.now.contract c.args.play.now.cards c.args.costs.now) (fours (length c.args.play.now.cards)) c.loop-trick.trick
    (g.W.Write.contents c.args.writer.now) (g.W.Write.contents c.loop-trick.writer) (g.W.Write.contents c.write_trick.new.writer)
    (rw count at c.loop-trick-test.true) c.loop-trick.invariant c.in_ok-write_trick.ensures

pub returns : goal.returns
returns g c =
    let count = ap length c.cards.ensures.cards in
    indexes_taken (trick_row c.args.play.now.contract c.args.play.now.cards c.args.costs.now) (fours (length c.args.play.now.cards)) c.loop-trick.trick
    (g.W.Write.contents c.args.writer.now) (g.W.Write.contents c.loop-trick.writer) (omega (arith, count)) c.loop-trick.invariant

pub write_trick-requires-clause-there : goal.write_trick-requires-clause-there
write_trick-requires-clause-there g c =
    let count = ap length c.cards.ensures.cards in
    omega (arith, count, c.loop-trick-test.true)

pub write_trick-requires-clause-few : goal.write_trick-requires-clause-few
write_trick-requires-clause-few g c = omega (arith, c.cards.ensures.few, c.loop-trick-test.true)
