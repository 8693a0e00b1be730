use Rattle.std.proofs.Common.{[], take, drop, sym, arith, append-nil}
use Rattle.std.proofs.lemmas.List.{take-append-drop}
use Rattle.std.proofs.Math.Seq.{take-add}
use Rattle.std.proofs.KnownBytes.{Appends-trans, Appends-kept}
use Rattle.line_text.specs.Streams.{stream}
use Rattle.line_text.proofs.Streams.{written_error}
use Rattle.line_text.proofs.write.write_text.Goals as goal

pub loop-written-preserved : goal.loop-written-preserved
loop-written-preserved g c = (
  omega (arith, c.in_ok-taken.ensures.bound, c.split_at.ensures.back_len),
  rw (take-add c.loop-written.written c.in_ok-taken.taken c.args.text.now)
      (Appends-trans (g.W.Write.contents c.args.writer.now) (g.W.Write.contents c.loop-written.writer) (g.W.Write.contents c.write.new.self)
      (take c.loop-written.written c.args.text.now) (take c.in_ok-taken.taken (drop c.loop-written.written c.args.text.now))
      c.loop-written.invariant.1 (rw (← c.split_at.ensures.back) c.in_ok-taken.ensures.bytes)),
)

pub returns-in_err-taken : goal.returns-in_err-taken
returns-in_err-taken g c =
    written_error (stream g.W.Write.contents c.args.writer.now c.write.new.self) c.args.text.now c.from_residual.result c.from_residual.ensures.0 (
      take c.loop-written.written c.args.text.now,
      drop c.loop-written.written c.args.text.now,
      sym (take-append-drop c.loop-written.written c.args.text.now),
      Appends-kept (g.W.Write.contents c.args.writer.now) (g.W.Write.contents c.loop-written.writer) (g.W.Write.contents c.write.new.self)
          (take c.loop-written.written c.args.text.now) c.loop-written.invariant.1 c.in_err-taken.ensures.bytes,
    )

pub returns-then-taken-eq0 : goal.returns-then-taken-eq0
returns-then-taken-eq0 g c =
    let nothing = rw c.if-taken-eq0.true at c.in_ok-taken.ensures.bytes in (
      take c.loop-written.written c.args.text.now,
      drop c.loop-written.written c.args.text.now,
      sym (take-append-drop c.loop-written.written c.args.text.now),
      rw append-nil at (Appends-trans (g.W.Write.contents c.args.writer.now) (g.W.Write.contents c.loop-written.writer)
          (g.W.Write.contents c.write.new.self) (take c.loop-written.written c.args.text.now) [] c.loop-written.invariant.1 nothing),
    )
