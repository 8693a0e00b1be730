use Rattle.std.proofs.Common.{◌++◌, refl}
use Rattle.std.proofs.lemmas.Result.{err_from_is_err_and}
use Rattle.line_text.proofs.Streams.{prefix_longer}
use Rattle.line_replies.proofs.WrittenParts.{written_after}
use Rattle.club_commands.proofs.results.write_ranking.Goals as goal

pub returns-in_err-write_output : goal.returns-in_err-write_output
returns-in_err-write_output g c =
    let first = c.field_text-first.result.bytes in
    let second = c.field_text-second.result.bytes in
    let stopped = rw c.as_str.ensures.value at c.in_err-write_output.ensures in
    let p = err_from_is_err_and c.from_residual.result c.from_residual.ensures.1 in
    rw (p.1, p.2) (
      first ++ second,
      (first, second, c.field_text-first.ensures, c.field_text-second.ensures, refl),
      (prefix_longer (g.W.Write.contents c.args.output.now) (g.W.Write.contents c.write_output.new.output) first second stopped.0, stopped.1),
    )

pub returns : goal.returns
returns g c =
    let first = c.field_text-first.result.bytes in
    let second = c.field_text-second.result.bytes in
    let before = rw c.as_str.ensures.value at c.in_ok-write_output.ensures in
    let behind = rw c.as_str-2.ensures.value at c.write_output-2.ensures in (
      first ++ second,
      (first, second, c.field_text-first.ensures, c.field_text-second.ensures, refl),
      (
        written_after (g.W.Write.contents c.args.output.now) (g.W.Write.contents c.write_output.new.output) (g.W.Write.contents c.write_output-2.new.output)
            first second c.write_output-2.result before.0 behind.0,
        behind.1,
      ),
    )
