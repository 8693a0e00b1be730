use Rattle.std.proofs.Common.{sym, arith}
use Rattle.bridge_config.proofs.Bytes.{date_is_ascii, date_length}
use Rattle.bridge_config.proofs.line.Line.date.Goals as goal

pub inline-requires : goal.inline-requires
inline-requires c =
    let form = sym c.if-is_date_form.ensures in
    (omega arith, (date_is_ascii c.in-Some.word.now form, omega (arith, date_length c.in-Some.word.now form)))
