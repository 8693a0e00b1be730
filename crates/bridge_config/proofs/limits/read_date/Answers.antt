use Rattle.std.proofs.Common.{sym, arith}
use Rattle.bridge_config.proofs.Bytes.{date_is_ascii, date_length}
use Rattle.bridge_config.proofs.limits.read_date.Goals as goal

pub inline-requires : goal.inline-requires
inline-requires c =
    let form = sym c.if-is_date_form.ensures in
    (omega arith, (date_is_ascii c.args.text.now form, omega (arith, date_length c.args.text.now form)))
