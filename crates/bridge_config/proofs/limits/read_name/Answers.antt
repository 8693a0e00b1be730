use Rattle.std.proofs.Common.{sym, arith}
use Rattle.bridge_config.proofs.Bytes.{name_is_ascii, name_length}
use Rattle.bridge_config.proofs.limits.read_name.Goals as goal

pub inline-requires : goal.inline-requires
inline-requires c =
    let named = sym c.if-is_name.ensures in (omega arith, (name_is_ascii c.args.text.now named, name_length c.args.text.now named))
