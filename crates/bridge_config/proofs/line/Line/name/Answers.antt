use Rattle.std.proofs.Common.{sym, arith}
use Rattle.bridge_config.proofs.Bytes.{name_is_ascii, name_length}
use Rattle.bridge_config.proofs.line.Line.name.Goals as goal

pub inline-requires : goal.inline-requires
inline-requires c =
    let named = sym c.if-is_name.ensures in (omega arith, (name_is_ascii c.in-Some.word.now named, name_length c.in-Some.word.now named))
