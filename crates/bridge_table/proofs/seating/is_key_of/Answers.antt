use Rattle.std.proofs.Common.{◌==◌, sym, ap}
use Rattle.std.proofs.Math.ListN.{get_or-map}
use Rattle.bridge_config.specs.ConfigValue.{key_number}
use Rattle.bridge_table.proofs.seating.is_key_of.Goals as goal

pub returns : goal.returns
returns c = ap (λ n. n == c.args.key.0) (sym (get_or-map key_number c.args.pair.now.keys c.args.index (record { 0 = 0 })))
