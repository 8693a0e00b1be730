use Rattle.std.proofs.Common.{◌≡◌, ◌⊎◌, Ok, Err, rules, inl}
use Rattle.session_rules.specs.State.{opening}
use Rattle.club_commands.specs.Basis.{Store, NoMemory}
use Rattle.club_commands.proofs.config_file.new_session.Goals as goal

pub returns : goal.returns
returns c =
    let begun : (c.or.result ≡ Ok (opening c.in_ok-config.config)) ⊎ (c.or.result ≡ Err (Store NoMemory)) = search rules in
    inl (c.in_ok-config.config, c.in_ok-config.ensures.found, begun)
