use Rattle.std.proofs.Common.{◌≡◌, ◌∙◌, ℕ, List, Option, length, sym, ap, subst}
use Rattle.std.proofs.lemmas.List.{length-map}
use Rattle.line_text.specs.Streams.{stream}
use Rattle.bridge_config.specs.ConfigValue.{ConfigValue, pair_of}
use Rattle.evening_commands.specs.Evenings.{NamesOf}
use Rattle.evening_commands.specs.NamesView.{list_seen}
use Rattle.evening_commands.specs.Plans.{PlansNamed}
use Rattle.evening_commands.proofs.Files.{then_of_file}
use Rattle.evening_commands.proofs.planning.plan_of_config.Goals as goal

pub returns : goal.returns
returns g c =
    let found = list_seen c.names_of_file.result in
    let config = c.args.config.now in
    let count : c.len-pairs.result ≡ length config.pairs =
    c.len-pairs.ensures.value ∙ sym (length-map c.fields.result.now.pairs.items pair_of)
    ∙ ap (λ (k : ConfigValue). length k.pairs) c.fields.ensures.fields in
    then_of_file (NamesOf c.len-pairs.result found)
    (PlansNamed config (stream g.W.Write.contents c.args.output.now c.write_named.new.output) c.write_named.result)
    (λ (given : Option (List ℕ)) is. (found, subst (λ n. NamesOf n found given) count is, c.write_named.ensures)) c.names_of_file.ensures
