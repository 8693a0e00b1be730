use Rattle.std.proofs.Common.{ℕ, List, ap, ◌∙◌, codes}
use Rattle.std.specs.Fmt.{decimal}
use Rattle.bridge_config.specs.ConfigValue.{ConfigValue}
use Rattle.club_commands.specs.Checked.{boards_dealt, plays_done, with_said, with_round}
use Rattle.club_commands.proofs.check.push_state.Goals as goal

pub returns-clause-state : goal.returns-clause-state
returns-clause-state c =
    let s = c.args.session.now in
    let stated = c.fields-fields.ensures.fields ∙ c.config.ensures in
    let event = c.as_str.ensures.value ∙ ap (λ (configuration : ConfigValue). configuration.event) stated in
    let date = c.as_str-2.ensures.value ∙ ap (λ (configuration : ConfigValue). configuration.date) stated in
    let dealt = c.from.ensures ∙ c.boards_dealt.ensures in
    let done = c.from-2.ensures ∙ c.plays_done.ensures in
    let first = c.push_said.ensures.said
    ∙ ap (λ (value : List ℕ). with_said c.args.text.now.bytes (codes "event ") value) event in
    let second = c.push_said-2.ensures.said
    ∙ ap (λ (value : List ℕ). with_said c.push_said.new.text.bytes (codes "date ") value) date
    ∙ ap (λ (text : List ℕ). with_said text (codes "date ") s.configuration.date) first in
    let third = c.push_round.ensures.round ∙ ap (λ (text : List ℕ). with_round text s) second in
    let fourth = c.push_number.ensures.said
    ∙ ap (λ (n : ℕ). with_said c.push_round.new.text.bytes (codes "boards dealt ") (decimal n)) dealt
    ∙ ap (λ (text : List ℕ). with_said text (codes "boards dealt ") (decimal (boards_dealt s))) third in
    c.push_number-2.ensures.said
    ∙ ap (λ (n : ℕ). with_said c.push_number.new.text.bytes (codes "plays finished or ruled on ") (decimal n)) done
    ∙ ap (λ (text : List ℕ). with_said text (codes "plays finished or ruled on ") (decimal (plays_done s))) fourth
