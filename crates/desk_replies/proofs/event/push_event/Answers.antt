use Rattle.bridge_config.specs.ConfigValue.{configuration_of}
use Rattle.desk_replies.specs.Told.{event_lines}
use Rattle.desk_replies.proofs.Lines.{then_ok, listed_all}
use Rattle.desk_replies.proofs.event.push_event.Goals as goal

pub returns : goal.returns
returns c =
    then_ok c.push_str-2.result
    (listed_all (event_lines (configuration_of c.args.fields.now)) _ _ _ _ c.in_ok-push_str.ensures c.in_ok-push_lines.ensures)
    c.push_str-2.ensures
