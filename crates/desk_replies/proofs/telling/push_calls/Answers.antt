use Rattle.std.proofs.Common.{◌≡◌, List, ◌++◌, Option, ap, map, ◌∙◌}
use Rattle.std.specs.Prelude.{flat_map}
use Rattle.bridge_config.specs.ConfigValue.{ConfigValue, Pair, pair_of}
use Rattle.line_text.specs.Lines.{lines_text}
use Rattle.desk_replies.specs.declared.desk.TableCall.{TableCall}
use Rattle.desk_replies.specs.Told.{call_lines}
use Rattle.desk_replies.proofs.telling.push_calls.Goals as goal

pub returns-clause-lines : goal.returns-clause-lines
returns-clause-lines c =
    let before = c.args.text.now.bytes in
    let pairs : map pair_of c.deref.result.now ≡ c.args.session.now.configuration.pairs =
    ap (map pair_of) c.deref.ensures.0 ∙ ap (λ (k : ConfigValue). k.pairs) (c.fields.ensures.fields ∙ c.config.ensures) in
    c.push_each.ensures.lines
    ∙ ap (λ (own : List Pair). before ++ lines_text (flat_map (call_lines own) c.calls.result.now)) pairs
    ∙ ap (λ (calls : List (Option TableCall)). before ++ lines_text (flat_map (call_lines c.args.session.now.configuration.pairs) calls)) c.calls.ensures.calls
