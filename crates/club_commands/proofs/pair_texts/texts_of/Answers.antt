use Rattle.std.proofs.Common.{◌∙◌, ap}
use Rattle.club_commands.specs.PairWeb.{begun_line}
use Rattle.club_commands.proofs.pair_texts.texts_of.Goals as goal

pub returns : goal.returns
returns c = record {
  host = c.in_ok-names.ensures.host;
  alias = c.in_ok-names.ensures.alias;
  line = c.in_ok-line.ensures ∙ ap (begun_line c.args.judged) c.host.ensures;
  people = c.in_ok-people.ensures;
}
