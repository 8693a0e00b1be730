use Rattle.club_commands.proofs.PairShown.{ended_at}
use Rattle.club_commands.proofs.pair_web.show_pair.Goals as goal

pub returns : goal.returns
returns g c = record {
  requests = c.show_minutes-shown.ensures;
  has_clock = c.is_ok.result;
  ends = ended_at c.server-server.result.now c.show_minutes-shown.new.pages.server c.has_failed.result c.standing.result c.args.disk_first c.is_ok.result
      c.pair_ended.result c.server-server.ensures c.has_failed.ensures c.standing.ensures c.pair_ended.ensures;
}
