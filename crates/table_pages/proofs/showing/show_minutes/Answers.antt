use Rattle.std.proofs.Common.{ap}
use Rattle.table_pages.specs.Site.{site_of}
use Rattle.table_pages.proofs.Shown.{leads, same_site}
use Rattle.table_pages.proofs.showing.show_minutes.Goals as goal

pub returns : goal.returns
returns g c =
    leads g.T.LineServer.answers g.T.LineServer.failed g.T.LineServer.places g.T.LineServer.tables g.T.LineServer.waits g.T.LineServer.boards g.T.LineServer.desks g.T.LineServer.results (λ pages. site_of pages.texts pages.names pages.people.items) (λ pages. pages.server) _
    (λ old new request response x. (x.0, same_site new.texts old.texts new.names old.names _ _ x.1 x.2 (ap (λ people. people.items) x.7))) c.args.pages.now c.serve_minutes.new.service c.serve_minutes.ensures.leads

pub serve_minutes-requires : goal.serve_minutes-requires
serve_minutes-requires g c = record {
  limits = rw c.new-clients.ensures.config c.limits.ensures;
  limited = rw c.new-clients.ensures.config c.new-clients.ensures.limits;
}
