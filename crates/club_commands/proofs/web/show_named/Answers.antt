use Rattle.std.proofs.Common.{◌∙◌, ap}
use Rattle.line_text.specs.Streams.{stream}
use Rattle.table_pages.specs.Site.{site_of}
use Rattle.club_disk.specs.Stored.{ClubStore}
use Rattle.club_commands.proofs.Shown.{made_site, settled_store, shows_over}
use Rattle.club_commands.proofs.web.show_named.Goals as goal

pub returns : goal.returns
returns g c =
    let pages = c.pages_over-pages.result in
    let shown = c.args.shown.now in
    shows_over shown.texts shown.host shown.names (site_of pages.texts pages.names pages.people.items) c.args.store pages.server
    c.listen_and_show-ended.new.pages.server (stream g.W.Write.contents c.args.output.now c.listen_and_show-ended.new.output)
    c.listen_and_show-ended.result c.with_disk-2.result.ended c.with_disk-2.result.disk
    (made_site shown.host pages.texts shown.texts pages.names c.in-Ok.names _ _ c.pages_over-pages.ensures.names c.pages_over-pages.ensures.texts
    (ap (λ people. people.items) c.pages_over-pages.ensures.people ∙ c.in-Ok-people_of.ensures) c.in-Ok.ensures.host c.in-Ok.ensures.alias)
    c.pages_over-pages.ensures.server c.with_disk-2.ensures.ended
    (c.with_disk-2.ensures.disk ∙ ap (λ (s : ClubStore). s.disk) c.into_server.ensures)
    c.listen_and_show-ended.ensures

pub pages_over-pages-requires : goal.pages_over-pages-requires
pages_over-pages-requires g c = settled_store c.args.store c.requires.works c.requires.none_pending
