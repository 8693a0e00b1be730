use Rattle.std.proofs.Common.{◌∙◌, sym, ap}
use Rattle.session_store.specs.Value.{StoreValue}
use Rattle.session_rules.specs.declared.action.Action.{Action}
use Rattle.session_rules.specs.State.{SessionValue}
use Rattle.table_pages.specs.Site.{site_of}
use Rattle.club_commands.proofs.Shown.{pages_ended}
use Rattle.club_commands.proofs.web.show_pages.Goals as goal

pub returns : goal.returns
returns g c =
    let failed = ap (λ (store : StoreValue g.row.D.Denot SessionValue Action). store.failed) (sym c.server.ensures) ∙ sym c.has_failed.ensures in
    pages_ended g.D.SectorDisk.disk (site_of c.args.pages.now.texts c.args.pages.now.names c.args.pages.now.people.items) c.has_failed.result c.show_minutes-shown.result
    c.ended.result c.args.pages.now.server c.show_minutes-shown.new.pages.server c.show_minutes-shown.ensures c.requires failed c.ended.ensures
