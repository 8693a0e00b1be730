use Rattle.std.proofs.Common.{◌∙◌, ap, sym, List, ℕ}
use Rattle.std.specs.String.{string_bytes}
use Rattle.table_pages.specs.declared.host_names.HostNames.{HostNames}
use Rattle.club_commands.specs.PairWeb.{begun_line}
use Rattle.line_text.specs.Streams.{stream}
use Rattle.table_pages.specs.Site.{site_of}
use Rattle.club_commands.proofs.Shown.{made_site}
use Rattle.club_commands.proofs.PairShown.{settled_pair, joined_shown}
use Rattle.club_commands.proofs.pair_web.show_begun.Goals as goal

pub returns : goal.returns
returns g c =
    let pages = c.pages_over-pages.result in
    let shown = c.args.shown.now in
    joined_shown shown.texts shown.host shown.names c.args.disks c.args.joined.judged c.args.joined.first c.args.joined.second
    (site_of pages.texts pages.names pages.people.items) c.new-server.result pages.server c.show_pair_at.new.pages.server
    (stream g.W.Write.contents c.args.output.now c.show_pair_at.new.output) c.show_pair_at.result
    (made_site shown.host pages.texts shown.texts pages.names c.args.texts.names _ _ c.pages_over-pages.ensures.names c.pages_over-pages.ensures.texts
    (ap (λ people. people.items) c.pages_over-pages.ensures.people ∙ c.requires.begins.people) c.requires.begins.host c.requires.begins.alias)
    c.pages_over-pages.ensures.server
    (record {
      first = c.new-server.ensures.first;
      second = c.new-server.ensures.second;
      names_are = c.new-server.ensures.names;
      stopped = c.new-server.ensures.begun;
    })
    c.show_pair_at.ensures

pub pages_over-pages-requires : goal.pages_over-pages-requires
pages_over-pages-requires g c =
    rw (c.new-server.ensures.first, c.new-server.ensures.second)
    (settled_pair c.args.joined.first c.args.joined.second c.new-server.result.stopped c.requires.works)

pub show_pair_at-requires : goal.show_pair_at-requires
show_pair_at-requires g c = record {
  line = c.as_str-line.ensures.value ∙ c.requires.begins.line
      ∙ ap (λ (host : List ℕ). begun_line c.args.joined.judged host)
      (ap (λ (names : HostNames). string_bytes names.host) (sym c.pages_over-pages.ensures.names));
}
