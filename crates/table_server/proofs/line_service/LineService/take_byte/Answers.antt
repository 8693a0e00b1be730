use Rattle.std.proofs.Common.{◌∙◌, ap, refl, subst}
use Rattle.session_rules.specs.State.{SessionValue}
use Rattle.table_server.specs.Asked.{AsksIn}
use Rattle.table_server.proofs.HearingLemmas.{hears_begun, hears_line, heard_line, heard_begun}
use Rattle.table_server.proofs.FaultLemmas.{no_fault}
use Rattle.table_server.proofs.KeyLemmas.{configuration_kept, counts_one}
use Rattle.table_server.proofs.line_service.LineService.take_byte.Goals as goal

pub returns-in-None-clause-hears : goal.returns-in-None-clause-hears
returns-in-None-clause-hears g c start bytes written h =
    let self = c.args.self.now in
    let feed = c.take_byte.new.self in
    heard_begun g.D.SectorDisk.disk start c.args.store.now bytes self (record { set = self.set; feed = feed; held = self.held; wrong_keys = self.wrong_keys }) c.args.byte written
    (g.W.Write.contents c.args.writer.now) h
    (hears_begun self.set bytes self.feed feed c.args.byte h.asked h.hears c.in-None.ensures.lines c.in-None.ensures.within) refl refl

pub returns-in-Some-clause-hears : goal.returns-in-Some-clause-hears
returns-in-Some-clause-hears g c start bytes written h =
    let disk = g.D.SectorDisk.disk in
    let self = c.args.self.now in
    let feed = c.take_byte.new.self in
    let one = c.asked_in-asked.result in
    let asks : AsksIn self.set c.in-Some.line.items one = subst (λ line. AsksIn self.set line one) c.as_slice.ensures.value c.asked_in-asked.ensures in
    heard_line disk start c.args.store.now c.answer.new.store bytes self (record { set = self.set; feed = feed; held = c.answer.new.self; wrong_keys = c.saturating_add-self.result }) c.args.byte one written
    _ c.answer.result h
    (hears_line self.set bytes self.feed feed c.in-Some.line.items c.args.byte h.asked one h.hears c.in-Some.ensures.lines c.in-Some.ensures.within asks)
    (c.answer.ensures.serves start h.asked written h.serving) c.answer.ensures.lines
    (c.saturating_add-self.ensures
    ∙ counts_one start.state.configuration c.state.result.now.configuration h.asked one self.wrong_keys c.wrong_keys_in-more.result self.held.served.lines
    (ap (λ (s : SessionValue). s.configuration) c.state.ensures.state ∙ configuration_kept disk start h.asked c.args.store.now self.held written h.serving) h.counted
    c.wrong_keys_in-more.ensures h.lines c.requires.few)

pub returns-in-None-clause-faults : goal.returns-in-None-clause-faults
returns-in-None-clause-faults g c = no_fault g.D.SectorDisk.disk c.args.store.now
