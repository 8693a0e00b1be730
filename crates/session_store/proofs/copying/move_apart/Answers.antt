use Rattle.std.proofs.Common.{◌≡◌, ap, sym, ◌∙◌, arith}
use Rattle.session_store.specs.Form.{place}
use Rattle.session_store.proofs.CallLaws.{continues_begins}
use Rattle.session_store.proofs.CopyLemmas.{apart-next, cannot-prepare}
use Rattle.session_store.proofs.copying.move_apart.Goals as goal

pub returns-then-place_of-clause-continues : goal.returns-then-place_of-clause-continues
returns-then-place_of-clause-continues g c = continues_begins g.K.Kept.kept g.D.SectorDisk.disk c.args.store.now

pub returns-in-Ok-clause-apart : goal.returns-in-Ok-clause-apart
returns-in-Ok-clause-apart g c =
    let shared : place c.epoch.result ≡ place c.args.epoch
    = omega (arith, c.if-place_of.false, c.place_of.ensures.place, c.place_of-2.ensures.place) in
    apart-next c.args.epoch c.args.store.now.epoch c.checkpoint.new.self.epoch (ap place (sym c.epoch.ensures.epoch) ∙ shared)
    (ap (λ v. v.epoch) c.in-Ok.ensures.answer.2)

pub returns-in-Err-clause-fault : goal.returns-in-Err-clause-fault
returns-in-Err-clause-fault g c = λ works.
    cannot-prepare g.K.Kept.kept g.D.SectorDisk.disk c.args.store.now c.checkpoint.new.self c.in-Err.fault c.from.result c.from.ensures
    c.in-Err.ensures.answer works
