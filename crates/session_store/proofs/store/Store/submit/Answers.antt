use Rattle.std.proofs.Common.{rules, ◌≡◌, ◌<◌, ◌-◌, ◌^◌, length, sym, arith, ◌∙◌, refl}
use Rattle.std.proofs.lemmas.Bool.{eqb-false}
use Rattle.session_store.proofs.CallLaws.{continues_begins}
use Rattle.session_store.proofs.RecordLemmas.{room-spent}
use Rattle.session_store.proofs.store.Store.submit.Goals as goal

pub returns-then-self-clause-continues : goal.returns-then-self-clause-continues
returns-then-self-clause-continues g c = continues_begins g.K.Kept.kept g.D.SectorDisk.disk c.args.self.now

pub returns-then-is_full-clause-continues : goal.returns-then-is_full-clause-continues
returns-then-is_full-clause-continues g c = continues_begins g.K.Kept.kept g.D.SectorDisk.disk c.args.self.now

pub returns-then-self-2-clause-continues : goal.returns-then-self-2-clause-continues
returns-then-self-2-clause-continues g c = continues_begins g.K.Kept.kept g.D.SectorDisk.disk c.args.self.now

pub returns-then-self-2-clause-answer : goal.returns-then-self-2-clause-answer
returns-then-self-2-clause-answer g c =
    let short : length c.self.inside.pending.items ≡ 64 → ⊥ = eqb-false _ _ (sym c.is_full.ensures.value ∙ c.if-is_full.false) in
    let below : length c.self.inside.pending.items < 64 = omega (arith, short, c.self.invariant.few) in
    let full : c.self.inside.records ≡ 1024 = omega (arith, c.if-self-lt-RECORDS.false, c.self.invariant.records) in
    let last : c.self.inside.epoch ≡ 2 ^ 64 - 1 = omega (arith, c.if-self-2.true) in
    rw (← c.self.view_is) (c.if-self.false, below, room-spent _ full last, refl)

pub submit_record-requires : goal.submit_record-requires
submit_record-requires g c =
    let short : length c.self.inside.pending.items ≡ 64 → ⊥ = eqb-false _ _ (sym c.is_full.ensures.value ∙ c.if-is_full.false) in
    (search rules, rw (← c.self.view_is) (c.if-self.false, (omega (arith, short, c.self.invariant.few), omega (arith, c.if-self-lt-RECORDS.true))))
