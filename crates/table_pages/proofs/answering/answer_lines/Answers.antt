use Rattle.std.proofs.Common.{List, ℕ, Some, refl, ap}
use Rattle.table_pages.proofs.Answered.{counts_keys, is_answered, is_cut_off}
use Rattle.table_pages.proofs.answering.answer_lines.Goals as goal

pub returns-in-Ok-clause-answered : goal.returns-in-Ok-clause-answered
returns-in-Ok-clause-answered g c =
    is_answered g.D.SectorDisk.disk c.args.set c.args.store.now c.serve_lines.new.store c.args.body.now c.serve_lines.new.writer.items _ _ _ c.requires.short
    c.in-Ok.ensures.ok.has refl (ap (λ (bytes : List ℕ). Some bytes) c.new-text.ensures.items) refl

pub returns-in-Err-clause-answered : goal.returns-in-Err-clause-answered
returns-in-Err-clause-answered g c =
    is_cut_off g.D.SectorDisk.disk c.args.set c.args.store.now c.serve_lines.new.store c.args.body.now _ _ _ c.in-Err.ensures.fault
    refl (ap (λ (bytes : List ℕ). Some bytes) c.new-text.ensures.items)

pub returns-in-Ok-clause-counted : goal.returns-in-Ok-clause-counted
returns-in-Ok-clause-counted g c =
    counts_keys g.D.SectorDisk.disk c.args.set c.args.store.now c.serve_lines.new.store c.args.body.now _ _ c.in-Ok.lines c.requires.short c.in-Ok.ensures.ok refl
