use Rattle.std.proofs.Common.{◌≡◌, ◌+◌, ◌∙◌, [], ◌∷◌, ◌++◌, take, slice_index_or, Ok, Err, refl, sym, ap, subst, arith, append_assoc, append-nil}
use Rattle.std.proofs.KnownBytes.{Appends-nil}
use Rattle.std.proofs.lemmas.List.{take_more, take_all, take-append-drop}
use Rattle.std.specs.Prelude.{drop}
use Rattle.line_text.specs.Streams.{stream}
use Rattle.table_server.specs.Hearing.{Hearing, IsCutShort}
use Rattle.table_server.proofs.HearingLemmas.{hears_after, cut_before}
use Rattle.table_server.proofs.FaultLemmas.{no_fault, fails_on}
use Rattle.table_server.proofs.line_service.LineService.take.Goals as goal

pub loop-byte-init : goal.loop-byte-init
loop-byte-init g c = record {
  set = refl;
  fits = c.requires.0;
  lines = omega arith;
  hears = λ start bytes written h.
      ([], Appends-nil (g.W.Write.contents c.args.writer.now), rw (append-nil bytes, append-nil written) h);
  faults = no_fault g.D.SectorDisk.disk c.args.store.now;
}

pub returns-in-Err-clause-lines : goal.returns-in-Err-clause-lines
returns-in-Err-clause-lines g c = omega (arith, c.in-Err.ensures.lines, c.loop-byte.invariant.lines, c.loop-byte-test.true)

pub returns-in-Err-clause-hears : goal.returns-in-Err-clause-hears
returns-in-Err-clause-hears g c start bytes written h =
    let disk = g.D.SectorDisk.disk in
    let piece = c.args.piece.now in
    let i = c.loop-byte.byte-index in
    let so_far = c.loop-byte.invariant.hears start bytes written h in
    let heard = bytes ++ take i piece in
    let byte = slice_index_or piece i 0 in
    let cut = hears_after disk start c.take_byte.new.store (heard ++ byte ∷ []) c.take_byte.new.self written so_far.0
    (g.W.Write.contents c.args.writer.now) (g.W.Write.contents c.loop-byte.writer) (g.W.Write.contents c.take_byte.new.writer) (Err c.in-Err.fault)
    so_far.1 (c.in-Err.ensures.hears start heard (written ++ so_far.0) so_far.2) in
    let more = take_more piece i 0 c.loop-byte-test.true in
    let all : (heard ++ byte ∷ []) ++ drop (i + 1) piece ≡ bytes ++ piece
    = ap (λ xs. xs ++ drop (i + 1) piece) (append_assoc bytes (take i piece) (byte ∷ []) ∙ ap (λ xs. bytes ++ xs) (sym more))
    ∙ append_assoc bytes (take (i + 1) piece) (drop (i + 1) piece) ∙ ap (λ xs. bytes ++ xs) (take-append-drop (i + 1) piece) in (
      cut.0,
      subst (λ xs. IsCutShort disk c.take_byte.new.self.set start xs c.take_byte.new.store written (stream g.W.Write.contents c.args.writer.now c.take_byte.new.writer)) all
          (cut_before disk c.take_byte.new.self.set start c.take_byte.new.store (heard ++ byte ∷ []) (drop (i + 1) piece) written _ cut.1),
    )

pub loop-byte-preserved : goal.loop-byte-preserved
loop-byte-preserved g c = record {
  set = c.take_byte.ensures.set ∙ c.loop-byte.invariant.set;
  fits = c.in_default.ensures.fits;
  lines = omega (arith, c.in_default.ensures.lines, c.loop-byte.invariant.lines);
  hears = λ start bytes written h.
      let disk = g.D.SectorDisk.disk in
      let piece = c.args.piece.now in
      let i = c.loop-byte.byte-index in
      let so_far = c.loop-byte.invariant.hears start bytes written h in
      let heard = bytes ++ take i piece in
      let byte = slice_index_or piece i 0 in
      let on = hears_after disk start c.take_byte.new.store (heard ++ byte ∷ []) c.take_byte.new.self written so_far.0
      (g.W.Write.contents c.args.writer.now) (g.W.Write.contents c.loop-byte.writer) (g.W.Write.contents c.take_byte.new.writer) (Ok tt)
      so_far.1 (c.in_default.ensures.hears start heard (written ++ so_far.0) so_far.2) in
      let all : heard ++ byte ∷ [] ≡ bytes ++ take (i + 1) piece
      = append_assoc bytes (take i piece) (byte ∷ []) ∙ ap (λ xs. bytes ++ xs) (sym (take_more piece i 0 c.loop-byte-test.true)) in
      (on.0, on.1, subst (λ xs. Hearing disk start xs c.take_byte.new.store c.take_byte.new.self (written ++ on.0)) all on.2);
  faults = fails_on g.D.SectorDisk.disk c.args.store.now c.loop-byte.store c.take_byte.new.store c.loop-byte.invariant.faults c.take_byte.ensures.faults;
}

pub returns-clause-hears : goal.returns-clause-hears
returns-clause-hears g c start bytes written h =
    let piece = c.args.piece.now in
    let so_far = c.loop-byte.invariant.hears start bytes written h in
    let all : bytes ++ take c.loop-byte.byte-index piece ≡ bytes ++ piece
    = ap (λ xs. bytes ++ xs) (take_all c.loop-byte.byte-index piece c.loop-byte-test.false) in
    (so_far.0, so_far.1, subst (λ xs. Hearing g.D.SectorDisk.disk start xs c.loop-byte.store c.loop-byte.self (written ++ so_far.0)) all so_far.2)

pub returns-in-Err-clause-faults : goal.returns-in-Err-clause-faults
returns-in-Err-clause-faults g c =
    fails_on g.D.SectorDisk.disk c.args.store.now c.loop-byte.store c.take_byte.new.store c.loop-byte.invariant.faults c.take_byte.ensures.faults
