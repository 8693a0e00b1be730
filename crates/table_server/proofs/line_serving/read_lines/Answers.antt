use Rattle.std.proofs.Common.{◌-◌, [], take, refl, arith, rules, subst, ◌∙◌}
use Rattle.std.specs.Io.KnownBytes.{Consumes}
use Rattle.std.proofs.lemmas.List.{length-take-le}
use Rattle.line_text.specs.Streams.{between}
use Rattle.table_server.specs.declared.line_set.LineSet.{LineSet}
use Rattle.table_server.specs.ServedStreams.{StopsReplying}
use Rattle.table_server.proofs.StreamLemmas.{read_nothing, read_more, stops_more, read_kept, read_none}
use Rattle.table_server.proofs.FaultLemmas.{no_fault, fails_on}
use Rattle.table_server.proofs.line_serving.read_lines.Goals as goal

pub loop-left-init : goal.loop-left-init
loop-left-init g c = record {
  set = refl;
  fits = c.requires.fits;
  few = omega (arith, c.requires.none);
  room = refl;
  read = λ start h.
      read_nothing g.D.SectorDisk.disk start c.args.store.now c.args.service.now (g.R.Read.remaining c.args.reader.now) (g.W.Write.contents c.args.writer.now) h;
  faults = no_fault g.D.SectorDisk.disk c.args.store.now;
}

pub returns-in_default-clause-read : goal.returns-in_default-clause-read
returns-in_default-clause-read g c start h = (
  c.loop-left.left,
  c.loop-left-test.true,
  read_kept g.D.SectorDisk.disk start c.loop-left.store c.loop-left.service (g.R.Read.remaining c.args.reader.now)
      (g.R.Read.remaining c.loop-left.reader) (g.R.Read.remaining c.read_piece.new.reader) _ c.loop-left.left (c.loop-left.invariant.read start h) c.in_default.ensures.err,
)

pub returns-then-taken-eq0-clause-read : goal.returns-then-taken-eq0-clause-read
returns-then-taken-eq0-clause-read g c start h =
    let rest = g.R.Read.remaining c.loop-left.reader in
    let after = g.R.Read.remaining c.read_piece.new.reader in
    let nothing : Consumes rest after [] = subst (λ n. Consumes rest after (take n c.read_piece.new.piece)) c.if-taken-eq0.true c.in-Ok.ensures.ok in (
      c.loop-left.left,
      (c.loop-left-test.true, c.in-Ok.ensures.end c.if-taken-eq0.true),
      read_none g.D.SectorDisk.disk start c.loop-left.store c.loop-left.service (g.R.Read.remaining c.args.reader.now) rest after _ c.loop-left.left
          (c.loop-left.invariant.read start h) nothing,
    )

pub returns-in-Err-clause-fault : goal.returns-in-Err-clause-fault
returns-in-Err-clause-fault g c start h =
    let r = c.loop-left.invariant.read start h in
    let piece = take c.in-Ok.taken c.read_piece.new.piece in
    let taken = length-take-le c.in-Ok.taken c.read_piece.new.piece c.in-Ok.ensures.bound.1 in
    let on = c.in-Err.ensures.hears start r.bytes r.text r.hearing in (
      on.0,
      subst (λ (set : LineSet). StopsReplying g.D.SectorDisk.disk set start c.take.new.store (between (g.R.Read.remaining c.args.reader.now) (g.R.Read.remaining c.read_piece.new.reader)) (between (g.W.Write.contents c.args.writer.now) (g.W.Write.contents c.take.new.writer)))
          (c.take.ensures.set ∙ c.loop-left.invariant.set)
          (stops_more g.D.SectorDisk.disk start c.loop-left.store c.take.new.store c.loop-left.service c.take.new.self (g.R.Read.remaining c.args.reader.now)
          (g.R.Read.remaining c.loop-left.reader) (g.R.Read.remaining c.read_piece.new.reader) (g.W.Write.contents c.args.writer.now)
          (g.W.Write.contents c.loop-left.writer) (g.W.Write.contents c.take.new.writer) c.loop-left.left piece c.in-Err.fault r
          (omega (arith, taken, c.in-Ok.ensures.bound.0)) c.in-Ok.ensures.ok on),
    )

pub loop-left-preserved : goal.loop-left-preserved
loop-left-preserved g c =
    let piece = take c.in-Ok.taken c.read_piece.new.piece in
    let taken = length-take-le c.in-Ok.taken c.read_piece.new.piece c.in-Ok.ensures.bound.1 in record {
      set = c.take.ensures.set ∙ c.loop-left.invariant.set;
      fits = c.in_default-take.ensures.fits;
      few = omega (arith, taken, c.in-Ok.ensures.bound.0, c.in_default-take.ensures.lines, c.loop-left.invariant.few);
      room = search rules;
      read = λ start h.
          let r = c.loop-left.invariant.read start h in
          read_more g.D.SectorDisk.disk start c.loop-left.store c.take.new.store c.loop-left.service c.take.new.self (g.R.Read.remaining c.args.reader.now)
          (g.R.Read.remaining c.loop-left.reader) (g.R.Read.remaining c.read_piece.new.reader) (g.W.Write.contents c.args.writer.now)
          (g.W.Write.contents c.loop-left.writer) (g.W.Write.contents c.take.new.writer) c.loop-left.left (c.loop-left.left - c.in-Ok.taken) piece r
          (omega (arith, taken, c.in-Ok.ensures.bound.0)) c.in-Ok.ensures.ok (c.in_default-take.ensures.hears start r.bytes r.text r.hearing);
      faults = fails_on g.D.SectorDisk.disk c.args.store.now c.loop-left.store c.take.new.store c.loop-left.invariant.faults c.take.ensures.faults;
    }

pub returns-clause-read : goal.returns-clause-read
returns-clause-read g c start h = (c.loop-left.left, omega (arith, c.loop-left-test.false), c.loop-left.invariant.read start h)

pub returns-in-Err-clause-faults : goal.returns-in-Err-clause-faults
returns-in-Err-clause-faults g c =
    fails_on g.D.SectorDisk.disk c.args.store.now c.loop-left.store c.take.new.store c.loop-left.invariant.faults c.take.ensures.faults
