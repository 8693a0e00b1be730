use Rattle.std.proofs.Common.{ℕ, List, arith, subst, sym}
use Rattle.std.specs.Io.KnownBytes.{Consumes}
use Rattle.std.proofs.KnownBytes.{Consumes-nil}
use Rattle.evening_commands.proofs.Reading.{reads_on}
use Rattle.evening_commands.proofs.text_file.read_text.Goals as goal

pub loop-reader-init : goal.loop-reader-init
loop-reader-init g c =
    let rest = g.R.Read.remaining c.args.reader.now in
    subst (λ (bytes : List ℕ). Consumes rest rest bytes) (sym c.requires) (Consumes-nil rest)

pub loop-reader-smaller : goal.loop-reader-smaller
loop-reader-smaller g c =
    omega (arith, c.in_ok-read_on.ensures.read.more c.if-not-branch.false, c.len.ensures.value, c.loop-reader-test.true)

pub loop-reader-preserved : goal.loop-reader-preserved
loop-reader-preserved g c =
    reads_on (g.R.Read.remaining c.args.reader.now) (g.R.Read.remaining c.loop-reader.reader) (g.R.Read.remaining c.read_on.new.reader)
    c.loop-reader.text.items c.read_on.new.text.items c.in_ok-read_on.field-0 c.loop-reader.invariant c.in_ok-read_on.ensures.read

pub returns-then-not-branch : goal.returns-then-not-branch
returns-then-not-branch g c = record {
  given = reads_on (g.R.Read.remaining c.args.reader.now) (g.R.Read.remaining c.loop-reader.reader) (g.R.Read.remaining c.read_on.new.reader)
      c.loop-reader.text.items c.read_on.new.text.items c.in_ok-read_on.field-0 c.loop-reader.invariant c.in_ok-read_on.ensures.read;
  few = c.read_on.ensures.few;
  whole = λ less. c.in_ok-read_on.ensures.read.end c.if-not-branch.true;
}

pub returns : goal.returns
returns g c = record {
  given = c.loop-reader.invariant;
  few = omega (arith, c.len.ensures.fits);
  whole = λ less. absurd (omega (arith, less, c.len.ensures.value, c.loop-reader-test.false));
}
