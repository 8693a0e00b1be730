use Rattle.std.proofs.Common.{ℕ, List, arith, subst, sym}
use Rattle.std.specs.Io.KnownBytes.{Consumes}
use Rattle.std.proofs.KnownBytes.{Consumes-nil}
use Rattle.makeable_deals.proofs.FileRead.{reads_on}
use Rattle.makeable_deals.proofs.text.read_text.Goals as goal

pub loop-reader-init : goal.loop-reader-init
loop-reader-init g c =
    let rest = g.R.Read.remaining c.args.reader.now in
    subst (λ (bytes : List ℕ). Consumes rest rest bytes) (sym c.requires) (Consumes-nil rest)

pub loop-reader-smaller : goal.loop-reader-smaller
loop-reader-smaller g c =
    omega (arith, c.in_ok-read_on.ensures.read.more c.if-not-branch.false, c.len.ensures, c.loop-reader-test.true)

pub loop-reader-preserved : goal.loop-reader-preserved
loop-reader-preserved g c =
    reads_on (g.R.Read.remaining c.args.reader.now) (g.R.Read.remaining c.loop-reader.reader) (g.R.Read.remaining c.read_on.new.reader)
    c.loop-reader.text.items c.read_on.new.text.items c.in_ok-read_on.field-0 c.loop-reader.invariant c.in_ok-read_on.ensures.read

pub returns-then-not-branch : goal.returns-then-not-branch
returns-then-not-branch g c = record {
  read = record {
    given = reads_on (g.R.Read.remaining c.args.reader.now) (g.R.Read.remaining c.loop-reader.reader) (g.R.Read.remaining c.read_on.new.reader)
        c.loop-reader.text.items c.read_on.new.text.items c.in_ok-read_on.field-0 c.loop-reader.invariant c.in_ok-read_on.ensures.read;
    whole = λ less. c.in_ok-read_on.ensures.read.end c.if-not-branch.true;
  };
  none = tt;
}

pub returns : goal.returns
returns g c = record {
  read = record {
    given = c.loop-reader.invariant;
    whole = λ less. absurd (omega (arith, less, c.len.ensures, c.loop-reader-test.false));
  };
  none = tt;
}
