use Rattle.std.proofs.Common.{arith, ap, sym}
use Rattle.std.proofs.lemmas.Bool.{eqb-true, ne_eqb}
use Rattle.line_replies.proofs.FeedLemmas.{kept_fed, kept_full, kept_pushed}
use Rattle.line_replies.proofs.line_feed.LineFeed.take_byte.Goals as goal

pub returns-then-byte-eq10-clause-lines : goal.returns-then-byte-eq10-clause-lines
returns-then-byte-eq10-clause-lines c rest =
    rw (← c.self.view_is)
    (kept_fed c.self.inside.line.items c.take.new.dest.items c.take.result.items rest c.args.byte c.self.invariant (omega arith)
    c.if-byte-eq10.true (ap (λ line. line.items) c.take.ensures.value) c.take.ensures.after)

pub returns-then-is_full-clause-lines : goal.returns-then-is_full-clause-lines
returns-then-is_full-clause-lines c rest =
    rw (← c.self.view_is)
    (kept_full c.self.inside.line.items rest c.args.byte c.self.invariant
    (let full = eqb-true _ _ (sym c.if-is_full.ensures.value) in omega (arith, full)) (ne_eqb c.args.byte 10 c.if-byte-eq10.false))

pub returns-clause-lines : goal.returns-clause-lines
returns-clause-lines c rest =
    rw (← c.self.view_is) (kept_pushed c.self.inside.line.items c.push.new.self.items rest c.args.byte c.push.ensures.items)
