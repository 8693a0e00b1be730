use Rattle.std.proofs.Common.{◌++◌, ◌∷◌, ap}
use Rattle.auction_command.proofs.LineLemmas.{replies_same, calls_same, replies_fed, calls_fed}
use Rattle.auction_command.proofs.auction_lines.AuctionLines.feed_byte.Goals as goal

pub returns-in-None-clause-replies : goal.returns-in-None-clause-replies
returns-in-None-clause-replies c rest =
    rw (← c.self.view_is)
    (ap (λ text. c.args.out.now.bytes ++ text)
    (replies_same c.self.inside.auction.calls (c.self.inside.feed ++ c.args.byte ∷ rest) (c.take_byte.new.self ++ rest) (c.in-None.ensures.lines rest)))

pub returns-in-None-clause-calls : goal.returns-in-None-clause-calls
returns-in-None-clause-calls c rest =
    rw (← c.self.view_is)
    (calls_same c.self.inside.auction.calls (c.self.inside.feed ++ c.args.byte ∷ rest) (c.take_byte.new.self ++ rest) (c.in-None.ensures.lines rest))

pub returns-in-Some-clause-replies : goal.returns-in-Some-clause-replies
returns-in-Some-clause-replies c rest =
    rw (← c.self.view_is)
    (replies_fed c.self.inside.auction.calls c.answer-reply.new.auction.calls (c.self.inside.feed ++ c.args.byte ∷ rest) (c.take_byte.new.self ++ rest)
    c.in-Some.line.items c.as_slice.result.now c.args.out.now.bytes c.push_to.new.out.bytes c.answer-reply.result (c.in-Some.ensures.lines rest)
    c.as_slice.ensures.value c.answer-reply.ensures.reply c.answer-reply.ensures.calls c.push_to.ensures.text)

pub returns-in-Some-clause-calls : goal.returns-in-Some-clause-calls
returns-in-Some-clause-calls c rest =
    rw (← c.self.view_is)
    (calls_fed c.self.inside.auction.calls c.answer-reply.new.auction.calls (c.self.inside.feed ++ c.args.byte ∷ rest) (c.take_byte.new.self ++ rest)
    c.in-Some.line.items c.as_slice.result.now (c.in-Some.ensures.lines rest) c.as_slice.ensures.value c.answer-reply.ensures.calls)
