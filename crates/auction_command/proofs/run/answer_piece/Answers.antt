use Rattle.auction_command.proofs.run.answer_piece.Goals as goal

pub returns-clause-written : goal.returns-clause-written
returns-clause-written g c = (
  c.feed.new.out.bytes,
  record {
    replies = λ rest. rw c.new-out.ensures at (c.feed.ensures.replies rest);
    calls = c.feed.ensures.calls;
    dealer = c.feed.ensures.dealer;
    within = c.feed.ensures.within;
  },
  rw c.as_str.ensures.value at c.write_whole.ensures.written,
)
