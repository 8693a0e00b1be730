use Rattle.auction_command.proofs.run.write_ending.Goals as goal

pub returns-clause-written : goal.returns-clause-written
returns-clause-written g c =
    rw (
      c.as_str.ensures.value,
      c.push_ending.ensures,
      c.push_str.ensures.bytes,
      c.new-out.ensures,
      c.limit_notice.ensures.text,
    ) at c.write_whole.ensures.written
