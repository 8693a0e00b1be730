use Rattle.std.proofs.Common.{arith, ◌∙◌}
use Rattle.std.specs.Option.{option_map}
use Rattle.event_ranking.specs.Dealt.{first_deal}
use Rattle.makeable_deals.specs.Makeable.{table_of}
use Rattle.session_analysis.specs.Analysed.{seen_table, event_tables_of}
use Rattle.session_analysis.proofs.OneByOne.{found_more, found_all}
use Rattle.session_analysis.proofs.event_boards.event_boards_of.Goals as goal

pub loop-number-preserved : goal.loop-number-preserved
loop-number-preserved c =
    let board = rw c.unwrap-board.ensures at c.new.ensures.value in
    record {
      found =
          rw c.push.ensures.items
          (found_more seen_table (λ board. option_map table_of (first_deal c.args.sections.now board)) c.loop-number.found.items _ 36 c.loop-number.number
          c.loop-number.invariant.least (omega arith) c.loop-number.invariant.found (rw board at c.in_ok-makeable_on.ensures));
      count = omega (arith, c.push.ensures.len, c.loop-number.invariant.count);
      least = omega arith;
    }

pub returns : goal.returns
unfolding event_tables_of
returns c =
    c.loop-number.invariant.found ∙ found_all (λ board. option_map table_of (first_deal c.args.sections.now board)) 36 c.loop-number.number (omega arith)
