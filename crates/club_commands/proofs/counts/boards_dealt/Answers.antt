use Rattle.std.proofs.Common.{◌≡◌, ◌+◌, ◌-◌, ◌∙◌, take, sym, ap, arith}
use Rattle.std.specs.Prelude.{sum_by}
use Rattle.std.specs.List.{range_with_len}
use Rattle.club_commands.specs.Checked.{dealt_boards_at}
use Rattle.club_commands.proofs.Counted.{number_more}
use Rattle.club_commands.proofs.counts.boards_dealt.Goals as goal

pub loop-number-preserved : goal.loop-number-preserved
loop-number-preserved c =
    let n = c.loop-number.number in
    let board = rw c.unwrap-board.ensures at c.new.ensures.value in
    record {
      counted = ap (λ more. c.loop-number.count + more) (rw board at c.dealt_boards_at-count.ensures.count)
          ∙ ap (λ so_far. so_far + dealt_boards_at c.args.session.now n) c.loop-number.invariant.counted
          ∙ sym (number_more (dealt_boards_at c.args.session.now) n c.loop-number.invariant.least (omega arith));
      least = omega arith;
      few = omega (arith, c.loop-number.invariant.few, c.dealt_boards_at-count.ensures.most);
    }

pub returns : goal.returns
returns c =
    let last : c.loop-number.number - 1 ≡ 36 = omega arith in
    c.loop-number.invariant.counted
    ∙ ap (λ i. sum_by (dealt_boards_at c.args.session.now) (take i (range_with_len 1 36))) last
