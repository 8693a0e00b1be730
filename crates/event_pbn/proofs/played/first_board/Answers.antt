use Rattle.std.proofs.Common.{◌≡◌, ℕ, true, false, Option, sym, ap, ◌∙◌, arith}
use Rattle.std.specs.Prelude.{unwrap_or}
use Rattle.event_pbn.specs.Played.{is_played}
use Rattle.event_pbn.proofs.Found.{number_found, number_missed}
use Rattle.event_pbn.proofs.played.first_board.Goals as goal

pub returns-then-is_played : goal.returns-then-is_played
returns-then-is_played c =
    let board = rw c.unwrap-board.ensures at c.new.ensures.value in
    let played : is_played c.args.results.now c.loop-number.number ≡ true = rw board at (sym c.is_played.ensures ∙ c.if-is_played.true) in
    sym (ap (λ (found : Option ℕ). unwrap_or found 37)
    (number_found (is_played c.args.results.now) 36 c.loop-number.number c.loop-number.invariant.least (omega arith) c.loop-number.invariant.none played))

pub loop-number-preserved : goal.loop-number-preserved
loop-number-preserved c =
    let board = rw c.unwrap-board.ensures at c.new.ensures.value in
    let missed : is_played c.args.results.now c.loop-number.number ≡ false = rw board at (sym c.is_played.ensures ∙ c.if-is_played.false) in
    record {
      none = number_missed (is_played c.args.results.now) 36 c.loop-number.number c.loop-number.invariant.least (omega arith) c.loop-number.invariant.none missed;
      least = omega arith;
    }
