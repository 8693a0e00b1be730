use Rattle.std.proofs.Common.{◌≡◌, drop}
use Rattle.evening_plan.specs.Seat.{seat_row}
use Rattle.evening_plan.proofs.seat.seat_row.Given as goal

-- none of the rows so far has the pair
abbrev pub invariant-loop-row : goal.invariant-loop-row
invariant-loop-row l = seat_row l.round l.pair (drop l.row-index l.rows) ≡ seat_row l.round l.pair l.rows
