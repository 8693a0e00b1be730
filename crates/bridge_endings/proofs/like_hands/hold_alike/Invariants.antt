use Rattle.std.proofs.Common.{ℕ, ◌<◌, slice_index}
use Rattle.bridge_endings.specs.Left.{HoldAlike}
use Rattle.bridge_endings.proofs.like_hands.hold_alike.Given as goal

abbrev pub invariant-loop-seat : goal.invariant-loop-seat
invariant-loop-seat l = (k : ℕ) → k < l.seat → HoldAlike l.counts (slice_index l.hands k) (slice_index l.others k)
