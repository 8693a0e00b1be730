use Rattle.std.proofs.Common.{ℕ, ◌≡◌, ◌<◌, slice_index_or}
use Rattle.bridge_movement.specs.declared.row.Row.{Row}
use Rattle.evening_draft.proofs.form.are_same.Given as goal

abbrev pub invariant-loop-index : goal.invariant-loop-index
invariant-loop-index l =
    (k : ℕ) (d : Row) → k < l.index → slice_index_or l.ours k d ≡ slice_index_or l.theirs k d
