use Rattle.std.proofs.Common.{◌≡◌, ◌<◌, ℕ, [], get_or}
use Rattle.session_store.proofs.looking.is_same_state.Given as goal

abbrev pub invariant-loop-i : goal.invariant-loop-i
invariant-loop-i g l = let parts = g.K.Kept.kept.parts in
    (k : ℕ) → k < l.i → get_or (parts l.left) k [] ≡ get_or (parts l.right) k []
