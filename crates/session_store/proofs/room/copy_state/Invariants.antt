use Rattle.std.proofs.Common.{◌≡◌, ◌≤◌, length, map, take, vec_capacity}
use Rattle.session_store.proofs.room.copy_state.Given as goal

abbrev pub invariant-loop-i : goal.invariant-loop-i
invariant-loop-i g l = record {
  room : l.count ≤ vec_capacity l.parts;
  long : length l.parts.items ≡ l.i;
  written : map (λ part. part.items) l.parts.items ≡ take l.i (g.K.Kept.kept.parts l.state);
}
