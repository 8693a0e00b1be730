use Rattle.std.proofs.Common.{◌≡◌, ◌≢◌, ℕ, ◌<◌, false, slice_index}
use Rattle.bridge_cards.specs.Card.{same_suit}
use Rattle.bridge_endings.proofs.trick.Trick.rank_that_counts.Given as goal

abbrev pub invariant-loop-index : goal.invariant-loop-index
invariant-loop-index l = (k : ℕ) → k < l.index → k ≢ l.winner.index → same_suit (slice_index l.self.cards k) l.winner.card ≡ false
