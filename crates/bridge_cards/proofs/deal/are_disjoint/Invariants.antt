use Rattle.std.proofs.Common.{◌≡◌, ℕ, cond, take}
use Rattle.bridge_cards.specs.CardSet.{IsCardSet, has_card}
use Rattle.bridge_cards.specs.Deal.{holders}
use Rattle.bridge_cards.proofs.deal.are_disjoint.Given as goal

abbrev pub invariant-loop-hand : goal.invariant-loop-hand
invariant-loop-hand l =
    ((card : ℕ) → holders (take l.hand-index l.hands) card ≡ cond (has_card l.dealt card) 1 0) × IsCardSet l.dealt
