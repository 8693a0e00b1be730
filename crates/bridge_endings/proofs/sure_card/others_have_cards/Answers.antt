use Rattle.std.proofs.Common.{◌≡◌, ℕ, ◌+◌, ◌<◌, ◌≤◌, ◌⊎◌, inl, inr, IsTrue, sym, ◌∙◌, arith}
use Rattle.std.proofs.lemmas.Bool.{cases_lt}
use Rattle.bridge_cards.specs.Seat.{clockwise_from}
use Rattle.bridge_endings.specs.Left.{left_to}
use Rattle.bridge_endings.proofs.sure_card.others_have_cards.Goals as goal

pub loop-index-preserved : goal.loop-index-preserved
loop-index-preserved c = λ index some below. at index some below (cases_lt index c.loop-index.index)
  where
    at : (index : ℕ) → 0 < index → index < c.loop-index.index + 1 → (index < c.loop-index.index) ⊎ (c.loop-index.index ≤ index) → (card : ℕ) × IsTrue (left_to c.args.hands.now c.args.left (clockwise_from c.args.leader index) card)
    at index some below (inl before) = c.loop-index.invariant index some before
    at index some below (inr now) =
        let here : index ≡ c.loop-index.index = omega arith in
        let there = c.if-is_empty.ensures.cards in
        rw (here, ← c.clockwise.ensures) (there.0, sym (c.held.ensures there.0) ∙ there.1)
