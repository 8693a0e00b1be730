-- The cards that a hand still holds.
use Rattle.std.proofs.Common.{◌≡◌, ℕ, Bool, true, false, not, ◌&&◌, ◌||◌, ◌==◌, List, [], ◌∷◌, ◌++◌, refl, ap, ◌∙◌}
use Rattle.std.proofs.lemmas.List.Folds.{list_any-append}
use Rattle.bridge_cards.specs.declared.seat.Seat.{Seat}
use Rattle.bridge_cards.specs.CardSet.{has_card}
use Rattle.bridge_cards.specs.Deal.{hand_at}
use Rattle.bridge_play.specs.Legal.{was_played, holds}

-- held, and neither played before nor now
held_still : (dealt played now : Bool) → (dealt && not (played || (now || false))) ≡ (dealt && not played && not now)
held_still true true now = refl
held_still true false true = refl
held_still true false false = refl
held_still false played now = refl

-- after one card more a hand holds what it held but that card
pub holds-push : (hands cards : List ℕ) (seat : Seat) (card other : ℕ) → holds hands (cards ++ card ∷ []) seat other ≡ (holds hands cards seat other && not (other == card))
holds-push hands cards seat card other =
    ap (λ played. has_card (hand_at hands seat) other && not played) (list_any-append (λ c. other == c) cards (card ∷ []))
    ∙ held_still (has_card (hand_at hands seat) other) (was_played cards other) (other == card)
