-- What one card more does to the leader and to the tricks won.
use Rattle.std.proofs.Common.{◌≡◌, ◌<◌, ◌≤◌, ◌+◌, ◌-◌, ◌*◌, ◌/◌, ◌%◌, ℕ, zero, suc, if◌then◌else◌, List, [], ◌∷◌, ◌++◌, length, take, drop, refl, sym, ap, ◌∙◌, arith, length-append, length-drop}
use Rattle.std.proofs.lemmas.List.{take-append-le, drop-append-le, take_all}
use Rattle.bridge_cards.specs.declared.seat.Seat.{Seat}
use Rattle.bridge_cards.specs.declared.seat.Side.{Side}
use Rattle.bridge_cards.specs.Trick.{next_leader}
use Rattle.bridge_auction.specs.declared.contract.Contract.{Contract}
use Rattle.bridge_cards.specs.Seat.{plays_for}
use Rattle.bridge_play.specs.Trick.{trump_of, trick_at, leader_of, tricks_won}

-- the tricks of the front of a list are those of the list
trick_at-front : (cards rest : List ℕ) (trick : ℕ) → 4 * trick + 4 ≤ length cards → trick_at (cards ++ rest) trick ≡ trick_at cards trick
trick_at-front cards rest trick within =
    ap (take 4) (drop-append-le (4 * trick) cards rest (omega arith))
    ∙ take-append-le 4 (drop (4 * trick) cards) rest (omega (arith, length-drop (4 * trick) cards))

pub leader_of-front : (contract : Contract) (cards rest : List ℕ) (tricks : ℕ) → 4 * tricks ≤ length cards → leader_of contract (cards ++ rest) tricks ≡ leader_of contract cards tricks
leader_of-front contract cards rest zero within = refl
leader_of-front contract cards rest (suc tricks) within =
    let next : Seat → List ℕ → Seat = next_leader (trump_of contract) in
    ap (λ seat. next seat (trick_at (cards ++ rest) tricks)) (leader_of-front contract cards rest tricks (omega arith))
    ∙ ap (next (leader_of contract cards tricks)) (trick_at-front cards rest tricks (omega arith))

pub tricks_won-front : (contract : Contract) (cards rest : List ℕ) (side : Side) (tricks : ℕ) → 4 * tricks ≤ length cards → tricks_won contract (cards ++ rest) side tricks ≡ tricks_won contract cards side tricks
tricks_won-front contract cards rest side zero within = refl
tricks_won-front contract cards rest side (suc tricks) within =
    let more : ℕ → Seat → ℕ = λ won leader. won + (if plays_for side leader then 1 else 0) in
    ap (λ won. more won (leader_of contract (cards ++ rest) (suc tricks))) (tricks_won-front contract cards rest side tricks (omega arith))
    ∙ ap (more (tricks_won contract cards side tricks)) (leader_of-front contract cards rest (suc tricks) within)

-- a card that makes one whole
one_trick_more : (n : ℕ) → 0 < n → n % 4 ≡ 0 → n / 4 ≡ suc ((n - 1) / 4)
one_trick_more n some whole = omega arith

pub winner_leads : (contract : Contract) (cards : List ℕ) → 0 < length cards → length cards % 4 ≡ 0 → leader_of contract cards (length cards / 4) ≡ next_leader (trump_of contract) (leader_of contract cards ((length cards - 1) / 4)) (drop (length cards - 4) cards)
winner_leads contract cards some whole =
    let before : ℕ = (length cards - 1) / 4 in
    let start : 4 * before ≡ length cards - 4 = omega arith in
    let last : trick_at cards before ≡ drop (length cards - 4) cards =
    ap (λ n. take 4 (drop n cards)) start ∙ take_all 4 (drop (length cards - 4) cards) (omega (arith, length-drop (length cards - 4) cards)) in
    ap (leader_of contract cards) (one_trick_more (length cards) some whole)
    ∙ ap (next_leader (trump_of contract) (leader_of contract cards before)) last

-- the tricks that were whole before the last card
tricks_before : (cards : List ℕ) (card : ℕ) → (length (cards ++ card ∷ []) - 1) / 4 ≡ length cards / 4
tricks_before cards card = omega (arith, length-append cards (card ∷ []))

pub leader_before : (contract : Contract) (cards longer : List ℕ) (card : ℕ) → longer ≡ cards ++ card ∷ [] → leader_of contract cards (length cards / 4) ≡ leader_of contract longer ((length longer - 1) / 4)
leader_before contract cards longer card is =
    sym (leader_of-front contract cards (card ∷ []) (length cards / 4) (omega arith))
    ∙ ap (leader_of contract (cards ++ card ∷ [])) (sym (tricks_before cards card))
    ∙ ap (λ list. leader_of contract list ((length list - 1) / 4)) (sym is)

pub won_before : (contract : Contract) (cards longer : List ℕ) (side : Side) (card : ℕ) → longer ≡ cards ++ card ∷ [] → tricks_won contract cards side (length cards / 4) ≡ tricks_won contract longer side ((length longer - 1) / 4)
won_before contract cards longer side card is =
    sym (tricks_won-front contract cards (card ∷ []) side (length cards / 4) (omega arith))
    ∙ ap (tricks_won contract (cards ++ card ∷ []) side) (sym (tricks_before cards card))
    ∙ ap (λ list. tricks_won contract list side ((length list - 1) / 4)) (sym is)
