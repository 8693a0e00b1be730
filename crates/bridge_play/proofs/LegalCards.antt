-- A legal list has each card once, and so at most 52.
use Rattle.std.proofs.Common.{◌≡◌, ◌<◌, ◌≤◌, ℕ, zero, suc, Bool, true, false, not, ◌||◌, ◌==◌, List, [], ◌∷◌, ◌++◌, ◌+◌, ◌∙◌, length, take, get_or, add-one, refl, sym, ap, subst, arith, inl, inr}
use Rattle.std.specs.Prelude.{◌⊎◌}
use Rattle.std.specs.List.{IsDistinct, AllByRecursion, list_any}
use Rattle.std.proofs.Math.Seq.{take-suc}
use Rattle.std.proofs.lemmas.Bool.{and_parts, eqb-true, cases_lt}
use Rattle.std.proofs.lemmas.Bool.Decides.{nat_tests}
use Rattle.std.proofs.lemmas.Option.{slice_get-get_or, slice_get_read}
use Rattle.std.proofs.lemmas.List.{take_all}
use Rattle.std.proofs.lemmas.List.Folds.{Any-from_list_any}
use Rattle.std.proofs.lemmas.List.Elements.{All-get_or}
use Rattle.std.proofs.lemmas.Map.Steps.{length-le_from_distinct_below}
use Rattle.bridge_auction.specs.declared.contract.Contract.{Contract}
use Rattle.bridge_play.specs.Trick.{turn_of}
use Rattle.bridge_cards.specs.CardSet.{has_card}
use Rattle.bridge_cards.specs.declared.seat.Seat.{Seat}
use Rattle.bridge_cards.specs.declared.seat.Seat.TheVariants.{North, East, South, West}
use Rattle.bridge_cards.specs.Seat.{seat_number}
use Rattle.bridge_cards.specs.Deal.{hand_at, IsHand, IsDeal}
use Rattle.bridge_cards.proofs.CardSetLaws.{has_card-beyond}
use Rattle.bridge_play.specs.Legal.{holds, follows, was_played, may_play, MayPlay, IsLegal}

-- the card at an index, behind those before it
pub one_more : (cards : List ℕ) (index card : ℕ) → index < length cards → card ≡ get_or cards index card → take (index + 1) cards ≡ take index cards ++ card ∷ []
one_more cards index card within is =
    ap (λ n. take n cards) (add-one index) ∙ take-suc cards index card within ∙ ap (λ x. take index cards ++ x ∷ []) (sym is)

-- one number more that differs from each
apart : (x y : ℕ) → (x == y) ≡ false → (y == x) ≡ false
apart x y differ = grind (arith, nat_tests)

first_apart : (a b : Bool) → (a || b) ≡ false → (a ≡ false) × (b ≡ false)
first_apart true b none = cc
first_apart false b none = (refl, none)

all_apart : (y x : ℕ) (ys : List ℕ) → AllByRecursion (λ z. (y == z) ≡ false) ys → (y == x) ≡ false → AllByRecursion (λ z. (y == z) ≡ false) (ys ++ x ∷ [])
all_apart y x [] all differ = (differ, tt)
all_apart y x (z ∷ zs) all differ = (all.0, all_apart y x zs all.1 differ)

distinct-push : (xs : List ℕ) (x : ℕ) → IsDistinct (λ a b. a == b) xs → list_any (λ other. x == other) xs ≡ false → IsDistinct (λ a b. a == b) (xs ++ x ∷ [])
unfolding IsDistinct
distinct-push [] x distinct new = (tt, tt)
distinct-push (y ∷ ys) x distinct new =
    let both = first_apart (x == y) (list_any (λ other. x == other) ys) new in
    (all_apart y x ys distinct.0 (apart x y both.0), distinct-push ys x distinct.1 both.1)

not_true : (b : Bool) → not b ≡ true → b ≡ false
not_true true is = cc
not_true false is = refl

distinct_front : (hands : List ℕ) (contract : Contract) (cards : List ℕ) → IsLegal hands contract cards → (n : ℕ) → n ≤ length cards → IsDistinct (λ a b. a == b) (take n cards)
unfolding IsDistinct
distinct_front hands contract cards legal zero few = tt
distinct_front hands contract cards legal (suc n) few =
    let within : n < length cards = omega (arith, few) in
    let card : ℕ = get_or cards n 0 in
    let may = legal n card (slice_get-get_or cards n 0 within) in
    let hand = turn_of contract (take n cards) in
    let new = not_true (was_played (take n cards) card)
    (and_parts (has_card (hand_at hands hand) card) (not (was_played (take n cards) card)) may.held).1 in
    subst (IsDistinct (λ a b. a == b)) (sym (take-suc cards n 0 within))
    (distinct-push (take n cards) card (distinct_front hands contract cards legal n (omega (arith, few))) new)

seat_number-lt : (seat : Seat) → seat_number seat < 4
seat_number-lt North = omega arith
seat_number-lt East = omega arith
seat_number-lt South = omega arith
seat_number-lt West = omega arith

-- a card that a hand of a deal has is one of the deck
in_deck : (hands : List ℕ) (seat : Seat) (card : ℕ) → IsDeal hands → has_card (hand_at hands seat) card ≡ true → card < 52
in_deck hands seat card deal has = by_size (cases_lt card 52)
  where
    hand : IsHand (hand_at hands seat)
    hand = All-get_or IsHand hands (seat_number seat) 0 (omega (arith, seat_number-lt seat, deal.four)) deal.each

    by_size : (card < 52) ⊎ (52 ≤ card) → card < 52
    by_size (inl inside) = inside
    by_size (inr beyond) = let not = has_card-beyond (hand_at hands seat) card hand.set beyond in cc

card_within : (hands : List ℕ) (contract : Contract) (cards : List ℕ) → IsDeal hands → IsLegal hands contract cards → (q : ℕ) → list_any (λ card. q == card) cards ≡ true → q < 52
card_within hands contract cards deal legal q found =
    let some = Any-from_list_any (λ card. q == card) cards found in
    let card : ℕ = some.1 in
    let same : q ≡ card = eqb-true q card some.4 in
    let may = legal some.0 card (slice_get_read cards (length cards) some.0 card refl some.2 (sym some.3)) in
    let earlier = take some.0 cards in
    let hand = turn_of contract earlier in
    let held = (and_parts (has_card (hand_at hands hand) card) (not (was_played earlier card)) may.held).0 in
    let inside = in_deck hands hand card deal held in
    omega (arith, same, inside)

pub legal_cards_few : (hands : List ℕ) (contract : Contract) (cards : List ℕ) → IsDeal hands → IsLegal hands contract cards → length cards ≤ 52
legal_cards_few hands contract cards deal legal =
    let distinct = distinct_front hands contract cards legal (length cards) (omega arith) in
    length-le_from_distinct_below cards 52
    (subst (IsDistinct (λ a b. a == b)) (take_all (length cards) cards (omega arith)) distinct) (card_within hands contract cards deal legal)

-- a test of both is that of each
pub may_play_is : (hands : List ℕ) (contract : Contract) (cards : List ℕ) (card : ℕ) → may_play hands contract cards card ≡ true → MayPlay hands contract cards card
may_play_is hands contract cards card test =
    let both = and_parts (holds hands cards (turn_of contract cards) card) (follows hands cards (turn_of contract cards) card) test in
    record { held = both.0; following = both.1 }

pub is_may_play : (hands : List ℕ) (contract : Contract) (cards : List ℕ) (card : ℕ) → MayPlay hands contract cards card → may_play hands contract cards card ≡ true
is_may_play hands contract cards card may = rw (may.held, may.following) refl
