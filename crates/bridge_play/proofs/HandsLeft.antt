-- Each hand has as many cards left after whole tricks, since each plays one card to a trick.
use Rattle.std.proofs.Common.{◌≡◌, ◌<◌, ◌≤◌, ◌+◌, ◌*◌, ◌/◌, ◌%◌, ℕ, zero, suc, Bool, true, false, not, ◌&&◌, ◌==◌, cond, inl, inr, List, [], ◌∷◌, ◌++◌, length, take, drop, get_or, count_by, refl, sym, ap, ◌∙◌, subst, arith, All}
use Rattle.std.proofs.Math.Path.{fun_ext}
use Rattle.std.proofs.Math.Seq.{take-suc}
use Rattle.std.proofs.lemmas.Bool.{cases_lt, eqb-true, and_parts}
use Rattle.std.proofs.lemmas.List.{take-append-drop, length-take-le}
use Rattle.std.proofs.lemmas.List.Elements.{All-get_or, All-from_get_or}
use Rattle.std.proofs.lemmas.List.Sums.{sum_by-cons}
use Rattle.std.proofs.lemmas.Option.{slice_get-get_or}
use Rattle.bridge_cards.specs.declared.seat.Seat.{Seat}
use Rattle.bridge_cards.specs.declared.seat.Seat.TheVariants.{North, East, South, West}
use Rattle.bridge_cards.specs.Seat.{seat_number, same_seat, clockwise_from}
use Rattle.bridge_cards.specs.CardSet.{has_card, deck, card_count}
use Rattle.bridge_cards.specs.Deal.{hand_at, holders, NoneTwice, IsHand, IsDeal}
use Rattle.bridge_cards.proofs.CardSetLaws.{has_card-beyond}
use Rattle.bridge_cards.proofs.CardCounts.{count_by-without}
use Rattle.bridge_cards.proofs.OneHolder.{seat_few, one_holder}
use Rattle.bridge_auction.specs.declared.contract.Contract.{Contract}
use Rattle.bridge_play.specs.Trick.{leader_of, turn_of}
use Rattle.bridge_play.specs.Legal.{was_played, holds, IsLegal}
use Rattle.bridge_play.proofs.CardsLeft.{holds-push}
use Rattle.bridge_play.proofs.NextTrick.{leader_of-front}
use Rattle.bridge_play.proofs.Seats.{same_seat-eq}

-- how many cards the seat still holds after those cards
abbrev pub left_count : List ℕ → List ℕ → Seat → ℕ
left_count hands cards seat = count_by (holds hands cards seat) deck

-- one where the seat is in turn
abbrev one_if : Bool → ℕ
one_if b = cond b 1 0

-- each seat has one of the four turns of a trick
four_turns : (leader seat : Seat) → one_if (same_seat seat (clockwise_from leader 0)) + one_if (same_seat seat (clockwise_from leader 1)) + one_if (same_seat seat (clockwise_from leader 2)) + one_if (same_seat seat (clockwise_from leader 3)) ≡ 1
four_turns North North = refl
four_turns North East = refl
four_turns North South = refl
four_turns North West = refl
four_turns East North = refl
four_turns East East = refl
four_turns East South = refl
four_turns East West = refl
four_turns South North = refl
four_turns South East = refl
four_turns South South = refl
four_turns South West = refl
four_turns West North = refl
four_turns West East = refl
four_turns West South = refl
four_turns West West = refl

-- without a card played a hand is as it was dealt
unplayed : (b : Bool) → (b && not false) ≡ b
unplayed true = refl
unplayed false = refl

hand_of : (hands : List ℕ) → IsDeal hands → (seat : Seat) → IsHand (hand_at hands seat)
hand_of hands deal seat = All-get_or IsHand hands (seat_number seat) 0 (omega (arith, seat_few seat, deal.four)) deal.each

pub dealt_count : (hands : List ℕ) → IsDeal hands → (seat : Seat) → left_count hands [] seat ≡ 13
unfolding card_count
dealt_count hands deal seat =
    ap (λ (p : ℕ → Bool). count_by p deck) (fun_ext (λ card. unplayed (has_card (hand_at hands seat) card)))
    ∙ (hand_of hands deal seat).thirteen

-- a card that a seat holds is one of the deck
held_in_deck : (hands cards : List ℕ) → IsDeal hands → (seat : Seat) (card : ℕ) → holds hands cards seat card ≡ true → card < 52
held_in_deck hands cards deal seat card held =
    elim (cases_lt card 52) [
      | inl inside ↦ inside
      | inr beyond ↦
          let out = has_card-beyond (hand_at hands seat) card (hand_of hands deal seat).set beyond in
          let has = (and_parts (has_card (hand_at hands seat) card) (not (was_played cards card)) held).0 in
          absurd cc
    ]

-- a hand without the card loses nothing
kept_by : (held same : Bool) → (same ≡ true → held ≡ false) → (held && not same) ≡ held
kept_by true true lost = sym (lost refl)
kept_by true false lost = refl
kept_by false same lost = refl

-- the card that a seat plays leaves its hand, and no other
card_left : (hands cards : List ℕ) → IsDeal hands → (turn seat : Seat) (card : ℕ) → holds hands cards turn card ≡ true → (own : Bool) → same_seat seat turn ≡ own → left_count hands cards seat ≡ left_count hands (cards ++ card ∷ []) seat + one_if own
card_left hands cards deal turn seat card held true own =
    let mine = subst (λ (s : Seat). holds hands cards s card ≡ true) (sym (same_seat-eq seat turn own)) held in
    count_by-without (holds hands cards seat) (holds hands (cards ++ card ∷ []) seat) card (held_in_deck hands cards deal turn card held) mine
    (holds-push hands cards seat card)
card_left hands cards deal turn seat card held false own =
    let has = (and_parts (has_card (hand_at hands turn) card) (not (was_played cards card)) held).0 in
    let without : has_card (hand_at hands seat) card ≡ false = one_holder hands deal.four deal.once turn card has seat own in
    let none : (other : ℕ) → (other == card) ≡ true → holds hands cards seat other ≡ false =
    λ other same. rw (eqb-true other card same, without) refl in
    let stays : holds hands (cards ++ card ∷ []) seat ≡ holds hands cards seat =
    fun_ext (λ other. holds-push hands cards seat card other ∙ kept_by (holds hands cards seat other) (other == card) (none other)) in
    let same = ap (λ (p : ℕ → Bool). count_by p deck) stays in
    omega (arith, same)

-- the seat of a number
seat_numbered : (n : ℕ) → n < 4 → (seat : Seat) × (seat_number seat ≡ n)
seat_numbered zero few = (North, refl)
seat_numbered (suc zero) few = (East, refl)
seat_numbered (suc (suc zero)) few = (South, refl)
seat_numbered (suc (suc (suc zero))) few = (West, refl)
seat_numbered (suc (suc (suc (suc n)))) few = absurd (omega arith)

-- sets that have less have a card no more often
one_if_le : (a b : Bool) → (a ≡ true → b ≡ true) → one_if a ≤ one_if b
one_if_le true b more = omega (arith, ap one_if (more refl))
one_if_le false b more = omega arith

holders_le : (less more : List ℕ) (card : ℕ) → length less ≡ length more → ((index : ℕ) → index < length more → has_card (get_or less index 0) card ≡ true → has_card (get_or more index 0) card ≡ true) → holders less card ≤ holders more card
holders_le [] more card long has = omega arith
holders_le (x ∷ xs) [] card long has = absurd (omega arith)
holders_le (x ∷ xs) (y ∷ ys) card long has =
    omega (
      arith,
      sum_by-cons (λ hand. one_if (has_card hand card)) x xs,
      sum_by-cons (λ hand. one_if (has_card hand card)) y ys,
      one_if_le (has_card x card) (has_card y card) (has 0 (omega arith)),
      holders_le xs ys card (omega arith) (λ index inside. has (suc index) (omega arith)),
    )

module _ (hands : List ℕ) (deal : IsDeal hands) (contract : Contract) (cards : List ℕ) (legal : IsLegal hands contract cards) where
  -- the hand in turn after the first cards
  turn_is : (n : ℕ) → n ≤ length cards → turn_of contract (take n cards) ≡ clockwise_from (leader_of contract cards (n / 4)) (n % 4)
  turn_is n within =
      let count : length (take n cards) ≡ n = length-take-le n cards within in
      let leads = leader_of-front contract (take n cards) (drop n cards) (n / 4) (omega (arith, count)) in
      ap (λ m. clockwise_from (leader_of contract (take n cards) (m / 4)) (m % 4)) count
      ∙ ap (λ (s : Seat). clockwise_from s (n % 4)) (sym leads ∙ ap (λ list. leader_of contract list (n / 4)) (take-append-drop n cards))

  -- one card more
  one_played : (n : ℕ) (seat : Seat) → n < length cards → left_count hands (take n cards) seat ≡ left_count hands (take (suc n) cards) seat + one_if (same_seat seat (clockwise_from (leader_of contract cards (n / 4)) (n % 4)))
  one_played n seat within =
      let card : ℕ = get_or cards n 0 in
      let may = legal n card (slice_get-get_or cards n 0 within) in
      card_left hands (take n cards) deal (turn_of contract (take n cards)) seat card may.held (same_seat seat (turn_of contract (take n cards))) refl
      ∙ ap (λ list. left_count hands list seat + one_if (same_seat seat (turn_of contract (take n cards)))) (sym (take-suc cards n 0 within))
      ∙ ap (λ (s : Seat). left_count hands (take (suc n) cards) seat + one_if (same_seat seat s)) (turn_is n (omega arith))

  -- the turn at an index of a trick
  at_place : (tricks index n : ℕ) (seat : Seat) → index < 4 → n ≡ 4 * tricks + index → one_if (same_seat seat (clockwise_from (leader_of contract cards (n / 4)) (n % 4))) ≡ one_if (same_seat seat (clockwise_from (leader_of contract cards tricks) index))
  at_place tricks index n seat few is =
      let trick : n / 4 ≡ tricks = omega arith in
      let rest : n % 4 ≡ index = omega arith in
      ap (λ j. one_if (same_seat seat (clockwise_from (leader_of contract cards j) (n % 4)))) trick
      ∙ ap (λ p. one_if (same_seat seat (clockwise_from (leader_of contract cards tricks) p))) rest

  -- one trick more
  one_trick : (tricks : ℕ) (seat : Seat) → 4 * tricks + 4 ≤ length cards → left_count hands (take (4 * tricks) cards) seat ≡ left_count hands (take (4 * tricks + 4) cards) seat + 1
  one_trick tricks seat within =
      let n : ℕ = 4 * tricks in
      let start : n ≡ 4 * tricks + 0 = omega arith in
      let end : suc (suc (suc (suc n))) ≡ 4 * tricks + 4 = omega arith in
      omega (
        arith,
        one_played n seat (omega arith),
        one_played (suc n) seat (omega arith),
        one_played (suc (suc n)) seat (omega arith),
        one_played (suc (suc (suc n))) seat (omega arith),
        at_place tricks 0 n seat (omega arith) start,
        at_place tricks 1 (suc n) seat (omega arith) (omega arith),
        at_place tricks 2 (suc (suc n)) seat (omega arith) (omega arith),
        at_place tricks 3 (suc (suc (suc n))) seat (omega arith) (omega arith),
        four_turns (leader_of contract cards tricks) seat,
        ap (λ m. left_count hands (take m cards) seat) end,
      )

  -- after so many tricks a hand has as many cards less
  pub after_tricks : (tricks : ℕ) (seat : Seat) → 4 * tricks ≤ length cards → left_count hands (take (4 * tricks) cards) seat + tricks ≡ 13
  after_tricks zero seat within = omega (arith, dealt_count hands deal seat)
  after_tricks (suc tricks) seat within =
      let next : 4 * suc tricks ≡ 4 * tricks + 4 = omega arith in
      omega (arith, after_tricks tricks seat (omega arith), one_trick tricks seat (omega arith), ap (λ m. left_count hands (take m cards) seat) next)

  -- sets that have what is left of the hands after so many tricks
  module _ (left : List ℕ) (four : length left ≡ 4) (tricks : ℕ) (within : 4 * tricks ≤ length cards) (same : (seat : Seat) (card : ℕ) → has_card (hand_at left seat) card ≡ holds hands (take (4 * tricks) cards) seat card) where
    count_of : (seat : Seat) → card_count (hand_at left seat) + tricks ≡ 13
    unfolding card_count
    count_of seat = ap (λ (p : ℕ → Bool). count_by p deck + tricks) (fun_ext (same seat)) ∙ after_tricks tricks seat within

    pub equal_hands : All (λ hand. card_count hand + tricks ≡ 13) left
    equal_hands =
        All-from_get_or (λ hand. card_count hand + tricks ≡ 13) left 0
        (λ index inside. let seat = seat_numbered index (omega arith) in subst (λ n. card_count (get_or left n 0) + tricks ≡ 13) seat.1 (count_of seat.0))

    pub none_twice : NoneTwice left
    none_twice card =
        let fewer = holders_le left hands card (omega (arith, deal.four))
        (λ index inside.
        let seat = seat_numbered index (omega arith) in
        subst (λ n. has_card (get_or left n 0) card ≡ true → has_card (get_or hands n 0) card ≡ true) seat.1
        (λ has. (and_parts (has_card (hand_at hands seat.0) card) (not (was_played (take (4 * tricks) cards) card)) (sym (same seat.0 card) ∙ has)).0)) in
        omega (arith, fewer, deal.once card)
