-- The text of four hands: how it begins, and that it is read in one way.
use Rattle.std.proofs.Common.{◌≡◌, ℕ, zero, suc, ◌+◌, ◌-◌, ◌/◌, ◌%◌, ◌<◌, ◌≤◌, Bool, true, false, cond, List, [], ◌∷◌, length, get_or, take, drop, refl, sym, ap, ◌∙◌, subst, arith, All}
use Rattle.std.proofs.lemmas.List.{take_all, ext_get_or}
use Rattle.bridge_cards.specs.declared.seat.Seat.{Seat}
use Rattle.bridge_cards.specs.declared.seat.Seat.TheVariants.{North, East, South, West}
use Rattle.bridge_cards.specs.declared.suit.Suit.{Suit}
use Rattle.bridge_cards.specs.declared.suit.Suit.TheVariants.{Clubs, Diamonds, Hearts, Spades}
use Rattle.bridge_cards.specs.Suit.{suit_number}
use Rattle.bridge_cards.specs.Seat.{seat_letter, seat_number, clockwise_from}
use Rattle.bridge_cards.specs.Rank.{IsRank}
use Rattle.bridge_cards.specs.Card.{card_of}
use Rattle.bridge_cards.specs.CardSet.{IsCardSet, has_card}
use Rattle.bridge_cards.proofs.CardSetLaws.{same_cards_of_deck}
use Rattle.bridge_cards.specs.Deal.{hand_at}
use Rattle.bridge_cards.specs.DealText.{space, dot, colon, SpellsSuit, SpellsHand, SpellsFour, SpellsDeal}
use Rattle.bridge_cards.proofs.Joining.{joined_once}
use Rattle.bridge_cards.proofs.HandText.{SpellsSuit-lacks, SpellsHand-lacks, SpellsMinors, SpellsRest, SpellsTwo, SpellsThree}

-- a text that begins with a letter and a colon
pub begins_with : (text : List ℕ) (letter : ℕ) → 2 ≤ length text → letter ≡ get_or text 0 0 → get_or text 1 0 ≡ colon → text ≡ letter ∷ colon ∷ take (length text - 2) (drop 2 text)
begins_with [] letter long first second = absurd (omega arith)
begins_with (x ∷ []) letter long first second = absurd (omega arith)
begins_with (x ∷ y ∷ rest) letter long first second =
    let whole : take (length rest) rest ≡ rest = take_all (length rest) rest (omega arith) in
    let less : suc (suc (length rest)) - 2 ≡ length rest = omega arith in
    let same : take (suc (suc (length rest)) - 2) rest ≡ rest = ap (λ n. take n rest) less ∙ whole in
    ap (λ l. l ∷ y ∷ rest) (sym first) ∙ ap (λ l. letter ∷ l ∷ rest) second ∙ ap (λ r. letter ∷ colon ∷ r) (sym same)

-- a seat's letter is its own
pub same_seat : (a b : Seat) → seat_letter a ≡ seat_letter b → a ≡ b
same_seat North North e = refl
same_seat North East e = absurd (omega arith)
same_seat North South e = absurd (omega arith)
same_seat North West e = absurd (omega arith)
same_seat East North e = absurd (omega arith)
same_seat East East e = refl
same_seat East South e = absurd (omega arith)
same_seat East West e = absurd (omega arith)
same_seat South North e = absurd (omega arith)
same_seat South East e = absurd (omega arith)
same_seat South South e = refl
same_seat South West e = absurd (omega arith)
same_seat West North e = absurd (omega arith)
same_seat West East e = absurd (omega arith)
same_seat West South e = absurd (omega arith)
same_seat West West e = refl

cond_once : (a b : Bool) → ◌≡◌ {A = ℕ} (cond a 1 0) (cond b 1 0) → a ≡ b
cond_once true true e = refl
cond_once true false e = absurd (omega arith)
cond_once false true e = absurd (omega arith)
cond_once false false e = refl

-- two hands with one text of a suit have the same cards of it
suit_once : (a b : ℕ) (suit : Suit) (letters : List ℕ) → SpellsSuit a suit letters → SpellsSuit b suit letters → (rank : ℕ) → IsRank rank → has_card a (card_of suit rank) ≡ has_card b (card_of suit rank)
suit_once a b suit letters p q rank r =
    cond_once (has_card a (card_of suit rank)) (has_card b (card_of suit rank)) (sym (p.once rank r) ∙ q.once rank r)

-- a card below 52 is that of its suit and rank, here of a suit whose number is given
card_in : (suit : Suit) (card : ℕ) → card / 13 ≡ suit_number suit → card ≡ card_of suit (card % 13 + 2)
card_in suit card e = omega arith

agree_in : (a b : ℕ) (suit : Suit) (letters : List ℕ) → SpellsSuit a suit letters → SpellsSuit b suit letters → (card : ℕ) → card / 13 ≡ suit_number suit → has_card a card ≡ has_card b card
agree_in a b suit letters p q card e =
    let same = card_in suit card e in
    ap (has_card a) same ∙ suit_once a b suit letters p q (card % 13 + 2) (omega arith, omega arith) ∙ sym (ap (has_card b) same)

-- the four numbers below 4
data Quarter (n : ℕ) : Type 0 where
  first_of : n ≡ 0 → Quarter n
  second_of : n ≡ 1 → Quarter n
  third_of : n ≡ 2 → Quarter n
  fourth_of : n ≡ 3 → Quarter n

quarter : (n : ℕ) → n < 4 → Quarter n
quarter zero h = first_of refl
quarter (suc zero) h = second_of refl
quarter (suc (suc zero)) h = third_of refl
quarter (suc (suc (suc zero))) h = fourth_of refl
quarter (suc (suc (suc (suc n)))) h = absurd (omega arith)

-- two hands with one text are one
pub hand_once : (a b : ℕ) (text : List ℕ) → IsCardSet a → IsCardSet b → SpellsHand a text → SpellsHand b text → a ≡ b
hand_once a b text set_a set_b p q =
    let lacks = λ (hand : ℕ) (suit : Suit). SpellsSuit-lacks 46 (omega arith) hand suit in
    let s = joined_once dot (SpellsSuit a Spades) (SpellsRest a) (SpellsSuit b Spades) (SpellsRest b) text (lacks a Spades) (lacks b Spades) p q in
    let h = joined_once dot (SpellsSuit a Hearts) (SpellsMinors a) (SpellsSuit b Hearts) (SpellsMinors b) s.after (lacks a Hearts) (lacks b Hearts) s.rest s.rest' in
    let d = joined_once dot (SpellsSuit a Diamonds) (SpellsSuit a Clubs) (SpellsSuit b Diamonds) (SpellsSuit b Clubs) h.after (lacks a Diamonds) (lacks b Diamonds) h.rest h.rest' in
    same_cards_of_deck a b set_a set_b
    (λ card inside.
    elim (quarter (card / 13) (omega arith)) [
      | first_of e ↦ agree_in a b Clubs d.after d.rest d.rest' card e
      | second_of e ↦ agree_in a b Diamonds d.before d.first d.first' card e
      | third_of e ↦ agree_in a b Hearts h.before h.first h.first' card e
      | fourth_of e ↦ agree_in a b Spades s.before s.first s.first' card e
    ])

-- two lists of four hands with the same hand at each seat are one
four_same : (a b : List ℕ) → length a ≡ 4 → length b ≡ 4 → ((seat : Seat) → hand_at a seat ≡ hand_at b seat) → a ≡ b
four_same a b long_a long_b same =
    ext_get_or 0 a b (long_a ∙ sym long_b) (λ i inside. elim (quarter i (omega arith)) [
      | first_of e ↦ at i North e
      | second_of e ↦ at i East e
      | third_of e ↦ at i South e
      | fourth_of e ↦ at i West e
    ])
  where
    at : (i : ℕ) (seat : Seat) → i ≡ seat_number seat → get_or a i 0 ≡ get_or b i 0
    at i seat e = ap (λ n. get_or a n 0) e ∙ same seat ∙ sym (ap (λ n. get_or b n 0) e)

-- the seats clockwise from one are all the seats
all_round : (first : Seat) (P : Seat → Type 0) → P first → P (clockwise_from first 1) → P (clockwise_from first 2) → P (clockwise_from first 3) → (seat : Seat) → P seat
all_round North P a b c d North = a
all_round North P a b c d East = b
all_round North P a b c d South = c
all_round North P a b c d West = d
all_round East P a b c d North = d
all_round East P a b c d East = a
all_round East P a b c d South = b
all_round East P a b c d West = c
all_round South P a b c d North = c
all_round South P a b c d East = d
all_round South P a b c d South = a
all_round South P a b c d West = b
all_round West P a b c d North = b
all_round West P a b c d East = c
all_round West P a b c d South = d
all_round West P a b c d West = a

seat_inside : (seat : Seat) → seat_number seat < 4
seat_inside North = omega arith
seat_inside East = omega arith
seat_inside South = omega arith
seat_inside West = omega arith

hand_set : (hands : List ℕ) (seat : Seat) → length hands ≡ 4 → All IsCardSet hands → IsCardSet (hand_at hands seat)
hand_set hands seat four sets = sets (seat_number seat) 0 (omega (arith, seat_inside seat))

-- a text is read in one way
pub deal_once : (a b text : List ℕ) → SpellsDeal a text → SpellsDeal b text → a ≡ b
deal_once a b text p q =
    let begun : seat_letter p.first ∷ colon ∷ p.rest ≡ seat_letter q.first ∷ colon ∷ q.rest = sym p.begins ∙ q.begins in
    let first = same_seat p.first q.first (cc) in
    let rest : p.rest ≡ q.rest = cc in
    let A = λ (n : ℕ). hand_at a (clockwise_from p.first n) in
    let B = λ (n : ℕ). hand_at b (clockwise_from p.first n) in
    let other = subst (λ r. SpellsFour (hand_at b p.first) (B 1) (B 2) (B 3) r) (sym rest)
    (subst (λ s. SpellsFour (hand_at b s) (hand_at b (clockwise_from s 1)) (hand_at b (clockwise_from s 2)) (hand_at b (clockwise_from s 3)) q.rest) (sym first) q.clockwise) in
    let one = joined_once space (SpellsHand (hand_at a p.first)) (SpellsThree (A 1) (A 2) (A 3)) (SpellsHand (hand_at b p.first)) (SpellsThree (B 1) (B 2) (B 3)) p.rest (SpellsHand-lacks (hand_at a p.first)) (SpellsHand-lacks (hand_at b p.first)) p.clockwise other in
    let two = joined_once space (SpellsHand (A 1)) (SpellsTwo (A 2) (A 3)) (SpellsHand (B 1)) (SpellsTwo (B 2) (B 3)) one.after (SpellsHand-lacks (A 1)) (SpellsHand-lacks (B 1)) one.rest one.rest' in
    let three = joined_once space (SpellsHand (A 2)) (SpellsHand (A 3)) (SpellsHand (B 2)) (SpellsHand (B 3)) two.after (SpellsHand-lacks (A 2)) (SpellsHand-lacks (B 2)) two.rest two.rest' in
    let once = λ (seat : Seat) (part : List ℕ) (x : SpellsHand (hand_at a seat) part) (y : SpellsHand (hand_at b seat) part).
    hand_once (hand_at a seat) (hand_at b seat) part (hand_set a seat p.four p.sets) (hand_set b seat q.four q.sets) x y in
    four_same a b p.four q.four
    (all_round p.first (λ seat. hand_at a seat ≡ hand_at b seat)
    (once p.first one.before one.first one.first')
    (once (clockwise_from p.first 1) two.before two.first two.first')
    (once (clockwise_from p.first 2) three.before three.first three.first')
    (once (clockwise_from p.first 3) three.after three.rest three.rest'))
