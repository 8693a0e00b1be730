-- What a table tells: of cards left that agree in those that counted, and what an answer adds to it.
use Rattle.std.proofs.Common.{◌≡◌, ℕ, ◌*◌, ◌<◌, Bool, ◌&&◌, nat_le, count_by, List, [], Option, refl, sym, ap, ◌∙◌, arith, All, replicate, subst, length, slice_set}
use Rattle.std.proofs.lemmas.List.{length-replicate, length-set}
use Rattle.std.proofs.lemmas.List.Elements.{All-replicate, All-set}
use Rattle.std.proofs.Math.Path.{fun_ext}
use Rattle.bridge_cards.specs.declared.suit.Suit.{Suit}
use Rattle.bridge_cards.specs.declared.seat.Seat.{Seat}
use Rattle.bridge_cards.specs.Card.{same_suit, card_suit}
use Rattle.bridge_cards.specs.CardSet.{has_card, is_of_suit, deck, card_count}
use Rattle.bridge_cards.specs.Deal.{hand_at}
use Rattle.bridge_cards.proofs.CardSetLaws.{has_card-zero}
use Rattle.bridge_cards.proofs.SuitHeld.{is_of_suit-card_suit}
use Rattle.bridge_endings.specs.declared.answer.Answer.{Answer}
use Rattle.bridge_endings.specs.declared.bounds.Bounds.{Bounds}
use Rattle.bridge_endings.specs.declared.found.Found.{Found}
use Rattle.bridge_endings.specs.declared.entry.Entry.{Entry}
use Rattle.bridge_endings.specs.Between.{IsBounded}
use Rattle.bridge_endings.specs.Worth.{dealt, worth_with}
use Rattle.bridge_endings.specs.Left.{suit_length, all_lengths, AreAsLong, HoldAlike}
use Rattle.bridge_endings.specs.Agree.{IsDealtOut, Agree}
use Rattle.bridge_endings.specs.SearchValue.{IsAnswer, IsFound, IsEntry, IsTable, IsNothing}
use Rattle.bridge_endings.proofs.WorthSteps.{worth_with_le}
use Rattle.bridge_endings.proofs.Agreeing.{agree_then}
use Rattle.bridge_endings.proofs.Counting.{count_parts, counted_alike}

-- ---- cards left that agree

-- how many cards of a suit a hand has, by the set of them
pub suit_length_is : (hand suited : ℕ) (suit : Suit) → ((card : ℕ) → has_card suited card ≡ (has_card hand card && is_of_suit suit card)) → suit_length hand suit ≡ card_count suited
unfolding card_count
suit_length_is hand suited suit suits =
    ap (λ p. count_by p deck) (fun_ext {B = λ _. Bool} (λ card. sym (suits card)))

module _ (hands others : List ℕ) (counts : ℕ) (alike : (seat : Seat) → HoldAlike counts (hand_at hands seat) (hand_at others seat)) (long : (seat : Seat) → AreAsLong (hand_at hands seat) (hand_at others seat)) where
  length_is : (hand led : ℕ) → led < 52 → suit_length hand (card_suit led) ≡ count_by (λ card. has_card hand card && same_suit card led) deck
  length_is hand led inside = ap (λ p. count_by p deck) (fun_ext {B = λ _. Bool} (λ card. ap (λ b. has_card hand card && b) (is_of_suit-card_suit led card inside)))

  -- hands that are alike agree
  pub hands_agree : Agree (has_card counts) (dealt hands) (dealt others)
  hands_agree = record {
    high = λ seat card does. alike seat card does;
    small = λ seat led inside.
        omega (
          arith,
          length_is (hand_at hands seat) led inside,
          length_is (hand_at others seat) led inside,
          long seat (card_suit led),
          count_parts (dealt hands seat) (has_card counts) led,
          count_parts (dealt others seat) (has_card counts) led,
          counted_alike (has_card counts) (dealt hands) (dealt others) alike seat led,
        );
  }

-- ---- what is found, and what is answered by it

-- what was found of hands is true of others that agree
pub found_there : (found : Found) → IsFound found → (hands : List ℕ) (trump : Option Suit) (tricks : ℕ) (leader : Seat) → found.trump ≡ trump → found.leader ≡ leader → found.tricks ≡ tricks
    → Agree (has_card found.counts) (dealt found.hands) (dealt hands)
    → (other : Seat → ℕ → Bool) → IsDealtOut other → Agree (has_card found.counts) (dealt hands) other → IsBounded (worth_with trump (4 * tricks) other leader []) found.bounds
found_there found is hands trump tricks leader same_trump same_leader same_tricks agree other out same =
    rw (← same_trump, ← same_leader, ← same_tricks) (is.bounded other out (agree_then (has_card found.counts) (dealt found.hands) (dealt hands) other agree same))

-- an answer gives bounds
pub answer_found : (hands : List ℕ) (lengths best : ℕ) → lengths ≡ all_lengths hands → (trump : Option Suit) (tricks need : ℕ) (leader : Seat) (answer : Answer) (bounds : Bounds) → IsAnswer trump (4 * tricks) need answer (dealt hands) leader []
    → ((worth : ℕ) → IsBounded worth (record { least = 0; most = tricks }) → answer.yes ≡ nat_le need worth → IsBounded worth bounds)
    → IsFound (record { hands = hands; counts = answer.counts; lengths = lengths; trump = trump; leader = leader; tricks = tricks; bounds = bounds; best = best })
answer_found hands lengths best are trump tricks need leader answer bounds is narrowed = record {
  upward = is.upward;
  lengths = are;
  bounded = λ other out same.
      narrowed (worth_with trump (4 * tricks) other leader [])
      (record { least = omega arith; most = omega (arith, worth_with_le trump (4 * tricks) other leader [] (omega arith)) })
      (sym (is.settled other out [] same (record { long = refl; each = λ index within. absurd (omega (arith, within)) })));
}

-- of no tricks none is won
pub nothing_found : (found : Found) → IsNothing found → IsFound found
nothing_found found is = record {
  lengths = is.lengths;
  upward = λ card above suit less does.
      let none = sym does ∙ ap (λ cards. has_card cards card) is.counts ∙ has_card-zero card in
      cc;
  bounded = λ other out same.
      let few = worth_with_le found.trump (4 * found.tricks) other found.leader [] (omega arith) in
      record { least = omega (arith, is.least); most = omega (arith, few, is.tricks, is.most) };
}

-- a table in which each entry is that one
pub nothing_table : (count : ℕ) → 0 < count → (entry : Entry) → IsEntry entry → (table : List Entry) → table ≡ replicate count entry → IsTable table
nothing_table count some entry is table all = record {
  some = subst (λ xs. 0 < length xs) (sym all) (subst (λ n. 0 < n) (sym (length-replicate count entry)) some);
  found = subst (All IsEntry) (sym all) (All-replicate IsEntry count entry is);
}

-- a table with another entry in which what was found is true
pub table_set : (table : List Entry) (place : ℕ) (entry : Entry) → IsTable table → IsEntry entry → IsTable (slice_set table place entry)
table_set table place entry is found = record {
  some = omega (arith, is.some, length-set table place entry);
  found = All-set IsEntry table place entry found is.found;
}

-- what was found, with another thing that is true
pub found_set : (parts : List Found) (place : ℕ) (found : Found) → All IsFound parts → IsFound found → All IsFound (slice_set parts place found)
found_set parts place found are is = All-set IsFound parts place found is are
