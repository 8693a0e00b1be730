-- The printed text of a deal as a whole.
use Rattle.std.proofs.Common.{◌≡◌, ℕ, List, [], ◌∷◌, ◌++◌, length, refl, ap, ◌∙◌, arith}
use Rattle.std.proofs.lemmas.List.{append_assoc, length-append}
use Rattle.bridge_cards.specs.declared.seat.Seat.{Seat}
use Rattle.bridge_cards.specs.Seat.{seat_letter, clockwise_from}
use Rattle.bridge_cards.specs.Deal.{hand_at, IsHand, IsDeal}
use Rattle.bridge_cards.specs.DealText.{space, colon, SpellsDeal, hand_text, deal_text}
use Rattle.bridge_cards.proofs.PrintLemmas.{length-hand_text, hand_text_spells}

-- a dealt hand takes 16 bytes
pub length-hand_text_dealt : (hand : ℕ) → IsHand hand → length (hand_text hand) ≡ 16
length-hand_text_dealt hand dealt = omega (arith, length-hand_text hand, dealt.thirteen)

-- what is written piece by piece
pub deal_text_of : (hands : List ℕ) (first : Seat) (x a b c d : ℕ) → x ≡ seat_letter first → a ≡ hand_at hands first → b ≡ hand_at hands (clockwise_from first 1)
    → c ≡ hand_at hands (clockwise_from first 2) → d ≡ hand_at hands (clockwise_from first 3)
    → (x ∷ colon ∷ []) ++ hand_text a ++ space ∷ [] ++ hand_text b ++ space ∷ [] ++ hand_text c ++ space ∷ [] ++ hand_text d ≡ deal_text hands first
unfolding deal_text
deal_text_of hands first x a b c d is_x is_a is_b is_c is_d =
    simp append_assoc
    (ap (λ l. l ∷ colon ∷ (hand_text a ++ space ∷ (hand_text b ++ space ∷ (hand_text c ++ space ∷ hand_text d)))) is_x
    ∙ ap (λ h. seat_letter first ∷ colon ∷ (hand_text h ++ space ∷ (hand_text b ++ space ∷ (hand_text c ++ space ∷ hand_text d)))) is_a
    ∙ ap (λ h. seat_letter first ∷ colon ∷ (hand_text (hand_at hands first) ++ space ∷ (hand_text h ++ space ∷ (hand_text c ++ space ∷ hand_text d)))) is_b
    ∙ ap (λ h. seat_letter first ∷ colon ∷ (hand_text (hand_at hands first) ++ space ∷ (hand_text (hand_at hands (clockwise_from first 1)) ++ space ∷ (hand_text h ++ space ∷ hand_text d)))) is_c
    ∙ ap (λ h. seat_letter first ∷ colon ∷ (hand_text (hand_at hands first) ++ space ∷ (hand_text (hand_at hands (clockwise_from first 1)) ++ space ∷ (hand_text (hand_at hands (clockwise_from first 2)) ++ space ∷ hand_text h)))) is_d)

-- the printed text states the deal
pub deal_text_states : (hands : List ℕ) (first : Seat) → IsDeal hands → SpellsDeal hands (deal_text hands first)
unfolding deal_text
deal_text_states hands first deal = record {
  four = deal.four;
  sets = λ k d inside. (deal.each k d inside).set;
  first = first;
  rest = _;
  begins = refl;
  clockwise = record {
    before = _;
    after = _;
    first = hand_text_spells (hand_at hands first);
    rest = record {
      before = _;
      after = _;
      first = hand_text_spells (hand_at hands (clockwise_from first 1));
      rest = record {
        before = _;
        after = _;
        first = hand_text_spells (hand_at hands (clockwise_from first 2));
        rest = hand_text_spells (hand_at hands (clockwise_from first 3));
        whole = refl;
      };
      whole = refl;
    };
    whole = refl;
  };
}

with_spaces : (x : ℕ) (a b c d : List ℕ) → length a ≡ 16 → length b ≡ 16 → length c ≡ 16 → length d ≡ 16 → length (x ∷ colon ∷ (a ++ space ∷ (b ++ space ∷ (c ++ space ∷ d)))) ≡ 69
with_spaces x a b c d p q r s =
    omega (arith, length-append a (space ∷ (b ++ space ∷ (c ++ space ∷ d))), length-append b (space ∷ (c ++ space ∷ d)), length-append c (space ∷ d))

-- and takes 69 bytes
pub length-deal_text : (hands : List ℕ) (first : Seat) → IsHand (hand_at hands first) → IsHand (hand_at hands (clockwise_from first 1))
    → IsHand (hand_at hands (clockwise_from first 2)) → IsHand (hand_at hands (clockwise_from first 3)) → length (deal_text hands first) ≡ 69
unfolding deal_text
length-deal_text hands first a b c d =
    with_spaces (seat_letter first) _ _ _ _ (length-hand_text_dealt _ a) (length-hand_text_dealt _ b) (length-hand_text_dealt _ c) (length-hand_text_dealt _ d)
