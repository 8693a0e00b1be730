-- The test of four hands and what it means.
use Rattle.std.proofs.Common.{◌≡◌, ◌+◌, ◌<◌, ◌≤◌, ℕ, true, false, ◌&&◌, List, length, take, get_or, nat_le, cond, sym, ap, ◌∙◌, arith, inl, inr, zero-add}
use Rattle.std.specs.List.{range_with_len}
use Rattle.std.proofs.lemmas.Bool.{cases_lt, and_parts}
use Rattle.std.proofs.lemmas.Bool.Decides.{nat_tests}
use Rattle.std.proofs.lemmas.List.Folds.{list_all_at}
use Rattle.std.proofs.lemmas.List.Sums.{list_all-from_AllPass, count_by_more_yes, sum_by-take-le}
use Rattle.std.proofs.lemmas.List.FromFn.{length-range_with_len, get_or-range_with_len}
use Rattle.bridge_cards.specs.CardSet.{IsCardSet, has_card, deck}
use Rattle.bridge_cards.specs.Deal.{holders, NoneTwice, is_each_once}
use Rattle.bridge_cards.proofs.CardSetLaws.{has_card-beyond}

one_at_most : (n : ℕ) → n ≤ 1 → nat_le n 1 ≡ true
one_at_most n few = grind (arith, nat_tests)

two_at_least : (n : ℕ) → 1 < n → nat_le n 1 ≡ false
two_at_least n more = grind (arith, nat_tests)

-- no card is in two hands
pub each_once : (hands : List ℕ) → NoneTwice hands → is_each_once hands ≡ true
each_once hands once =
    list_all-from_AllPass (λ card. nat_le (holders hands card) 1) deck (λ k d within. one_at_most (holders hands (get_or deck k d)) (once (get_or deck k d)))

-- a card of the deck is in two hands
pub not_each_once : (hands : List ℕ) (card : ℕ) → card < 52 → 1 < holders hands card → is_each_once hands ≡ false
unfolding deck
not_each_once hands card inside twice =
    list_all_at (λ card. nat_le (holders hands card) 1) (range_with_len 0 52) card 0 (omega (arith, length-range_with_len 0 52))
    (rw (get_or-range_with_len 0 52 card 0 inside, zero-add card) (two_at_least (holders hands card) twice))

-- a card that two sets have is one of the deck
pub common_in_deck : (dealt hand common card : ℕ) → IsCardSet dealt → has_card common card ≡ (has_card dealt card && has_card hand card) → has_card common card ≡ true → card < 52
common_in_deck dealt hand common card set both has =
    elim (cases_lt card 52) [
      | inl inside ↦ inside
      | inr beyond ↦
          let out : has_card dealt card ≡ false = has_card-beyond dealt card set beyond in
          let held : has_card dealt card ≡ true = (and_parts (has_card dealt card) (has_card hand card) (sym both ∙ has)).0 in
          absurd cc
    ]

-- a hand has a card that one of the hands before it has
pub held_twice : (hands : List ℕ) (index hand card : ℕ) → index < length hands → hand ≡ get_or hands index hand → holders (take index hands) card ≡ 1 → has_card hand card ≡ true → 1 < holders hands card
held_twice hands index hand card within is before has =
    let here : has_card (get_or hands index hand) card ≡ true = ap (λ h. has_card h card) (sym is) ∙ has in
    let more : holders (take (index + 1) hands) card ≡ holders (take index hands) card + 1 = count_by_more_yes (λ h. has_card h card) hands index hand within here in
    let most : holders (take (index + 1) hands) card ≤ holders hands card = sum_by-take-le (λ h. cond (has_card h card) 1 0) hands (index + 1) in
    omega arith
