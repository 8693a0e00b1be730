-- Four hands that are dealt out are a deal.
use Rattle.std.proofs.Common.{◌≡◌, ◌≤◌, ◌==◌, nat_le, ℕ, true, false, List, [], ◌∷◌, get_or, All, inl, inr, refl, arith}
use Rattle.std.specs.List.{list_all}
use Rattle.std.proofs.lemmas.Bool.{cases_lt, and_parts, eqb-true}
use Rattle.std.proofs.lemmas.Bool.Decides.{nat_tests}
use Rattle.std.proofs.lemmas.List.Elements.{All-head, All-tail}
use Rattle.std.proofs.lemmas.List.Sums.{AllPass-from_list_all}
use Rattle.bridge_cards.specs.CardSet.{IsCardSet, has_card, card_count}
use Rattle.bridge_cards.specs.Deal.{holders, is_each_once, is_dealt_out, IsDeal}
use Rattle.bridge_cards.proofs.CardSetLaws.{has_card-beyond}
use Rattle.bridge_endings.proofs.Deck.{not_all_cards}
use Rattle.session_rules.specs.StateRange.{AreHands}

-- no hand has a card beyond the deck
none_beyond : (hands : List ℕ) (card : ℕ) → All IsCardSet hands → 52 ≤ card → holders hands card ≡ 0
none_beyond [] card sets beyond = refl
none_beyond (hand ∷ hands) card sets beyond =
    let not_here : has_card hand card ≡ false = has_card-beyond hand card (All-head IsCardSet hand hands sets) beyond in
    let later : holders hands card ≡ 0 = none_beyond hands card (All-tail IsCardSet hand hands sets) beyond in
    rw (not_here, later) refl

pub dealt_is_deal : (hands : List ℕ) → is_dealt_out hands ≡ true → AreHands hands → IsDeal hands
dealt_is_deal hands dealt are =
    let both = and_parts (is_each_once hands) (list_all (λ hand. card_count hand == 13) hands) dealt in
    record {
      four = are.0;
      each = λ k d within. record {
        set = are.1 k d within;
        thirteen = eqb-true (card_count (get_or hands k d)) 13 (AllPass-from_list_all (λ hand. card_count hand == 13) hands both.1 k d within);
      };
      once = λ card. elim (cases_lt 1 (holders hands card)) [
        | inl twice ↦ elim (cases_lt card 52) [
          | inl inside ↦
              let many : nat_le (holders hands card) 1 ≡ false = grind (arith, nat_tests, twice) in
              let not : is_each_once hands ≡ false = not_all_cards (λ other. nat_le (holders hands other) 1) card inside many in
              let is = both.0 in absurd cc
          | inr beyond ↦ let none = none_beyond hands card are.1 beyond in omega (arith, none)
        ]
        | inr few ↦ few
      ];
    }
