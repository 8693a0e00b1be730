-- What is asked of the best of some worths by yes or no, and how a side stops at the first answer that it wants.
use Rattle.std.proofs.Common.{◌≡◌, ℕ, ◌<◌, Bool, true, false, not, ◌&&◌, ◌||◌, nat_le, max, min, List, [], ◌∷◌, filter, map, refl, sym, ap, ◌∙◌, arith}
use Rattle.std.specs.List.{list_any, list_all}
use Rattle.std.proofs.lemmas.Bool.Decides.{nat_tests}
use Rattle.bridge_cards.specs.declared.seat.Side.{Side}
use Rattle.bridge_cards.specs.declared.seat.Side.TheVariants.{NorthSouth, EastWest}
use Rattle.bridge_cards.specs.CardSet.{deck}
use Rattle.bridge_endings.specs.Worth.{best_from, best}
use Rattle.bridge_endings.specs.Left.{is_sought}
use Rattle.bridge_cards.proofs.SuitHeld.{some_card, no_card}
use Rattle.bridge_endings.proofs.Deck.{all_cards, not_all_cards, filter_none, any_kept, all_kept}

-- a question of the better of two
reaches-max : (need one other : ℕ) → nat_le need (max one other) ≡ (nat_le need one || nat_le need other)
reaches-max need one other = grind (arith, nat_tests)

reaches-min : (need one other : ℕ) → nat_le need (min one other) ≡ (nat_le need one && nat_le need other)
reaches-min need one other = grind (arith, nat_tests)

or_assoc : (a b c : Bool) → ((a || b) || c) ≡ (a || (b || c))
or_assoc true b c = refl
or_assoc false b c = refl

and_assoc : (a b c : Bool) → ((a && b) && c) ≡ (a && (b && c))
and_assoc true b c = refl
and_assoc false b c = refl

or_false : (a : Bool) → a ≡ (a || false)
or_false true = refl
or_false false = refl

and_true : (a : Bool) → a ≡ (a && true)
and_true true = refl
and_true false = refl

-- North and South reach a number of tricks by one of their cards
best_from-north_south : (need first : ℕ) (others : List ℕ) → nat_le need (best_from NorthSouth first others) ≡ list_any (nat_le need) (first ∷ others)
best_from-north_south need first [] = or_false (nat_le need first)
best_from-north_south need first (next ∷ others) =
    best_from-north_south need (max first next) others
    ∙ ap (λ b. b || list_any (nat_le need) others) (reaches-max need first next)
    ∙ or_assoc (nat_le need first) (nat_le need next) (list_any (nat_le need) others)

-- and by all of the cards of East and West
best_from-east_west : (need first : ℕ) (others : List ℕ) → nat_le need (best_from EastWest first others) ≡ list_all (nat_le need) (first ∷ others)
best_from-east_west need first [] = and_true (nat_le need first)
best_from-east_west need first (next ∷ others) =
    best_from-east_west need (min first next) others
    ∙ ap (λ b. b && list_all (nat_le need) others) (reaches-min need first next)
    ∙ and_assoc (nat_le need first) (nat_le need next) (list_all (nat_le need) others)

best-north_south : (need : ℕ) (worths : List ℕ) → list_any (λ _. true) worths ≡ true → nat_le need (best NorthSouth worths) ≡ list_any (nat_le need) worths
best-north_south need [] some = cc
best-north_south need (first ∷ others) some = best_from-north_south need first others

best-east_west : (need : ℕ) (worths : List ℕ) → list_any (λ _. true) worths ≡ true → nat_le need (best EastWest worths) ≡ list_all (nat_le need) worths
best-east_west need [] some = cc
best-east_west need (first ∷ others) some = best_from-east_west need first others

module _ (need : ℕ) (worth : ℕ → ℕ) (legal : ℕ → Bool) where
  -- some worth, as some card is legal
  some_worth : (card : ℕ) → card < 52 → legal card ≡ true → list_any (λ _. true) (map worth (filter legal deck)) ≡ true
  some_worth card inside may = any_kept (λ _. true) worth legal deck ∙ some_card (λ c. legal c && true) card inside (sym (and_true (legal card)) ∙ may)

  -- a card gives the answer that the side wants
  pub best_found : (side : Side) (card : ℕ) → card < 52 → legal card ≡ true → nat_le need (worth card) ≡ is_sought side → nat_le need (best side (map worth (filter legal deck))) ≡ is_sought side
  best_found NorthSouth card inside may wanted =
      best-north_south need (map worth (filter legal deck)) (some_worth card inside may)
      ∙ any_kept (nat_le need) worth legal deck
      ∙ some_card (λ c. legal c && nat_le need (worth c)) card inside (ap (λ b. b && nat_le need (worth card)) may ∙ wanted)
  best_found EastWest card inside may wanted =
      best-east_west need (map worth (filter legal deck)) (some_worth card inside may)
      ∙ all_kept (nat_le need) worth legal deck
      ∙ not_all_cards (λ c. not (legal c) || nat_le need (worth c)) card inside (ap (λ b. not b || nat_le need (worth card)) may ∙ wanted)

  -- none does
  pub best_none : (side : Side) (card : ℕ) → card < 52 → legal card ≡ true → ((other : ℕ) → legal other ≡ true → nat_le need (worth other) ≡ not (is_sought side)) → nat_le need (best side (map worth (filter legal deck))) ≡ not (is_sought side)
  best_none NorthSouth card inside may none =
      best-north_south need (map worth (filter legal deck)) (some_worth card inside may)
      ∙ any_kept (nat_le need) worth legal deck
      ∙ no_card (λ c. legal c && nat_le need (worth c)) (λ other. at other (legal other) refl)
    where
      at : (other : ℕ) (is : Bool) → legal other ≡ is → (is && nat_le need (worth other)) ≡ false
      at other true is = none other is
      at other false is = refl
  best_none EastWest card inside may none =
      best-east_west need (map worth (filter legal deck)) (some_worth card inside may)
      ∙ all_kept (nat_le need) worth legal deck
      ∙ all_cards (λ c. not (legal c) || nat_le need (worth c)) (λ other. at other (legal other) refl)
    where
      at : (other : ℕ) (is : Bool) → legal other ≡ is → (not is || nat_le need (worth other)) ≡ true
      at other true is = none other is
      at other false is = refl

  -- there is no card
  pub best_empty : (side : Side) → ((card : ℕ) → legal card ≡ false) → best side (map worth (filter legal deck)) ≡ 0
  best_empty side none = ap (λ cards. best side (map worth cards)) (filter_none legal none deck)
