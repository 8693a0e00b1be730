-- The hands of a deck that is dealt: which cards each has, that they are 13, and that no card is in two.
use Rattle.std.proofs.Common.{ℕ, zero, suc, ◌≡◌, ◌+◌, ◌-◌, ◌<◌, ◌≤◌, Bool, true, false, cond, ◌&&◌, ◌||◌, ◌==◌, ◌⊎◌, inl, inr, List, [], ◌∷◌, length, take, drop, count_by, refl, sym, ap, ◌∙◌, arith}
use Rattle.std.specs.Prelude.{All, IsPermutation}
use Rattle.std.specs.List.{range_with_len, list_any}
use Rattle.std.proofs.lemmas.List.{length-take, length-drop, drop-drop}
use Rattle.std.proofs.lemmas.List.FromFn.{length-range_with_len, get_or-range_with_len}
use Rattle.std.proofs.lemmas.List.Elements.{All-nil, All-cons, All-head, All-tail, All-take, All-drop, All-from_get_or}
use Rattle.std.proofs.lemmas.List.Sorted.{All-permutation, sum_by-IsPermutation, length_permutation}
use Rattle.std.proofs.lemmas.List.Sums.{sum_by-cons, sum_by-take-drop}
use Rattle.std.proofs.lemmas.Bool.{cases_eq, eq-eqb, ne_eqb, eqb-true}
use Rattle.std.proofs.lemmas.Cmp.{nat_eq_equiv}
use Rattle.std.proofs.lemmas.Map.Views.{Contains-from_any, list_any-from_Contains}
use Rattle.bridge_cards.specs.declared.seat.Seat.{Seat}
use Rattle.bridge_cards.specs.declared.seat.Seat.TheVariants.{North, East, South, West}
use Rattle.bridge_cards.specs.CardSet.{has_card, deck, card_count}
use Rattle.bridge_cards.proofs.CardCounts.{count_either, count_none, count_one}
use Rattle.bridge_cards.specs.Deal.{hand_at, NoneTwice}
use Rattle.bridge_cards.specs.Shuffle.{cards_dealt, IsDealtFrom}

-- whether a card is one of these
abbrev is_among : List ℕ → ℕ → Bool
is_among cards card = list_any (λ dealt. card == dealt) cards

-- how often a card stands among these
abbrev times : ℕ → List ℕ → ℕ
times card cards = count_by (λ x. x == card) cards

-- the cards of each hand, by tests
abbrev HandsFrom : List ℕ → List ℕ → Type 0
HandsFrom cards hands = (seat : Seat) (card : ℕ) → has_card (hand_at hands seat) card ≡ is_among (cards_dealt cards seat) card

-- ---- how often a card stands in a list

same_test : (a b : ℕ) → (a == b) ≡ (b == a)
same_test a b = at (cases_eq a b)
  where
    at : (a ≡ b) ⊎ (a ≡ b → ⊥) → (a == b) ≡ (b == a)
    at (inl e) = eq-eqb a b e ∙ sym (eq-eqb b a (sym e))
    at (inr ne) = ne_eqb a b ne ∙ sym (ne_eqb b a (λ e. ne (sym e)))

one_more : (a b : Bool) (n : ℕ) → cond b 1 0 ≤ n → cond (a || b) 1 0 ≤ cond a 1 0 + n
one_more true b n h = omega arith
one_more false b n h = omega arith

-- a card that is there stands there at least once
is_among-le : (cards : List ℕ) (card : ℕ) → cond (is_among cards card) 1 0 ≤ times card cards
is_among-le [] card = omega arith
is_among-le (x ∷ xs) card =
    let more = one_more (card == x) (is_among xs card) (times card xs) (is_among-le xs card) in
    let test = ap (λ b. cond {A = ℕ} b 1 0) (same_test card x) in
    omega (arith, more, test, sum_by-cons (λ y. cond (y == card) 1 0) x xs)

-- a card stands once at most among numbers in a row
times-row : (card k a : ℕ) → times card (range_with_len a k) ≤ 1
times-row card zero a = omega arith
times-row card (suc k) a = at (times-row card k (a + 1)) (cases_eq a card)
  where
    step : times card (range_with_len a (suc k)) ≡ cond (a == card) 1 0 + times card (range_with_len (a + 1) k)
    step = sum_by-cons (λ x. cond (x == card) 1 0) a (range_with_len (a + 1) k)

    at : times card (range_with_len (a + 1) k) ≤ 1 → (a ≡ card) ⊎ (a ≡ card → ⊥) → times card (range_with_len a (suc k)) ≤ 1
    at rest (inl e) =
        let test = ap (λ b. cond {A = ℕ} b 1 0) (eq-eqb a card e) in
        omega (arith, step, test, count_none card k (a + 1) (omega arith))
    at rest (inr ne) =
        let test = ap (λ b. cond {A = ℕ} b 1 0) (ne_eqb a card ne) in
        omega (arith, step, test, rest)

-- ---- how many different cards a list has

absent : (b : Bool) (n : ℕ) → cond b 1 0 ≤ n → n ≤ 0 → b ≡ false
absent true n h none = absurd (omega arith)
absent false n h none = refl

count_among-none : (k a : ℕ) → count_by (is_among []) (range_with_len a k) ≡ 0
count_among-none zero a = refl
count_among-none (suc k) a =
    omega (arith, sum_by-cons (λ x. cond (is_among [] x) 1 0) a (range_with_len (a + 1) k), count_among-none k (a + 1))

-- cards that stand once each are as many as the list is long
count_among : (cards : List ℕ) → All (λ card. card < 52) cards → ((card : ℕ) → times card cards ≤ 1) → count_by (is_among cards) (range_with_len 0 52) ≡ length cards
count_among [] inside once = count_among-none 52 0
count_among (x ∷ xs) inside once =
    let head : x < 52 = All-head (λ card. card < 52) x xs inside in
    let whole = count_either (λ card. card == x) (is_among xs) (is_among (x ∷ xs)) (λ card. refl) (λ card. apart card (cases_eq card x)) (range_with_len 0 52) in
    omega (
      arith,
      whole,
      count_one x 52 0 (omega arith) (omega arith),
      count_among xs (All-tail (λ card. card < 52) x xs inside) (λ card. omega (arith, once card, sum_by-cons (λ y. cond (y == card) 1 0) x xs)),
    )
  where
    lacks : is_among xs x ≡ false
    lacks =
        absent (is_among xs x) (times x xs) (is_among-le xs x)
        (omega (arith, once x, sum_by-cons (λ y. cond (y == x) 1 0) x xs, ap (λ b. cond {A = ℕ} b 1 0) (eq-eqb x x refl)))

    apart : (card : ℕ) → (card ≡ x) ⊎ (card ≡ x → ⊥) → ((card == x) && is_among xs card) ≡ false
    apart card (inl e) = ap (λ b. b && is_among xs card) (eq-eqb card x e) ∙ ap (is_among xs) e ∙ lacks
    apart card (inr ne) = ap (λ b. b && is_among xs card) (ne_eqb card x ne)

-- ---- the deck in another order

module _ (cards : List ℕ) (mixed : IsPermutation deck cards) where
  -- it has 52 cards
  long : length cards ≡ 52
  unfolding deck
  long = length_permutation deck cards mixed ∙ length-range_with_len 0 52

  -- each is a card of the deck
  inside : All (λ card. card < 52) cards
  unfolding deck
  inside =
      All-permutation (λ card. card < 52) deck cards mixed
      (All-from_get_or (λ card. card < 52) deck 0 (λ i h. omega (arith, length-range_with_len 0 52, get_or-range_with_len 0 52 i 0)))

  -- none is there twice
  once : (card : ℕ) → times card cards ≤ 1
  unfolding deck
  once card = omega (arith, times-row card 52 0, sum_by-IsPermutation (λ x. cond (x == card) 1 0) deck cards mixed)

  -- thirteen cards in a row are a hand of 13
  thirteen : (index hand : ℕ) → index + 13 ≤ 52 → ((card : ℕ) → has_card hand card ≡ is_among (take 13 (drop index cards)) card) → card_count hand ≡ 13
  unfolding card_count deck
  thirteen index hand fits has =
      same_count (has_card hand) (is_among (take 13 (drop index cards))) has 52 0
      ∙ count_among (take 13 (drop index cards)) (All-take (λ card. card < 52) 13 (drop index cards) (All-drop (λ card. card < 52) index cards inside)) (λ card. omega (
        arith,
        once card,
        sum_by-take-drop (λ x. cond (x == card) 1 0) cards index,
        sum_by-take-drop (λ x. cond (x == card) 1 0) (drop index cards) 13,
      ))
      ∙ omega (arith, length-take 13 (drop index cards), length-drop index cards, long)
    where
      same_count : (p q : ℕ → Bool) → ((x : ℕ) → p x ≡ q x) → (k a : ℕ) → count_by p (range_with_len a k) ≡ count_by q (range_with_len a k)
      same_count p q same zero a = refl
      same_count p q same (suc k) a =
          omega (
            arith,
            sum_by-cons (λ x. cond (p x) 1 0) a (range_with_len (a + 1) k),
            sum_by-cons (λ x. cond (q x) 1 0) a (range_with_len (a + 1) k),
            ap (λ b. cond {A = ℕ} b 1 0) (same a),
            same_count p q same k (a + 1),
          )

  -- the hands of four sets, given the cards of each
  module _ (north east south west : ℕ) (from : HandsFrom cards (north ∷ east ∷ south ∷ west ∷ [])) where
    thirteen_each : All (λ hand. card_count hand ≡ 13) (north ∷ east ∷ south ∷ west ∷ [])
    thirteen_each =
        All-cons (λ hand. card_count hand ≡ 13) north (east ∷ south ∷ west ∷ []) (thirteen 0 north (omega arith) (from North))
        (All-cons (λ hand. card_count hand ≡ 13) east (south ∷ west ∷ []) (thirteen 13 east (omega arith) (from East))
        (All-cons (λ hand. card_count hand ≡ 13) south (west ∷ []) (thirteen 26 south (omega arith) (from South))
        (All-cons (λ hand. card_count hand ≡ 13) west [] (thirteen 39 west (omega arith) (from West)) (All-nil (λ hand. card_count hand ≡ 13)))))

    none_twice : NoneTwice (north ∷ east ∷ south ∷ west ∷ [])
    none_twice card =
        let counted = λ (x : ℕ). cond {A = ℕ} (x == card) 1 0 in
        omega (
          arith,
          once card,
          sum_by-take-drop counted cards 13,
          sum_by-take-drop counted (drop 13 cards) 13,
          sum_by-take-drop counted (drop 26 cards) 13,
          sum_by-take-drop counted (drop 39 cards) 13,
          ap (times card) (drop-drop 13 13 cards),
          ap (times card) (drop-drop 13 26 cards),
          held North card,
          held East card,
          held South card,
          held West card,
        )
      where
        held : (seat : Seat) (card : ℕ) → cond (has_card (hand_at (north ∷ east ∷ south ∷ west ∷ []) seat) card) 1 0 ≤ times card (cards_dealt cards seat)
        held seat card =
            omega (arith, is_among-le (cards_dealt cards seat) card, ap (λ b. cond {A = ℕ} b 1 0) (from seat card))

    dealt_from : IsDealtFrom cards (north ∷ east ∷ south ∷ west ∷ [])
    dealt_from seat card = (
      λ has. Contains-from_any eqb-true card (cards_dealt cards seat) (sym (from seat card) ∙ has),
      λ there. from seat card ∙ list_any-from_Contains nat_eq_equiv card (cards_dealt cards seat) there,
    )

-- hands dealt from these cards
pub record AreDealt (cards hands : List ℕ) : Type 0 where
  pub once : NoneTwice hands
  pub each : All (λ hand. card_count hand ≡ 13) hands
  pub from : IsDealtFrom cards hands

-- the sets of the four parts of the deck are hands dealt from it
pub parts_dealt : (cards parts : List ℕ) → parts ≡ cards → IsPermutation deck cards → (north east south west : ℕ)
    → ((card : ℕ) → has_card north card ≡ is_among (take 13 parts) card)
    → ((card : ℕ) → has_card east card ≡ is_among (take 13 (drop 13 parts)) card)
    → ((card : ℕ) → has_card south card ≡ is_among (take 13 (drop 26 parts)) card)
    → ((card : ℕ) → has_card west card ≡ is_among (take (length parts - 39) (drop 39 parts)) card)
    → AreDealt cards (north ∷ east ∷ south ∷ west ∷ [])
parts_dealt cards parts same mixed north east south west first second third fourth =
    record {
      once = none_twice cards mixed north east south west from;
      each = thirteen_each cards mixed north east south west from;
      from = dealt_from cards mixed north east south west from;
    }
  where
    from : HandsFrom cards (north ∷ east ∷ south ∷ west ∷ [])
    from North card = first card ∙ ap (λ xs. is_among (take 13 xs) card) same
    from East card = second card ∙ ap (λ xs. is_among (take 13 (drop 13 xs)) card) same
    from South card = third card ∙ ap (λ xs. is_among (take 13 (drop 26 xs)) card) same
    from West card =
        fourth card
        ∙ ap (λ xs. is_among (take (length xs - 39) (drop 39 xs)) card) same
        ∙ ap (λ n. is_among (take (n - 39) (drop 39 cards)) card) (long cards mixed)
