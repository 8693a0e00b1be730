-- The index that wins a trick, when one card more is played: the new card's where it beats the winner, else the winner's.
use Rattle.std.proofs.Common.{◌≡◌, ℕ, ◌<◌, ◌≤◌, ◌⊎◌, inl, inr, Bool, true, false, not, ◌&&◌, ◌||◌, ◌==◌, cond, nat_le, nat_lt, List, [], ◌∷◌, ◌++◌, length, get_or, Option, Some, None, unwrap_or, refl, sym, ap, ◌∙◌, arith, length-append}
use Rattle.std.specs.List.{list_all, position_or_len}
use Rattle.std.proofs.lemmas.Bool.{eq-eqb, cases_lt}
use Rattle.std.proofs.Math.Seq.{get_or-append_seam}
use Rattle.std.proofs.lemmas.Bool.{lt-ltb}
use Rattle.std.proofs.lemmas.Bool.Decides.{nat_tests}
use Rattle.std.proofs.lemmas.List.{get_or_append_left, get_or_default}
use Rattle.std.proofs.lemmas.List.Folds.{list_all-append}
use Rattle.std.proofs.lemmas.List.Sums.{AllPass-from_list_all, list_all-from_AllPass, position_or_len_is}
use Rattle.bridge_cards.specs.declared.suit.Suit.{Suit}
use Rattle.bridge_cards.specs.declared.suit.Suit.TheVariants.{Clubs, Diamonds, Hearts, Spades}
use Rattle.bridge_cards.specs.Trick.{beats, is_or_beats, wins, winning_index}
use Rattle.bridge_endings.specs.TrickValue.{IsWinning, IsKeptWinner, is_over}
use Rattle.bridge_cards.specs.Card.{same_suit, card_suit}
use Rattle.bridge_cards.specs.CardSet.{has_card, is_of_suit}
use Rattle.bridge_cards.proofs.SuitHeld.{is_of_suit-card_suit}

or_true : (a b : Bool) → b ≡ true → (a || b) ≡ true
or_true true b is = refl
or_true false b is = is

and_true : (a : Bool) → (a && true) ≡ a
and_true true = refl
and_true false = refl

-- how the cards of a trick compare: trumps and cards of the suit led beat the others
module _ (trump : Option Suit) (led : ℕ) where
  abbrev B : ℕ → ℕ → Bool
  B = beats trump led

  -- a card that beats another is not beaten by it
  pub asymmetric : (x y : ℕ) → B x y ≡ true → is_or_beats trump led y x ≡ false
  asymmetric x y does = grind (arith, nat_tests)

  -- of a card that beats the winner: it beats what the winner is or beats
  transitive : (x w y : ℕ) → B x w ≡ true → is_or_beats trump led w y ≡ true → B x y ≡ true
  transitive x w y does is = grind (arith, nat_tests)

  -- the winner is the card led or beats it, so a card that does not beat it is it or is beaten
  total : (w x : ℕ) → is_or_beats trump led w led ≡ true → B x w ≡ false → is_or_beats trump led w x ≡ true
  total w x led_too not_beaten = grind (arith, nat_tests)

-- it is the winner's index
pub winning_is : (trump : Option Suit) (trick : List ℕ) (index : ℕ) → IsWinning trump trick index → winning_index trump trick ≡ index
winning_is trump trick index is =
    let at : position_or_len (wins trump trick) trick ≡ index = position_or_len_is (wins trump trick) trick index 0 (omega (arith, is.within)) is.first (λ within. is.wins_there) in
    ap (λ n. unwrap_or (cond (nat_lt n (length trick)) (Some n) None) 0) at
    ∙ ap (λ less. unwrap_or (cond less (Some index) None) 0) (lt-ltb index (length trick) is.within)

-- the card led wins at first
pub winning_led : (trump : Option Suit) (led : ℕ) → IsWinning trump (led ∷ []) 0
winning_led trump led = record {
  within = omega arith;
  wins_there = ap (λ same. (same || beats trump led led led) && true) (eq-eqb led led refl);
  first = λ k less. absurd (omega arith);
}

and_false : (a : Bool) → (a && false) ≡ false
and_false true = refl
and_false false = refl

module _ (trump : Option Suit) (trick : List ℕ) (card index : ℕ) (is : IsWinning trump trick index) where
  abbrev led : ℕ
  led = get_or trick 0 0

  abbrev winner : ℕ
  winner = get_or trick index 0

  wins_more : (x : ℕ) → wins trump (trick ++ card ∷ []) x ≡ (wins trump trick x && is_or_beats trump led x card)
  wins_more x =
      ap (λ l. list_all (is_or_beats trump l x) (trick ++ card ∷ [])) (get_or_append_left trick (card ∷ []) 0 0 (omega (arith, is.within)))
      ∙ list_all-append (is_or_beats trump led x) trick (card ∷ [])
      ∙ ap (λ b. wins trump trick x && b) (and_true (is_or_beats trump led x card))

  beaten : (k : ℕ) → k < length trick → is_or_beats trump led winner (get_or trick k 0) ≡ true
  beaten k within = AllPass-from_list_all (is_or_beats trump led winner) trick is.wins_there k 0 within

  itself : (x : ℕ) → is_or_beats trump led x x ≡ true
  itself x = ap (λ same. same || beats trump led x x) (eq-eqb x x refl)

  -- the card beats the winner
  module _ (does : beats trump led card winner ≡ true) where
    beats_each : (k : ℕ) → k < length trick → beats trump led card (get_or trick k 0) ≡ true
    beats_each k within = transitive trump led card winner (get_or trick k 0) does (beaten k within)

    wins_all : wins trump trick card ≡ true
    wins_all = list_all-from_AllPass (is_or_beats trump led card) trick (λ k d within. rw (get_or_default trick k d 0 within) (or_true (card == get_or trick k 0) (beats trump led card (get_or trick k 0)) (beats_each k within)))

    pub winning_card : IsWinning trump (trick ++ card ∷ []) (length trick)
    winning_card = record {
      within = omega (arith, length-append trick (card ∷ []));
      wins_there = rw (get_or-append_seam trick card [] 0) (wins_more card ∙ ap (λ b. b && is_or_beats trump led card card) wins_all ∙ itself card);
      first = λ k within.
          rw (get_or_append_left trick (card ∷ []) 0 k within) (
          wins_more (get_or trick k 0)
          ∙ ap (λ b. wins trump trick (get_or trick k 0) && b) (asymmetric trump led card (get_or trick k 0) (beats_each k within))
          ∙ and_false (wins trump trick (get_or trick k 0)));
    }

  -- it does not
  pub winning_kept : beats trump led card winner ≡ false → IsWinning trump (trick ++ card ∷ []) index
  winning_kept not_beaten = record {
    within = omega (arith, is.within, length-append trick (card ∷ []));
    wins_there = rw (get_or_append_left trick (card ∷ []) 0 index is.within) (
        wins_more winner
        ∙ ap (λ b. b && is_or_beats trump led winner card) is.wins_there
        ∙ total trump led winner card (beaten 0 (omega (arith, is.within))) not_beaten);
    first = λ k less.
        let within : k < length trick = omega (arith, is.within) in
        rw (get_or_append_left trick (card ∷ []) 0 k within) (wins_more (get_or trick k 0) ∙ ap (λ b. b && is_or_beats trump led (get_or trick k 0) card) (is.first k less));
  }

-- ---- the winner that a trick keeps

-- what wins so far is the card led or beats it, so whatever is over it beats it
over_beats : (trump : Option Suit) (led winner card : ℕ) → is_or_beats trump led winner led ≡ true → is_over trump winner card ≡ beats trump led card winner
over_beats trump led winner card does = grind (arith, nat_tests)

-- the first card
pub keeps_first : (trump : Option Suit) (trick : List ℕ) (card higher at : ℕ) → length trick ≡ 0 → at ≡ 0 → ((other : ℕ) → other < 52 → has_card higher other ≡ is_over trump card other) → IsKeptWinner trump (trick ++ card ∷ []) card at higher
keeps_first trump [] card higher at none here over =
    rw here (record { winning = λ _. winning_led trump card; card_is = λ _. refl; over = λ _. over })
keeps_first trump (led ∷ others) card higher at none here over = absurd (omega (arith, none))

module _ (trump : Option Suit) (trick : List ℕ) (card winner index higher : ℕ) (some : 0 < length trick) (inside : card < 52) (kept : IsKeptWinner trump trick winner index higher) where
  was : IsWinning trump trick index
  was = kept.winning some

  winner_is : get_or trick index 0 ≡ winner
  winner_is = kept.card_is some

  told : (answer : Bool) → has_card higher card ≡ answer → beats trump (get_or trick 0 0) card (get_or trick index 0) ≡ answer
  told answer is =
      sym (over_beats trump (get_or trick 0 0) (get_or trick index 0) card (AllPass-from_list_all (is_or_beats trump (get_or trick 0 0) (get_or trick index 0)) trick was.wins_there 0 0 some))
      ∙ ap (λ w. is_over trump w card) winner_is ∙ sym (kept.over some card inside) ∙ is

  pub keeps_new : (at then : ℕ) → at ≡ length trick → has_card higher card ≡ true → ((other : ℕ) → other < 52 → has_card then other ≡ is_over trump card other) → IsKeptWinner trump (trick ++ card ∷ []) card at then
  keeps_new at then here does over =
      rw here (record {
        winning = λ _. winning_card trump trick card index was (told true does);
        card_is = λ _. get_or-append_seam trick card [] 0;
        over = λ _. over;
      })

  pub keeps_old : has_card higher card ≡ false → IsKeptWinner trump (trick ++ card ∷ []) winner index higher
  keeps_old not_beaten = record {
    winning = λ _. winning_kept trump trick card index was (told false not_beaten);
    card_is = λ _. get_or_append_left trick (card ∷ []) 0 index was.within ∙ winner_is;
    over = λ _. kept.over some;
  }

-- ---- the cards that beat a card

true_and : (a b : Bool) → a ≡ true → (a && b) ≡ b
true_and true b is = refl
true_and false b is = cc

-- no suit has a card beyond the deck
beyond : (suit : Suit) (card : ℕ) → 52 ≤ card → is_of_suit suit card ≡ false
beyond Clubs card out = grind (arith, nat_tests)
beyond Diamonds card out = grind (arith, nat_tests)
beyond Hearts card out = grind (arith, nat_tests)
beyond Spades card out = grind (arith, nat_tests)

-- of the whole deck those of a suit
pub of_deck : (deck suited : ℕ) (suit : Suit) (card : ℕ) → (card < 52 → has_card deck card ≡ true) → has_card suited card ≡ (has_card deck card && is_of_suit suit card) → has_card suited card ≡ is_of_suit suit card
of_deck deck suited suit card all suits = at (cases_lt card 52)
  where
    at : (card < 52) ⊎ (52 ≤ card) → has_card suited card ≡ is_of_suit suit card
    at (inl inside) = suits ∙ true_and (has_card deck card) (is_of_suit suit card) (all inside)
    at (inr out) = suits ∙ ap (λ b. has_card deck card && b) (beyond suit card out) ∙ and_false (has_card deck card) ∙ sym (beyond suit card out)

not_le : (card other : ℕ) → not (nat_le other card) ≡ nat_lt card other
not_le card other = grind (arith, nat_tests)

-- those of a card's suit that are not up to it
pub above_it : (suited low higher card other : ℕ) → card < 52 → has_card suited other ≡ is_of_suit (card_suit card) other → has_card low other ≡ nat_le other card → has_card higher other ≡ (has_card suited other && not (has_card low other)) → has_card higher other ≡ (same_suit other card && nat_lt card other)
above_it suited low higher card other inside suits lows highers =
    highers ∙ ap (λ b. b && not (has_card low other)) (suits ∙ is_of_suit-card_suit card other inside)
    ∙ ap (λ b. same_suit other card && b) (ap not lows ∙ not_le card other)

-- ---- a card and those above it

-- of a suit those that are not up to a card, and the card
pub and_above : (suited low rest cards card other : ℕ) → card < 52 → has_card suited other ≡ is_of_suit (card_suit card) other → has_card low other ≡ nat_le other card → has_card rest other ≡ (has_card suited other && not (has_card low other)) → has_card cards other ≡ (has_card rest other || other == card)
    → has_card cards other ≡ (same_suit card other && nat_le card other)
and_above suited low rest cards card other inside suits lows rests is =
    is ∙ ap (λ b. b || other == card) (above_it suited low rest card other inside suits lows rests) ∙ or_itself card other
  where
    or_itself : (c o : ℕ) → ((same_suit o c && nat_lt c o) || o == c) ≡ (same_suit c o && nat_le c o)
    or_itself c o = grind (arith, nat_tests)
