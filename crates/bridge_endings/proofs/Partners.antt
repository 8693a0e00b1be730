-- Of two positions that agree, each card of the one has a card of the other like it, and once both are played they still agree.
use Rattle.std.proofs.Common.{◌≡◌, ℕ, ◌+◌, ◌<◌, ◌≤◌, ◌⊎◌, inl, inr, Bool, true, false, not, ◌&&◌, ◌||◌, ◌==◌, ◌/◌, cond, count_by, List, [], ◌∷◌, ◌++◌, length, get_or, refl, sym, ap, ◌∙◌, arith, length-append}
use Rattle.std.specs.List.{list_any}
use Rattle.std.proofs.Math.Path.{fun_ext}
use Rattle.std.proofs.Math.Seq.{get_or-append_seam}
use Rattle.std.proofs.lemmas.Bool.{cases_lt, eqb-true, eq-eqb, and_parts}
use Rattle.std.proofs.lemmas.List.{get_or_append_left}
use Rattle.std.proofs.lemmas.List.Sums.{sum_by-cons}
use Rattle.bridge_cards.specs.declared.seat.Seat.{Seat}
use Rattle.bridge_cards.specs.Seat.{same_seat}
use Rattle.bridge_cards.specs.Card.{same_suit}
use Rattle.bridge_cards.specs.CardSet.{deck}
use Rattle.bridge_cards.specs.Trick.{has_suit}
use Rattle.bridge_cards.proofs.CardCounts.{count_by-without}
use Rattle.bridge_cards.proofs.SuitHeld.{some_card}
use Rattle.bridge_endings.specs.Worth.{may_be_played, after_playing}
use Rattle.bridge_endings.specs.Agree.{IsDealtOut, is_small, Agree, AreAlike, AgreeTrick}
use Rattle.bridge_endings.proofs.Deck.{some_such}
use Rattle.bridge_endings.proofs.Seats.{same_seat-eq}
use Rattle.bridge_endings.proofs.LegalCards.{may_be_played-held}
use Rattle.bridge_endings.proofs.Agreeing.{suit_back, suit_then, agree_back, alike_suit, alike_counts}

-- ---- some card passes a test, or none is counted

pub some_counted : (p : ℕ → Bool) (xs : List ℕ) → list_any p xs ≡ true → 1 ≤ count_by p xs
some_counted p [] some = cc
some_counted p (x ∷ xs) some = at (some_counted p xs) (p x) refl
  where
    at : (list_any p xs ≡ true → 1 ≤ count_by p xs) → (is : Bool) → p x ≡ is → 1 ≤ count_by p (x ∷ xs)
    at rest true is = omega (arith, sum_by-cons (λ y. cond (p y) 1 0) x xs, ap (λ b. cond {A = ℕ} b 1 0) is)
    at rest false is =
        omega (arith, sum_by-cons (λ y. cond (p y) 1 0) x xs, ap (λ b. cond {A = ℕ} b 1 0) is, rest (sym (ap (λ b. b || list_any p xs) is) ∙ some))

pub none_counted : (p : ℕ → Bool) (xs : List ℕ) → list_any p xs ≡ false → count_by p xs ≡ 0
none_counted p [] none = refl
none_counted p (x ∷ xs) none = at (none_counted p xs) (p x) refl
  where
    at : (list_any p xs ≡ false → count_by p xs ≡ 0) → (is : Bool) → p x ≡ is → count_by p (x ∷ xs) ≡ 0
    at rest true is = let never : true ≡ false = sym (ap (λ b. b || list_any p xs) is) ∙ none in cc
    at rest false is =
        omega (arith, sum_by-cons (λ y. cond (p y) 1 0) x xs, ap (λ b. cond {A = ℕ} b 1 0) is, rest (sym (ap (λ b. b || list_any p xs) is) ∙ none))

-- a test passes a card that is counted
pub counted_card : (p : ℕ → Bool) → 1 ≤ count_by p deck → (card : ℕ) × (p card ≡ true)
counted_card p some = at (list_any p deck) refl
  where
    at : (is : Bool) → list_any p deck ≡ is → (card : ℕ) × (p card ≡ true)
    at true is = some_such p is
    at false is = absurd (omega (arith, some, none_counted p deck is))

three : (a b c : Bool) → a ≡ true → b ≡ true → c ≡ false → (a && (b && not c)) ≡ true
three true true false p q r = refl
three true true true p q r = cc
three true false c p q r = cc
three false b c p q r = cc

not_counting : (a : Bool) → not a ≡ true → a ≡ false
not_counting true is = cc
not_counting false is = refl

module _ (counts : ℕ → Bool) where
  -- a card of the other position like that one
  pub partner : (held other : Seat → ℕ → Bool) → Agree counts held other → (seat : Seat) (card : ℕ) → card < 52 → held seat card ≡ true → (like : ℕ) × (other seat like ≡ true) × AreAlike counts card like
  partner held other same seat card inside has = at (counts card) refl
    where
      at : (is : Bool) → counts card ≡ is → (like : ℕ) × (other seat like ≡ true) × AreAlike counts card like
      at true is = (card, sym (same.high seat card is) ∙ has, inl refl)
      at false is =
          let small = three (held seat card) (same_suit card card) (counts card) has (eq-eqb (card / 13) (card / 13) refl) is in
          let some = some_counted (is_small (held seat) counts card) deck (some_card (is_small (held seat) counts card) card inside small) in
          let found = counted_card (is_small (other seat) counts card) (omega (arith, some, same.small seat card inside)) in
          let like = found.0 in
          let has_like = and_parts (other seat like) (same_suit like card && not (counts like)) found.1 in
          let suited = and_parts (same_suit like card) (not (counts like)) has_like.1 in
          (like, has_like.0, inr (suit_back like card suited.0, is, not_counting (counts like) suited.1))

  -- a seat has cards of the suit led in both or in neither
  follows : (held other : Seat → ℕ → Bool) → IsDealtOut held → Agree counts held other → (seat : Seat) (led like : ℕ) → same_suit led like ≡ true → has_suit (held seat) led ≡ true → has_suit (other seat) like ≡ true
  follows held other out same seat led like suited has =
      let card = some_such (λ c. held seat c && same_suit c led) has in
      let its = and_parts (held seat card.0) (same_suit card.0 led) card.1 in
      let found = partner held other same seat card.0 (out.inside seat card.0 its.0) its.0 in
      let of_suit = suit_then found.0 card.0 like (suit_back card.0 found.0 (alike_suit counts card.0 found.0 found.2)) (suit_then card.0 led like its.1 suited) in
      some_card (λ c. other seat c && same_suit c like) found.0 (in_deck card.0 found.0 (out.inside seat card.0 its.0) (alike_suit counts card.0 found.0 found.2)) (two (other seat found.0) (same_suit found.0 like) found.1 of_suit)
    where
      two : (a b : Bool) → a ≡ true → b ≡ true → (a && b) ≡ true
      two true true p q = refl
      two true false p q = cc
      two false b p q = cc

      in_deck : (a b : ℕ) → a < 52 → same_suit a b ≡ true → b < 52
      in_deck a b inside suits = let e : a / 13 ≡ b / 13 = eqb-true (a / 13) (b / 13) suits in omega arith

  same_void : (held other : Seat → ℕ → Bool) → IsDealtOut held → IsDealtOut other → Agree counts held other → (seat : Seat) (led like : ℕ) → same_suit led like ≡ true → has_suit (held seat) led ≡ has_suit (other seat) like
  same_void held other out out_too same seat led like suited = at (has_suit (held seat) led) (has_suit (other seat) like) refl refl
    where
      at : (a b : Bool) → has_suit (held seat) led ≡ a → has_suit (other seat) like ≡ b → has_suit (held seat) led ≡ has_suit (other seat) like
      at true true p q = p ∙ sym q
      at false false p q = p ∙ sym q
      at true false p q = let never = follows held other out same seat led like suited p in cc
      at false true p q = let never = follows other held out_too (agree_back counts held other same) seat like led (suit_back led like suited) q in cc

  -- where a card may be played, so may one like it
  pub legal_partner : (held other : Seat → ℕ → Bool) → IsDealtOut held → IsDealtOut other → Agree counts held other → (trick played : List ℕ) → AgreeTrick counts trick played → (seat : Seat) (card : ℕ) → may_be_played (held seat) trick card ≡ true → (like : ℕ) × (may_be_played (other seat) played like ≡ true) × AreAlike counts card like
  legal_partner held other out out_too same [] [] same_trick seat card may =
      let has = may_be_played-held (held seat) [] card may in
      let found = partner held other same seat card (out.inside seat card has) has in
      (found.0, ap (λ b. b && true) found.1, found.2)
  legal_partner held other out out_too same [] (like ∷ others) same_trick seat card may = absurd (omega (arith, same_trick.long))
  legal_partner held other out out_too same (led ∷ trick) [] same_trick seat card may = absurd (omega (arith, same_trick.long))
  legal_partner held other out out_too same (led ∷ trick) (first ∷ played) same_trick seat card may =
      let has = may_be_played-held (held seat) (led ∷ trick) card may in
      let found = partner held other same seat card (out.inside seat card has) has in
      let led_suit : same_suit led first ≡ true = alike_suit counts led first (same_trick.each 0 (omega arith)) in
      let card_suit : same_suit card found.0 ≡ true = alike_suit counts card found.0 found.2 in
      let void = same_void held other out out_too same seat led first led_suit in
      let follow : same_suit card led ≡ same_suit found.0 first = same_pair card led found.0 first card_suit led_suit in
      let followed = (and_parts (held seat card) (same_suit card led || not (has_suit (held seat) led)) may).1 in (
        found.0,
        ap (λ b. b && (same_suit found.0 first || not (has_suit (other seat) first))) found.1
            ∙ ap (λ b. b || not (has_suit (other seat) first)) (sym follow)
            ∙ ap (λ b. same_suit card led || not b) (sym void)
            ∙ followed,
        found.2,
      )
    where
      same_pair : (a b c d : ℕ) → same_suit a c ≡ true → same_suit b d ≡ true → same_suit a b ≡ same_suit c d
      same_pair a b c d p q = ap (λ n. n == (b / 13)) (eqb-true (a / 13) (c / 13) p) ∙ ap (λ n. (c / 13) == n) (eqb-true (b / 13) (d / 13) q)

-- ---- both are played

-- the small cards of a hand after a card of it is played
module _ (hand counts : ℕ → Bool) (card : ℕ) (inside : card < 52) (led : ℕ) where
  abbrev hand_then : ℕ → Bool
  hand_then other = hand other && not (other == card)

  unmoved : is_small hand counts led card ≡ false → (other : ℕ) (is : Bool) → (other == card) ≡ is → is_small hand counts led other ≡ is_small hand_then counts led other
  unmoved none other true is =
      let here : other ≡ card = eqb-true other card is in
      ap (is_small hand counts led) here ∙ none ∙ sym (ap (λ b. (hand other && not b) && (same_suit other led && not (counts other))) is ∙ gone (hand other) (same_suit other led && not (counts other)))
    where
      gone : (a b : Bool) → ((a && false) && b) ≡ false
      gone true b = refl
      gone false b = refl
  unmoved none other false is = sym (ap (λ b. (hand other && not b) && (same_suit other led && not (counts other))) is ∙ ap (λ b. b && (same_suit other led && not (counts other))) (stays (hand other)))
    where
      stays : (a : Bool) → (a && true) ≡ a
      stays true = refl
      stays false = refl

  moved : (a b c : Bool) → (a && b) && c ≡ (a && c) && b
  moved true true true = refl
  moved true true false = refl
  moved true false true = refl
  moved true false false = refl
  moved false b c = refl

  small_after : (is : Bool) → is_small hand counts led card ≡ is → count_by (is_small hand counts led) deck ≡ count_by (is_small hand_then counts led) deck + cond is 1 0
  small_after true is =
      count_by-without (is_small hand counts led) (is_small hand_then counts led) card inside is
      (λ other. moved (hand other) (not (other == card)) (same_suit other led && not (counts other)))
  small_after false is =
      ap (λ p. count_by p deck) (fun_ext {B = λ _. Bool} (λ other. unmoved is other (other == card) refl))
      ∙ omega arith

module _ (counts : ℕ → Bool) (held other : Seat → ℕ → Bool) (out : IsDealtOut held) (out_too : IsDealtOut other) (same : Agree counts held other) (seat : Seat) (c d : ℕ) (has : held seat c ≡ true) (has_too : other seat d ≡ true) (like : AreAlike counts c d) where
  -- at each seat the one is small where the other is
  same_small : (at : Seat) (led : ℕ) (is : Bool) → same_seat at seat ≡ is → is_small (held at) counts led c ≡ is_small (other at) counts led d
  same_small at led true is =
      let here : at ≡ seat = same_seat-eq at seat is in
      let suits : c / 13 ≡ d / 13 = eqb-true (c / 13) (d / 13) (alike_suit counts c d like) in
      ap (λ (s : Seat). held s c && (same_suit c led && not (counts c))) here
      ∙ ap (λ b. b && (same_suit c led && not (counts c))) (has ∙ sym has_too)
      ∙ ap (λ n. other seat d && ((n == (led / 13)) && not (counts c))) suits
      ∙ ap (λ b. other seat d && (same_suit d led && not b)) (alike_counts counts c d like)
      ∙ ap (λ (s : Seat). other s d && (same_suit d led && not (counts d))) (sym here)
  same_small at led false is =
      ap (λ b. b && (same_suit c led && not (counts c))) (out.once seat c has at is)
      ∙ sym (ap (λ b. b && (same_suit d led && not (counts d))) (out_too.once seat d has_too at is))

  -- a card that counts is played in both or in neither
  played_too : (card : ℕ) → counts card ≡ true → AreAlike counts c d → (card == c) ≡ (card == d)
  played_too card does (inl is) = ap (λ n. card == n) is
  played_too card does (inr small) = differs c small.1 ∙ sym (differs d small.2)
    where
      differs : (e : ℕ) → counts e ≡ false → (card == e) ≡ false
      differs e not = at (card == e) refl
        where
          at : (is : Bool) → (card == e) ≡ is → (card == e) ≡ false
          at true is = let never = sym does ∙ ap counts (eqb-true card e is) ∙ not in cc
          at false is = is

  pub agree_after : Agree counts (after_playing c held) (after_playing d other)
  agree_after = record {
    high = λ at card does.
        ap (λ b. b && not (card == c)) (same.high at card does) ∙ ap (λ b. other at card && not b) (played_too card does like);
    small = λ at led inside.
        omega (
          arith,
          same.small at led inside,
          small_after (held at) counts c (out.inside seat c has) led (is_small (held at) counts led c) refl,
          small_after (other at) counts d (out_too.inside seat d has_too) led (is_small (other at) counts led d) refl,
          ap (λ b. cond {A = ℕ} b 1 0) (same_small at led (same_seat at seat) refl),
        );
  }

-- the tricks agree with one more card in each
pub trick_after : (counts : ℕ → Bool) (trick played : List ℕ) → AgreeTrick counts trick played → (c d : ℕ) → AreAlike counts c d → AgreeTrick counts (trick ++ c ∷ []) (played ++ d ∷ [])
trick_after counts trick played same c d like = record {
  long = omega (arith, same.long, length-append trick (c ∷ []), length-append played (d ∷ []));
  each = λ index within. at index (cases_lt index (length trick)) within;
}
  where
    at : (index : ℕ) → (index < length trick) ⊎ (length trick ≤ index) → index < length (trick ++ c ∷ []) → AreAlike counts (get_or (trick ++ c ∷ []) index 0) (get_or (played ++ d ∷ []) index 0)
    at index (inl before) within =
        rw (get_or_append_left trick (c ∷ []) 0 index before, get_or_append_left played (d ∷ []) 0 index (omega (arith, same.long, before))) (same.each index before)
    at index (inr here) within =
        let last : index ≡ length trick = omega (arith, length-append trick (c ∷ [])) in
        let last_too : index ≡ length played = last ∙ same.long in
        rw (ap (λ n. get_or (trick ++ c ∷ []) n 0) last ∙ get_or-append_seam trick c [] 0, ap (λ n. get_or (played ++ d ∷ []) n 0) last_too ∙ get_or-append_seam played d [] 0) like
