-- A trick has a winner: a card that is or beats each of its cards (Law 44).
use Rattle.std.proofs.Common.{◌≡◌, ℕ, suc, ◌<◌, ◌≤◌, ◌⊎◌, inl, inr, Bool, true, false, ◌&&◌, ◌||◌, ◌==◌, cond, List, [], ◌∷◌, length, get_or, Option, Some, None, unwrap_or, refl, sym, ap, subst, ◌∙◌, arith}
use Rattle.std.specs.List.{list_all, position_or_len, AllByRecursion}
use Rattle.std.proofs.lemmas.Bool.{eq-eqb, eqb-true, lt-ltb, cases_lt}
use Rattle.std.proofs.lemmas.Bool.Decides.{nat_tests}
use Rattle.std.proofs.lemmas.List.Sums.{fails_before_first, passes_at_first}
use Rattle.bridge_cards.specs.declared.suit.Suit.{Suit}
use Rattle.bridge_cards.specs.Trick.{beats, is_or_beats, wins, winning_index}

both : (a b : Bool) → a ≡ true → b ≡ true → (a && b) ≡ true
both true true one other = refl
both true false one other = other
both false b one other = one

module _ (trump : Option Suit) (led : ℕ) where
  abbrev over : ℕ → ℕ → Bool
  over = is_or_beats trump led

  itself : (x : ℕ) → over x x ≡ true
  itself x = ap (λ same. same || beats trump led x x) (eq-eqb x x refl)

  -- what is or beats a card that beats another beats that other too
  beats_more : (x w y : ℕ) → beats trump led x w ≡ true → over w y ≡ true → over x y ≡ true
  beats_more x w y does is = grind (arith, nat_tests)

  over_over : (x w y : ℕ) → over x w ≡ true → over w y ≡ true → over x y ≡ true
  over_over x w y one other = by_test (x == w) refl
    where
      by_test : (same : Bool) → (x == w) ≡ same → over x y ≡ true
      by_test true same = subst (λ n. over n y ≡ true) (sym (eqb-true x w same)) other
      by_test false same = beats_more x w y (sym (ap (λ s. s || beats trump led x w) same) ∙ one) other

  -- a card that the card led does not beat, and that is not beaten, is or beats the other
  not_beaten : (w y : ℕ) → over w led ≡ true → beats trump led y w ≡ false → over w y ≡ true
  not_beaten w y led_too lost = grind (arith, nat_tests)

  beaten_is : (y w : ℕ) → beats trump led y w ≡ true → over y w ≡ true
  beaten_is y w does = by_test (y == w)
    where
      by_test : (same : Bool) → (same || beats trump led y w) ≡ true
      by_test true = refl
      by_test false = does

  -- a card that is or beats each of some cards, of which each has some property
  record IsBest (P : ℕ → Type 0) (first : ℕ) (others : List ℕ) : Type 0 where
    card : ℕ
    has : P card
    first_too : over card first ≡ true
    all : list_all (over card) others ≡ true

  best_of : (P : ℕ → Type 0) (first : ℕ) (others : List ℕ) → over first led ≡ true → P first → AllByRecursion P others → IsBest P first others
  best_of P first [] led_too has each = record { card = first; has = has; first_too = itself first; all = refl }
  best_of P first (next ∷ others) led_too has each =
      by_test (beats trump led next first) refl (λ next_too. best_of P next others next_too each.0 each.1) (best_of P first others led_too has each.1)
    where
      by_test : (does : Bool) → beats trump led next first ≡ does → (over next led ≡ true → IsBest P next others) → IsBest P first others → IsBest P first (next ∷ others)
      by_test true does of_next of_first =
          let is : over next first ≡ true = beaten_is next first does in
          let best = of_next (over_over next first led is led_too) in
          record {
            card = best.card;
            has = best.has;
            first_too = over_over best.card next first best.first_too is;
            all = both (over best.card next) (list_all (over best.card) others) best.first_too best.all;
          }
      by_test false does of_next best =
          let is : over first next ≡ true = not_beaten first next led_too does in
          record {
            card = best.card;
            has = best.has;
            first_too = best.first_too;
            all = both (over best.card next) (list_all (over best.card) others) (over_over best.card first next best.first_too is) best.all;
          }

-- a fact of each index is one of each element
each_by : (P : ℕ → Type 0) (xs : List ℕ) → ((k : ℕ) → k < length xs → P (get_or xs k 0)) → AllByRecursion P xs
each_by P [] each = tt
each_by P (x ∷ xs) each = (each 0 (omega arith), each_by P xs (λ k within. each (suc k) (omega arith)))

abbrev first_winner : Option Suit → List ℕ → ℕ
first_winner trump trick = position_or_len (wins trump trick) trick

-- some card of a trick wins it
won_within : (trump : Option Suit) (trick : List ℕ) → 0 < length trick → first_winner trump trick < length trick
won_within trump [] some = absurd (omega arith)
won_within trump (led ∷ others) some = by_size (cases_lt (first_winner trump (led ∷ others)) (length (led ∷ others)))
  where
    by_size : (first_winner trump (led ∷ others) < length (led ∷ others)) ⊎ (length (led ∷ others) ≤ first_winner trump (led ∷ others)) → first_winner trump (led ∷ others) < length (led ∷ others)
    by_size (inl within) = within
    by_size (inr beyond) =
        let Loses : ℕ → Type 0 = λ card. wins trump (led ∷ others) card ≡ false in
        let each = each_by Loses (led ∷ others) (λ k within. fails_before_first (wins trump (led ∷ others)) (led ∷ others) k 0 (omega (arith, beyond))) in
        let best = best_of trump led Loses led others (itself trump led led) each.0 each.1 in
        let does : wins trump (led ∷ others) best.card ≡ true = both (is_or_beats trump led best.card led) (list_all (is_or_beats trump led best.card) others) best.first_too best.all in
        let not_so = best.has in
        cc

-- so the first that does stands at the winner's index
pub index_is : (trump : Option Suit) (trick : List ℕ) → 0 < length trick → winning_index trump trick ≡ first_winner trump trick
index_is trump trick some =
    ap (λ less. unwrap_or (cond less (Some (first_winner trump trick)) None) 0) (lt-ltb (first_winner trump trick) (length trick) (won_within trump trick some))

pub winner_within : (trump : Option Suit) (trick : List ℕ) → 0 < length trick → winning_index trump trick < length trick
winner_within trump trick some = rw (index_is trump trick some) (won_within trump trick some)

pub winner_wins : (trump : Option Suit) (trick : List ℕ) → 0 < length trick → wins trump trick (get_or trick (winning_index trump trick) 0) ≡ true
winner_wins trump trick some = rw (index_is trump trick some) (passes_at_first (wins trump trick) trick 0 (won_within trump trick some))
