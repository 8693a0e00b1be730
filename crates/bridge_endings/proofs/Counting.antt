-- Counts of cards: under other names, and of those that are small and those that count.
use Rattle.std.proofs.Common.{◌≡◌, ℕ, zero, suc, ◌+◌, ◌<◌, ◌≤◌, ◌⊎◌, inl, inr, Bool, true, false, not, ◌&&◌, ◌||◌, ◌==◌, count_by, refl, sym, ap, ◌∙◌, arith}
use Rattle.std.specs.List.{list_any}
use Rattle.std.proofs.Math.Path.{fun_ext}
use Rattle.std.proofs.lemmas.Bool.{cases_eq, eqb-true, eq-eqb, ne_eqb, and_parts}
use Rattle.bridge_cards.specs.declared.seat.Seat.{Seat}
use Rattle.bridge_cards.specs.Card.{same_suit}
use Rattle.bridge_cards.specs.CardSet.{deck}
use Rattle.bridge_cards.proofs.CardCounts.{count_either, count_by-without}
use Rattle.bridge_cards.proofs.SuitHeld.{some_card}
use Rattle.bridge_endings.specs.Agree.{is_small}
use Rattle.bridge_endings.proofs.Deck.{some_such}
use Rattle.bridge_endings.proofs.Partners.{some_counted, none_counted, counted_card}

both : (a b : Bool) → a ≡ true → b ≡ true → (a && b) ≡ true
both true b p q = q
both false b p q = cc

-- no more cards pass than there are places for them
pub count_within : (k a : ℕ) (p : ℕ → Bool) → a + k ≤ 52 → ((x : ℕ) → p x ≡ true → (a ≤ x) × (x < a + k)) → count_by p deck ≤ k
count_within zero a p few each = at (list_any p deck) refl
  where
    at : (is : Bool) → list_any p deck ≡ is → count_by p deck ≤ 0
    at true is = let some = some_such p is in let where_is = each some.0 some.1 in absurd (omega (arith, where_is.0, where_is.1))
    at false is = omega (arith, none_counted p deck is)
count_within (suc k) a p few each = at (count_within k a (λ x. p x && not (x == a + k)) (omega (arith, few)) less) (p (a + k)) refl
  where
    less : (x : ℕ) → (p x && not (x == a + k)) ≡ true → (a ≤ x) × (x < a + k)
    less x has =
        let its = and_parts (p x) (not (x == a + k)) has in
        let where_is = each x its.0 in
        (where_is.0, below x where_is.1 (cases_eq x (a + k)) its.1)
      where
        below : (x : ℕ) → x < a + suc k → (x ≡ a + k) ⊎ (x ≡ a + k → ⊥) → not (x == a + k) ≡ true → x < a + k
        below x within (inl same) differs = let never = sym (ap not (eq-eqb x (a + k) same)) ∙ differs in cc
        below x within (inr differ) differs = omega (arith, within, differ)

    gone : p (a + k) ≡ false → (x : ℕ) (is : Bool) → (x == a + k) ≡ is → p x ≡ (p x && not (x == a + k))
    gone none x true is = ap p (eqb-true x (a + k) is) ∙ none ∙ sym (ap (λ b. b && not (x == a + k)) (ap p (eqb-true x (a + k) is) ∙ none))
    gone none x false is = sym (ap (λ b. p x && not b) is ∙ and_true (p x))
      where
        and_true : (b : Bool) → (b && true) ≡ b
        and_true true = refl
        and_true false = refl

    at : count_by (λ x. p x && not (x == a + k)) deck ≤ k → (is : Bool) → p (a + k) ≡ is → count_by p deck ≤ suc k
    at rest true is = omega (arith, rest, count_by-without p (λ x. p x && not (x == a + k)) (a + k) (omega (arith, few)) is (λ x. refl))
    at rest false is = omega (arith, rest, ap (λ r. count_by r deck) (fun_ext {B = λ _. Bool} (λ x. gone is x (x == a + k) refl)))

-- as many cards pass under other names
pub count_named : (n : ℕ) (name : ℕ → ℕ) (p q : ℕ → Bool) → ((x : ℕ) → p x ≡ true → x < 52) → ((y : ℕ) → q y ≡ true → y < 52) → ((x : ℕ) → p x ≡ true → q (name x) ≡ true) → ((y : ℕ) → q y ≡ true → (x : ℕ) × (p x ≡ true) × (name x ≡ y)) → ((x y : ℕ) → p x ≡ true → p y ≡ true → name x ≡ name y → x ≡ y) → count_by p deck ≡ n → count_by q deck ≡ n
count_named zero name p q p_inside q_inside there back one is = at (list_any q deck) refl
  where
    at : (some : Bool) → list_any q deck ≡ some → count_by q deck ≡ 0
    at true some =
        let y = some_such q some in
        let x = back y.0 y.1 in
        absurd (omega (arith, is, some_counted p deck (some_card p x.0 (p_inside x.0 x.1) x.1)))
    at false none = none_counted q deck none
count_named (suc n) name p q p_inside q_inside there back one is =
    let first = counted_card p (omega (arith, is)) in
    let x = first.0 in
    let fewer = count_by-without p (λ y. p y && not (y == x)) x (p_inside x first.1) first.1 (λ y. refl) in
    let fewer_too = count_by-without q (λ y. q y && not (y == name x)) (name x) (q_inside (name x) (there x first.1)) (there x first.1) (λ y. refl) in
    omega (
      arith,
      fewer_too,
      count_named n name (λ y. p y && not (y == x)) (λ y. q y && not (y == name x))
          (λ y has. p_inside y ((and_parts (p y) (not (y == x)) has).0))
          (λ y has. q_inside y ((and_parts (q y) (not (y == name x)) has).0))
          (λ y has. let its = and_parts (p y) (not (y == x)) has in both (q (name y)) (not (name y == name x)) (there y its.0) (other_name y x its.0 first.1 its.1))
          (λ y has. let its = and_parts (q y) (not (y == name x)) has in let old = back y its.0 in (old.0, both (p old.0) (not (old.0 == x)) old.1 (other_card old.0 x y old.2 its.1), old.2))
          (λ y z has has_too same. one y z ((and_parts (p y) (not (y == x)) has).0) ((and_parts (p z) (not (z == x)) has_too).0) same)
          (omega (arith, fewer, is)),
    )
  where
    other_name : (y x : ℕ) → p y ≡ true → p x ≡ true → not (y == x) ≡ true → not (name y == name x) ≡ true
    other_name y x has has_x differs = at (cases_eq (name y) (name x))
      where
        at : (name y ≡ name x) ⊎ (name y ≡ name x → ⊥) → not (name y == name x) ≡ true
        at (inl same) = let never = sym (ap not (eq-eqb y x (one y x has has_x same))) ∙ differs in cc
        at (inr differ) = ap not (ne_eqb (name y) (name x) differ)

    other_card : (old x y : ℕ) → name old ≡ y → not (y == name x) ≡ true → not (old == x) ≡ true
    other_card old x y named differs = at (cases_eq old x)
      where
        at : (old ≡ x) ⊎ (old ≡ x → ⊥) → not (old == x) ≡ true
        at (inl same) = let never = sym (ap not (eq-eqb y (name x) (sym named ∙ ap name same))) ∙ differs in cc
        at (inr differ) = ap not (ne_eqb old x differ)

-- ---- the lengths of suits

parts : (has suited counts : Bool) → (has && suited) ≡ ((has && (suited && not counts)) || (has && (suited && counts)))
parts false suited counts = refl
parts true false counts = refl
parts true true true = refl
parts true true false = refl

apart : (has suited counts : Bool) → ((has && (suited && not counts)) && (has && (suited && counts))) ≡ false
apart false suited counts = refl
apart true false counts = refl
apart true true true = refl
apart true true false = refl

-- the cards of a suit are small or count
pub count_parts : (hand counts : ℕ → Bool) (led : ℕ) → count_by (λ c. hand c && same_suit c led) deck ≡ count_by (is_small hand counts led) deck + count_by (λ c. hand c && (same_suit c led && counts c)) deck
count_parts hand counts led =
    count_either (is_small hand counts led) (λ c. hand c && (same_suit c led && counts c)) (λ c. hand c && same_suit c led)
    (λ c. parts (hand c) (same_suit c led) (counts c))
    (λ c. apart (hand c) (same_suit c led) (counts c)) deck

module _ (counts : ℕ → Bool) (held other : Seat → ℕ → Bool) (high : (seat : Seat) (card : ℕ) → counts card ≡ true → held seat card ≡ other seat card) where
  same_counted : (seat : Seat) (led card : ℕ) (is : Bool) → counts card ≡ is → (held seat card && (same_suit card led && counts card)) ≡ (other seat card && (same_suit card led && counts card))
  same_counted seat led card true is = ap (λ b. b && (same_suit card led && counts card)) (high seat card is)
  same_counted seat led card false is =
      ap (λ b. held seat card && (same_suit card led && b)) is ∙ none (held seat card) (same_suit card led)
      ∙ sym (ap (λ b. other seat card && (same_suit card led && b)) is ∙ none (other seat card) (same_suit card led))
    where
      none : (a b : Bool) → (a && (b && false)) ≡ false
      none true true = refl
      none true false = refl
      none false b = refl

  pub counted_alike : (seat : Seat) (led : ℕ) → count_by (λ c. held seat c && (same_suit c led && counts c)) deck ≡ count_by (λ c. other seat c && (same_suit c led && counts c)) deck
  counted_alike seat led = ap (λ p. count_by p deck) (fun_ext {B = λ _. Bool} (λ card. same_counted seat led card (counts card) refl))
