-- The best of some worths is that of others, where each of them is one of the others.
use Rattle.std.proofs.Common.{◌≡◌, ℕ, ◌<◌, ◌≤◌, Bool, true, false, not, ◌&&◌, nat_le, filter, map, refl, sym, ap, ◌∙◌, arith}
use Rattle.std.specs.List.{list_any}
use mathlib.Core.Bool.{beq}
use Rattle.std.proofs.lemmas.Bool.{leb-true, le-leb, and_parts}
use Rattle.bridge_cards.specs.declared.seat.Side.{Side}
use Rattle.bridge_cards.specs.CardSet.{deck}
use Rattle.bridge_endings.specs.Worth.{best}
use Rattle.bridge_endings.specs.Left.{is_sought}
use Rattle.bridge_cards.proofs.SuitHeld.{some_card}
use Rattle.bridge_endings.proofs.Deck.{some_such}
use Rattle.bridge_endings.proofs.Minimax.{best_found, best_none, best_empty}
use Rattle.bridge_endings.proofs.TwoAnswers.{same_answer, other_answer}

-- a test that no card of the deck passes
pub no_such : (p : ℕ → Bool) → ((x : ℕ) → p x ≡ true → x < 52) → list_any p deck ≡ false → (x : ℕ) → p x ≡ false
no_such p inside none x = at (p x) refl
  where
    at : (is : Bool) → p x ≡ is → p x ≡ false
    at true is = let some = some_card p x (inside x is) is in cc
    at false is = is

both : (a b : Bool) → a ≡ true → b ≡ true → (a && b) ≡ true
both true b p q = q
both false b p q = cc

same_needs : (a b : ℕ) → ((need : ℕ) → nat_le need a ≡ nat_le need b) → a ≡ b
same_needs a b same =
    let up : a ≤ b = leb-true a b (sym (same a) ∙ le-leb a a (omega arith)) in
    let down : b ≤ a = leb-true b a (same b ∙ le-leb b b (omega arith)) in
    omega arith

-- f of the cards that pass p, and g of those that pass q
module _ (side : Side) (f g : ℕ → ℕ) (p q : ℕ → Bool) (p_inside : (x : ℕ) → p x ≡ true → x < 52) (q_inside : (x : ℕ) → q x ≡ true → x < 52) (there : (x : ℕ) → p x ≡ true → (y : ℕ) × (q y ≡ true) × (g y ≡ f x)) (back : (y : ℕ) → q y ≡ true → (x : ℕ) × (p x ≡ true) × (f x ≡ g y)) where
  none_back : ((x : ℕ) → p x ≡ false) → (y : ℕ) → q y ≡ false
  none_back none y = at (q y) refl
    where
      at : (is : Bool) → q y ≡ is → q y ≡ false
      at true is = let some = back y is in let never = sym some.1 ∙ none some.0 in cc
      at false is = is

  wanted : ℕ → ℕ → Bool
  wanted need x = p x && beq (nat_le need (f x)) (is_sought side)

  answer : (need x : ℕ) → p x ≡ true → (is : Bool) → list_any (wanted need) deck ≡ is → nat_le need (best side (map f (filter p deck))) ≡ nat_le need (best side (map g (filter q deck)))
  unfolding wanted
  answer need x0 may true some =
      let found = some_such (wanted need) some in
      let x = found.0 in
      let parts = and_parts (p x) (beq (nat_le need (f x)) (is_sought side)) found.1 in
      let is : nat_le need (f x) ≡ is_sought side = same_answer (nat_le need (f x)) (is_sought side) parts.1 in
      let other = there x parts.0 in
      best_found need f p side x (p_inside x parts.0) parts.0 is
      ∙ sym (best_found need g q side other.0 (q_inside other.0 other.1) other.1 (ap (nat_le need) other.2 ∙ is))
  answer need x0 may false none =
      let fails = no_such (wanted need) (λ x passes. p_inside x ((and_parts (p x) (beq (nat_le need (f x)) (is_sought side)) passes).0)) none in
      let against : (x : ℕ) → p x ≡ true → nat_le need (f x) ≡ not (is_sought side) = λ x legal. at x legal (beq (nat_le need (f x)) (is_sought side)) refl (fails x) in
      let other = there x0 may in
      best_none need f p side x0 (p_inside x0 may) may against
      ∙ sym (best_none need g q side other.0 (q_inside other.0 other.1) other.1 (λ y legal. let here = back y legal in ap (nat_le need) (sym here.2) ∙ against here.0 here.1))
    where
      at : (x : ℕ) → p x ≡ true → (is : Bool) → beq (nat_le need (f x)) (is_sought side) ≡ is → (p x && beq (nat_le need (f x)) (is_sought side)) ≡ false → nat_le need (f x) ≡ not (is_sought side)
      at x legal true is fails = let passes = both (p x) (beq (nat_le need (f x)) (is_sought side)) legal is in cc
      at x legal false is fails = other_answer (nat_le need (f x)) (is_sought side) is

  some_or_none : (is : Bool) → list_any p deck ≡ is → best side (map f (filter p deck)) ≡ best side (map g (filter q deck))
  some_or_none true some =
      let first = some_such p some in
      same_needs (best side (map f (filter p deck))) (best side (map g (filter q deck))) (λ need. answer need first.0 first.1 (list_any (wanted need) deck) refl)
  some_or_none false none =
      let empty = no_such p p_inside none in
      best_empty 0 f p side empty ∙ sym (best_empty 0 g q side (none_back empty))

  pub best_same : best side (map f (filter p deck)) ≡ best side (map g (filter q deck))
  best_same = some_or_none (list_any p deck) refl
