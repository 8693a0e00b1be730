-- Tests of the cards of the deck.
use Rattle.std.proofs.Common.{◌≡◌, ℕ, ◌<◌, Bool, true, false, not, ◌&&◌, ◌||◌, cond, List, [], ◌∷◌, filter, map, refl, ap, ◌∙◌, arith, zero-add}
use Rattle.std.specs.List.{list_any, list_all, range_with_len}
use Rattle.std.proofs.lemmas.List.Folds.{list_all_at, Any-from_list_any}
use Rattle.std.proofs.lemmas.List.Sums.{list_all-from_AllPass}
use Rattle.std.proofs.lemmas.List.FromFn.{length-range_with_len, get_or-range_with_len}
use Rattle.bridge_cards.specs.CardSet.{deck}

-- a card of the deck that passes
pub some_such : (p : ℕ → Bool) → list_any p deck ≡ true → (x : ℕ) × (p x ≡ true)
some_such p some = let any = Any-from_list_any p deck some in (any.1, any.4)

-- all do
pub all_cards : (p : ℕ → Bool) → ((card : ℕ) → p card ≡ true) → list_all p deck ≡ true
unfolding deck
all_cards p all = list_all-from_AllPass p (range_with_len 0 52) (λ k d within. all _)

-- one does not
pub not_all_cards : (p : ℕ → Bool) (card : ℕ) → card < 52 → p card ≡ false → list_all p deck ≡ false
unfolding deck
not_all_cards p card inside fails =
    list_all_at p (range_with_len 0 52) card 0 (omega (arith, length-range_with_len 0 52)) (rw (get_or-range_with_len 0 52 card 0 inside, zero-add card) fails)

-- no card passes, so that none is kept
pub filter_none : (p : ℕ → Bool) → ((card : ℕ) → p card ≡ false) → (xs : List ℕ) → filter p xs ≡ []
filter_none p none [] = refl
filter_none p none (x ∷ xs) = ap (λ keep. cond keep (x ∷ filter p xs) (filter p xs)) (none x) ∙ filter_none p none xs

-- tests of what a function makes of the elements that are kept
pub any_kept : (q : ℕ → Bool) (f : ℕ → ℕ) (p : ℕ → Bool) (xs : List ℕ) → list_any q (map f (filter p xs)) ≡ list_any (λ x. p x && q (f x)) xs
any_kept q f p [] = refl
any_kept q f p (x ∷ xs) = one (p x) (any_kept q f p xs)
  where
    one : (keep : Bool) → list_any q (map f (filter p xs)) ≡ list_any (λ y. p y && q (f y)) xs
        → list_any q (map f (cond keep (x ∷ filter p xs) (filter p xs))) ≡ ((keep && q (f x)) || list_any (λ y. p y && q (f y)) xs)
    one true others = ap (λ rest. q (f x) || rest) others
    one false others = others

pub all_kept : (q : ℕ → Bool) (f : ℕ → ℕ) (p : ℕ → Bool) (xs : List ℕ) → list_all q (map f (filter p xs)) ≡ list_all (λ x. not (p x) || q (f x)) xs
all_kept q f p [] = refl
all_kept q f p (x ∷ xs) = one (p x) (all_kept q f p xs)
  where
    one : (keep : Bool) → list_all q (map f (filter p xs)) ≡ list_all (λ y. not (p y) || q (f y)) xs
        → list_all q (map f (cond keep (x ∷ filter p xs) (filter p xs))) ≡ ((not keep || q (f x)) && list_all (λ y. not (p y) || q (f y)) xs)
    one true others = ap (λ rest. q (f x) && rest) others
    one false others = others
