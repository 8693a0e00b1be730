-- A search that goes on: what was said of its trump suit stays true.
use Rattle.std.proofs.Common.{◌≡◌, ℕ, Option, Some, None, IsNone, IsSome, IfSome, refl, ◌∙◌, subst, arith}
use Rattle.bridge_cards.specs.declared.suit.Suit.{Suit}
use Rattle.bridge_endings.specs.declared.search.Search.{Search}
use Rattle.bridge_endings.specs.SearchValue.{GoesOn}

pub goes_on_again : (old between new : Search) → GoesOn old between → GoesOn between new → GoesOn old new
goes_on_again old between new first second = record {
  trump = second.trump ∙ first.trump;
  tried = omega (arith, first.tried, second.tried);
  limit = second.limit ∙ first.limit;
}

-- what is true of the trump suit now was true before
pub told_before : (old new : Search) (P : Option Suit → Type 0) → GoesOn old new → P new.trump → P old.trump
told_before old new P later now = subst P later.trump now

-- what is true of an answer, if there is one
pub if_told : {A : Type 0} (P Q : A → Type 0) → ((answer : A) → P answer → Q answer) → (told : Option A) → IfSome told P → IfSome told Q
if_told P Q then None is = tt
if_told P Q then (Some answer) is = then answer is

-- a search without a limit comes to an answer
pub told_in_the_end : {A : Type 0} (limit : Option ℕ) (told : Option A) → limit ≡ None → (IsNone told → IsSome limit) → IsSome told
told_in_the_end limit None endless ended = let never : IsSome {T = ℕ} None = subst (λ limit. IsSome limit) endless (ended refl) in cc
told_in_the_end limit (Some answer) endless ended = refl

-- the answer that there is
pub unwrapped : {A : Type 0} (P : A → Type 0) (told : Option A) (answer : A) → told ≡ Some answer → IfSome told P → P answer
unwrapped P told answer is holds = subst (λ o. IfSome o P) is holds
