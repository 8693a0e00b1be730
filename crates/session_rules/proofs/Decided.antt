-- Facts of which it is known whether they hold.
use Rattle.std.proofs.Common.{◌≡◌, ◌<◌, ◌≤◌, ℕ, zero, suc, Bool, true, false, List, [], ◌∷◌, Option, Some, None, All, AllPairs, IfSome, ◌⊎◌, inl, inr, refl, ap, subst, ◌∙◌, arith}
use Rattle.std.specs.Prelude.{slice_get}
use Rattle.std.proofs.lemmas.Bool.{cases_lt, cases_eq}
use Rattle.std.proofs.lemmas.List.Elements.{All-nil, All-cons, All-head, All-tail}
use Rattle.std.proofs.lemmas.List.Kept.{AllPairs-cons}

-- the fact holds, or it does not
abbrev pub Decided : Type 0 → Type 0
Decided P = P ⊎ (¬ P)

module _ {P Q : Type 0} where
  -- a fact that holds just where another does
  pub decided_like : Decided P → (P → Q) → (Q → P) → Decided Q
  decided_like (inl holds) there back = inl (there holds)
  decided_like (inr fails) there back = inr (λ other. fails (back other))

  -- both of two facts
  pub decided_both : Decided P → Decided Q → Decided (P × Q)
  decided_both (inl one) (inl other) = inl (one, other)
  decided_both (inl one) (inr fails) = inr (λ both. fails both.1)
  decided_both (inr fails) other = inr (λ both. fails both.0)

  -- one of two facts
  pub decided_either : Decided P → Decided Q → Decided (P ⊎ Q)
  decided_either (inl one) other = inl (inl one)
  decided_either (inr fails) (inl other) = inl (inr other)
  decided_either (inr fails) (inr fails_too) = inr (λ either. elim either [ inl one ↦ fails one | inr other ↦ fails_too other ])

  -- a fact that follows from another
  pub decided_implies : Decided P → Decided Q → Decided (P → Q)
  decided_implies (inr fails) other = inl (λ one. absurd (fails one))
  decided_implies (inl one) (inl other) = inl (λ _. other)
  decided_implies (inl one) (inr fails) = inr (λ follows. fails (follows one))

module _ {P : Type 0} where
  -- that a fact does not hold
  pub decided_not : Decided P → Decided (¬ P)
  decided_not (inl holds) = inr (λ fails. fails holds)
  decided_not (inr fails) = inl fails

-- whether two numbers are the same
pub decided_equal : (a b : ℕ) → Decided (a ≡ b)
decided_equal a b = cases_eq a b

-- whether a number is less than another
pub decided_less : (a b : ℕ) → Decided (a < b)
decided_less a b = elim (cases_lt a b) [ inl less ↦ inl less | inr least ↦ inr (λ less. omega arith) ]

-- whether a number is at most another
pub decided_most : (a b : ℕ) → Decided (a ≤ b)
decided_most a b = elim (cases_lt b a) [ inl less ↦ inr (λ most. omega arith) | inr least ↦ inl least ]

-- whether a test passes
pub decided_true : (test : Bool) → Decided (test ≡ true)
decided_true true = inl refl
decided_true false = inr (λ same. cc)

-- whether a test fails
pub decided_false : (test : Bool) → Decided (test ≡ false)
decided_false false = inl refl
decided_false true = inr (λ same. cc)

module _ {X : Type 0} where
  -- whether there is no value
  pub decided_none : (found : Option X) → Decided (found ≡ None)
  decided_none None = inl refl
  decided_none (Some x) = inr (λ same. cc)

  -- whether a list is empty
  pub decided_empty : (xs : List X) → Decided (xs ≡ [])
  decided_empty [] = inl refl
  decided_empty (x ∷ xs) = inr (λ same. cc)

  -- whether two lists are the same, where their elements can be compared
  pub decided_lists : ((x y : X) → Decided (x ≡ y)) → (xs ys : List X) → Decided (xs ≡ ys)
  decided_lists same [] [] = inl refl
  decided_lists same [] (y ∷ ys) = inr (λ e. cc)
  decided_lists same (x ∷ xs) [] = inr (λ e. cc)
  decided_lists same (x ∷ xs) (y ∷ ys) =
      decided_like (decided_both (same x y) (decided_lists same xs ys))
      (λ both. ap (λ z. z ∷ xs) both.0 ∙ ap (λ zs. y ∷ zs) both.1) (λ e. (cc, cc))

  -- what holds of the value, if there is one
  pub decided_found : (P : X → Type 0) → ((x : X) → Decided (P x)) → (found : Option X) → Decided (IfSome found P)
  decided_found P each None = inl tt
  decided_found P each (Some x) = each x

  -- what holds of each element
  pub decided_all : (P : X → Type 0) → ((x : X) → Decided (P x)) → (xs : List X) → Decided (All P xs)
  decided_all P each [] = inl (All-nil P)
  decided_all P each (x ∷ xs) =
      decided_like (decided_both (each x) (decided_all P each xs))
      (λ both. All-cons P x xs both.0 both.1) (λ all. (All-head P x xs all, All-tail P x xs all))

  -- what holds of each element and each later one
  pub decided_pairs : (R : X → X → Type 0) → ((x y : X) → Decided (R x y)) → (xs : List X) → Decided (AllPairs R xs)
  decided_pairs R each [] = inl (λ i j d less within. absurd (omega arith))
  decided_pairs R each (x ∷ xs) =
      decided_like (decided_both (decided_all (R x) (each x) xs) (decided_pairs R each xs))
      (λ both. AllPairs-cons R x xs both.0 both.1)
      (λ all. (λ k d within. all 0 (suc k) d (omega arith) (omega arith), λ i j d less within. all (suc i) (suc j) d (omega arith) (omega arith)))

  -- what holds of each element at its index
  pub decided_indexes : (P : ℕ → X → Type 0) → ((k : ℕ) (x : X) → Decided (P k x)) → (xs : List X)
      → Decided ((k : ℕ) (x : X) → slice_get xs k ≡ Some x → P k x)
  decided_indexes P each [] = inl (λ k x same. absurd cc)
  decided_indexes P each (y ∷ ys) =
      decided_like (decided_both (each 0 y) (decided_indexes (λ k. P (suc k)) (λ k. each (suc k)) ys)) there (λ all. (all 0 y refl, λ k x same. all (suc k) x same))
    where
      there : P 0 y × ((k : ℕ) (x : X) → slice_get ys k ≡ Some x → P (suc k) x) → (k : ℕ) (x : X) → slice_get (y ∷ ys) k ≡ Some x → P k x
      there both zero x same = let e : y ≡ x = cc in subst (P 0) e both.0
      there both (suc k) x same = both.1 k x same
