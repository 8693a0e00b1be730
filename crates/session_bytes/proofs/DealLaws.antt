-- The deal of a board is read back from its bytes, and only from these.
use Rattle.std.proofs.Common.{◌≡◌, ◌≢◌, IfSome, IfNone, ◌==◌, ℕ, suc, List, [], ◌∷◌, Option, Some, None, if◌then◌else◌, refl, sym, ap, ◌∙◌, subst, arith, inl, inr}
use Rattle.std.proofs.lemmas.Bool.{eqb-true}
use Rattle.bridge_cards.specs.Deal.{is_dealt_out}
use Rattle.session_bytes.specs.ActionBytes.{hands_in}
use Rattle.session_bytes.specs.Parts.{deal_part}
use Rattle.session_bytes.specs.Reading.{dealt_at, deal_at}
use Rattle.session_rules.specs.StateRange.{AreHandsOrNone}
use Rattle.session_rules.specs.Valid.{IsDealOrNone}
use Rattle.session_bytes.proofs.ReadSteps.{AreBytes, then_is, if_is}
use Rattle.session_bytes.proofs.ActionLaws.{hands_is}
use Rattle.session_bytes.proofs.ActionBack.{hands_back}
use Rattle.session_bytes.proofs.Options.{some_is, not_some}

-- what was read is a deal, or none, of these bytes
pub record IsDealOf (bytes : List ℕ) (deal : Option (List ℕ)) : Type 0 where
  pub written : deal_part deal ≡ bytes
  pub dealt : IsDealOrNone deal
  pub hands : AreHandsOrNone deal

dealt_take : (bytes : List ℕ) (deal : Option (List ℕ)) → AreBytes bytes → dealt_at bytes ≡ Some deal → IsDealOf (1 ∷ bytes) deal
dealt_take bytes deal are is =
    let found = then_is (λ hands. if is_dealt_out hands then Some (Some hands) else None) (hands_in bytes) deal is in
    let hands = hands_is bytes found.0 are found.1 in
    elim (if_is (is_dealt_out found.0) (Some (Some found.0)) None (Some deal) found.2) [
      | inl here ↦
          subst (IsDealOf (1 ∷ bytes)) (some_is (Some found.0) deal here.1)
          (record { written = ap (λ xs. 1 ∷ xs) hands.2; dealt = here.0; hands = (hands.0, hands.1) })
      | inr other ↦ absurd (not_some deal other.1)
    ]

deal_take : (bytes : List ℕ) (deal : Option (List ℕ)) → AreBytes bytes → deal_at bytes ≡ Some deal → IsDealOf bytes deal
deal_take [] deal are is = absurd (not_some deal is)
deal_take (kind ∷ []) deal are is =
    elim (if_is (kind == 0) (Some None) _ (Some deal) is) [
      | inl here ↦
          subst (IsDealOf (kind ∷ [])) (some_is None deal here.1)
          (record { written = ap (λ n. n ∷ []) (sym (eqb-true kind 0 here.0)); dealt = tt; hands = tt })
      | inr other ↦ elim (if_is (kind == 1) (dealt_at []) None (Some deal) other.1) [
        | inl here ↦ subst (λ n. IsDealOf (n ∷ []) deal) (sym (eqb-true kind 1 here.0)) (dealt_take [] deal (λ i. are (suc i)) here.1)
        | inr other ↦ absurd (not_some deal other.1)
      ]
    ]
deal_take (kind ∷ byte ∷ rest) deal are is =
    elim (if_is (kind == 1) (dealt_at (byte ∷ rest)) None (Some deal) is) [
      | inl here ↦
          subst (λ n. IsDealOf (n ∷ byte ∷ rest) deal) (sym (eqb-true kind 1 here.0)) (dealt_take (byte ∷ rest) deal (λ i. are (suc i)) here.1)
      | inr other ↦ absurd (not_some deal other.1)
    ]

pub deal_again : (deal : Option (List ℕ)) → IsDealOrNone deal → AreHandsOrNone deal → deal_at (deal_part deal) ≡ Some deal
deal_again None dealt hands = refl
deal_again (Some (n ∷ e ∷ s ∷ w ∷ [])) dealt hands = rw (hands_back (n ∷ e ∷ s ∷ w ∷ []) hands.0 hands.1, dealt) refl
deal_again (Some []) dealt hands = absurd (omega (arith, hands.0))
deal_again (Some (n ∷ [])) dealt hands = absurd (omega (arith, hands.0))
deal_again (Some (n ∷ e ∷ [])) dealt hands = absurd (omega (arith, hands.0))
deal_again (Some (n ∷ e ∷ s ∷ [])) dealt hands = absurd (omega (arith, hands.0))
deal_again (Some (n ∷ e ∷ s ∷ w ∷ more ∷ rest)) dealt hands = absurd (omega (arith, hands.0))

pub deal_written : (bytes : List ℕ) (o : Option (Option (List ℕ))) → AreBytes bytes → o ≡ deal_at bytes → IfSome o (IsDealOf bytes)
deal_written bytes None are is = tt
deal_written bytes (Some deal) are is = deal_take bytes deal are (sym is)

pub deal_other : (bytes : List ℕ) (o : Option (Option (List ℕ))) → o ≡ deal_at bytes
    → IfNone o ((deal : Option (List ℕ)) → IsDealOrNone deal → AreHandsOrNone deal → deal_part deal ≢ bytes)
deal_other bytes None is = λ deal dealt hands same. not_some deal (is ∙ ap deal_at (sym same) ∙ deal_again deal dealt hands)
deal_other bytes (Some deal) is = tt
