-- Whether sessions can be compared.
use Rattle.std.proofs.Common.{◌≡◌, ◌+◌, ◌<◌, ℕ, Bool, List, length, take, get_or, Option, Some, inl, inr, sym, subst, arith}
use Rattle.std.specs.Bool.{Decides}
use Rattle.std.proofs.lemmas.Bool.{cases_lt}
use Rattle.std.proofs.lemmas.List.Elements.{pair_read}
use Rattle.bridge_cards.specs.Board.{IsBoard}
use Rattle.session_rules.specs.State.{SessionValue, Deals}
use Rattle.event_ranking.specs.declared.field.SectionsRefused.{SectionsRefused}
use Rattle.event_ranking.specs.OneField.{AreSameIfBoth, HaveOneDeal, CanCompare, CanCompareWith, IsField, IsRefusalAt, IsFirstRefusal}

-- two deals that are there
pub both_there : (r : Bool) (ours theirs : Option (List ℕ)) (a b : List ℕ) → ours ≡ Some a → theirs ≡ Some b → Decides r (a ≡ b) → Decides r (AreSameIfBoth ours theirs)
both_there r ours theirs a b first second same =
    subst (λ (o : Option (List ℕ)). Decides r (AreSameIfBoth o theirs)) (sym first)
    (subst (λ (t : Option (List ℕ)). Decides r (AreSameIfBoth (Some a) t)) (sym second) same)

-- one board more
pub boards_more : (ours theirs : Deals) (number board : ℕ) → ((b : ℕ) → IsBoard b → b < number → HaveOneDeal ours theirs b) → board ≡ number → HaveOneDeal ours theirs board →
    (b : ℕ) → IsBoard b → b < number + 1 → HaveOneDeal ours theirs b
boards_more ours theirs number board so_far is here b is_board before =
    elim (cases_lt b number) [
      | inl earlier ↦ so_far b is_board earlier
      | inr last ↦
          let same : board ≡ b = omega (arith, last, before, is) in
          subst (HaveOneDeal ours theirs) same here
    ]

-- one section more
pub with_more : (sections : List SessionValue) (index earlier : ℕ) (x y : SessionValue) → earlier < length sections → index < length sections → x ≡ get_or sections earlier x → y ≡ get_or sections index y →
    CanCompare x y → CanCompareWith sections index earlier → CanCompareWith sections index (earlier + 1)
with_more sections index earlier x y first second at_first at_second can so_far = λ i d before.
    elim (cases_lt i earlier) [
      | inl less ↦ so_far i d less
      | inr last ↦
          let same : earlier ≡ i = omega (arith, last, before) in
          subst (λ k. CanCompare (get_or sections k d) (get_or sections index d)) same
          (pair_read sections CanCompare earlier index x y first second at_first at_second can d)
    ]

-- the first section that is refused, after those that are one field
pub first_refusal : (sections : List SessionValue) (index : ℕ) (refused : SectionsRefused) → index < length sections → IsField (take index sections) → IsRefusalAt sections index refused → IsFirstRefusal sections refused
first_refusal sections index refused within before at = record {
  within = subst (λ i. i < length sections) (sym at.of) within;
  before = subst (λ i. IsField (take i sections)) (sym at.of) before;
  refusal = subst (λ i. IsRefusalAt sections i refused) (sym at.of) at;
}
