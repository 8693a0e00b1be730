-- What is judged of four hands, and of the text that states them.
use Rattle.std.proofs.Common.{◌≡◌, ℕ, List, Option, Some, IfSome, Result, Ok, Err, IsOk, All, subst, sym, refl, ap, ◌∙◌, arith}
use Rattle.bridge_cards.specs.declared.deal.BadDeal.{BadDeal}
use Rattle.bridge_cards.specs.declared.deal.BadDeal.TheVariants.{Form, Twice, NotThirteen}
use Rattle.bridge_cards.specs.CardSet.{card_count}
use Rattle.bridge_cards.specs.Deal.{NoneTwice, SomeTwice}
use Rattle.bridge_cards.specs.DealText.{SpellsDeal}
use Rattle.bridge_cards.specs.BadDeal.{JudgesHands, JudgesDealText}

not_twice : (hands : List ℕ) → NoneTwice hands → SomeTwice hands → ⊥
not_twice hands once twice = omega (arith, once twice.0, twice.1)

-- hands of 13 cards each, none of them in two, are a deal
pub judged_ok : (hands : List ℕ) (judged : Result (List ℕ) BadDeal) → JudgesHands hands judged → NoneTwice hands → All (λ hand. card_count hand ≡ 13) hands → IsOk judged
judged_ok hands (Ok deal) is once each = refl
judged_ok hands (Err Form) is once each = absurd is
judged_ok hands (Err Twice) is once each = absurd (not_twice hands once is)
judged_ok hands (Err NotThirteen) is once each = absurd (is.1.4 (ap card_count (sym is.1.3) ∙ each is.1.0 is.1.1 is.1.2))

-- what is said of the hands that a text states is said of the text
pub judged_text : (text hands : List ℕ) (judged : Result (List ℕ) BadDeal) (found : Option (List ℕ)) → found ≡ Some hands → IfSome found (λ h. SpellsDeal h text) → JudgesHands hands judged → JudgesDealText text judged
judged_text text hands judged found is spells judges =
    cases judged judges
  where
    spelled : SpellsDeal hands text
    spelled = subst (λ x. IfSome x (λ h. SpellsDeal h text)) is spells

    cases : (judged : Result (List ℕ) BadDeal) → JudgesHands hands judged → JudgesDealText text judged
    cases (Ok deal) is = (subst (λ h. SpellsDeal h text) (sym is.0) spelled, is.1)
    cases (Err Form) is = absurd is
    cases (Err Twice) is = (hands, spelled, is)
    cases (Err NotThirteen) is = (hands, spelled, is)
