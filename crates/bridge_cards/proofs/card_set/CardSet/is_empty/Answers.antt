use Rattle.std.proofs.Common.{◌≡◌, ℕ, Bool, false, nat_eq, IsTrue, MatchBool, ◌⊎◌, inl, inr, sym, ap, ◌∙◌, subst, arith}
use Rattle.std.proofs.lemmas.Bool.{cases_eq, eq-eqb, ne_eqb}
use Rattle.bridge_cards.specs.CardSet.{IsCardSet, has_card}
use Rattle.bridge_cards.proofs.CardSetLaws.{has_card-zero}
use Rattle.bridge_cards.proofs.CardBits.{some_card}
use Rattle.bridge_cards.proofs.card_set.CardSet.is_empty.Goals as goal

abbrev TellsEmpty : ℕ → Bool → Type 0
TellsEmpty cards empty = MatchBool empty ((card : ℕ) → has_card cards card ≡ false) ((card : ℕ) × IsTrue (has_card cards card))

zero_tells : (bits : ℕ) → IsCardSet bits → (bits ≡ 0) ⊎ (bits ≡ 0 → ⊥) → TellsEmpty bits (nat_eq bits 0)
zero_tells bits set (inl e) =
    subst (TellsEmpty bits) (sym (eq-eqb bits 0 e)) (λ card. ap (λ n. has_card n card) e ∙ has_card-zero card)
zero_tells bits set (inr ne) = subst (TellsEmpty bits) (sym (ne_eqb bits 0 ne)) (some_card bits set (omega arith))

pub returns-clause-cards : goal.returns-clause-cards
returns-clause-cards c =
    let bits = c.self.inside.bits in
    subst (λ n. TellsEmpty n (nat_eq bits 0)) c.self.view_is (zero_tells bits c.self.invariant (cases_eq bits 0))
