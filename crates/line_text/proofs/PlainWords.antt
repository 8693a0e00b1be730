-- Digits have no space.
use Rattle.std.proofs.Common.{◌≡◌, ℕ, Bool, true, false, eqb, List, refl, sym, subst, ◌∙◌}
use Rattle.std.specs.List.{list_all}
use Rattle.std.specs.Char.{is_ascii_digit}
use Rattle.std.proofs.lemmas.Bool.{not_from_false, false≢true, ne_eqb}
use Rattle.line_text.proofs.Ascii.{list_all_weaker}
use Rattle.line_text.proofs.WordLaws.{is_not_space}

-- a test that a space does not pass
pub not_space : (p : ℕ → Bool) → p 32 ≡ false → (b : ℕ) → p b ≡ true → is_not_space b ≡ true
not_space p fails b passes =
    not_from_false (eqb b 32) (ne_eqb b 32 (λ same. false≢true (sym fails ∙ subst (λ (x : ℕ). p x ≡ true) same passes)))

pub digits_are_plain : (digits : List ℕ) → list_all is_ascii_digit digits ≡ true → list_all is_not_space digits ≡ true
digits_are_plain digits all = list_all_weaker is_ascii_digit is_not_space (not_space is_ascii_digit refl) digits all
