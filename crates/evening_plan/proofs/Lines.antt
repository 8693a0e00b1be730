-- Lines that are compared with what they must be.
use Rattle.std.proofs.Common.{◌≡◌, ◌≢◌, ℕ, ◌+◌, ◌-◌, ◌<◌, ◌≤◌, List, [], ◌∷◌, length, get_or, drop, Option, Some, None, refl, sym, ap, ◌∙◌, arith}
use Rattle.std.specs.Prelude.{slice_get}
use Rattle.std.proofs.lemmas.List.{drop_more, drop-drop, length-drop}
use Rattle.std.proofs.lemmas.Option.{slice_get-get_or, slice_get_past}
use Rattle.bridge_config.specs.declared.refused.ConfigRefused.{ConfigRefused}
use Rattle.bridge_config.specs.declared.refused.ConfigRefused.TheVariants.{TooLong, Form, Range, KeyTwice, Movement}
use Rattle.evening_plan.specs.declared.part.Part.{Part}
use Rattle.evening_plan.specs.declared.part.Part.TheVariants.{Name}
use Rattle.evening_plan.specs.declared.part.Check.{Check}
use Rattle.evening_plan.specs.declared.misfit.Misfit.{Misfit}
use Rattle.evening_plan.specs.declared.misfit.Misfit.TheVariants.{Lacking}
use Rattle.evening_plan.specs.Misfit.{first_misfit}
use Rattle.evening_plan.specs.FaultText.{line_fault, fault_by}
use Rattle.evening_plan.specs.Kind.{kind_at}

-- where no word is left for a part, it is lacking
pub word_lacks : (check : Check) (at : ℕ) (previous : List ℕ) (parts : List Part) (i : ℕ) (words : List (List ℕ)) (whole : Option Misfit) → i < length parts → words ≡ [] → first_misfit check at previous (drop i parts) words ≡ whole → Some (Lacking at) ≡ whole
word_lacks check at previous parts i words whole within none judged =
    ap (λ ps. first_misfit check at previous ps []) (sym (drop_more parts i Name within))
    ∙ ap (first_misfit check at previous (drop i parts)) (sym none) ∙ judged

-- the first of the lines that are left
pub line_there : (texts : List (List ℕ)) (n : ℕ) (line : List ℕ) (rest : List (List ℕ)) → drop n texts ≡ line ∷ rest → Some line ≡ slice_get texts n
line_there texts n line rest left =
    let within : n < length texts = omega (arith, ap length left, length-drop n texts) in
    let same : line ≡ get_or texts n line = ap (λ (ls : List (List ℕ)). get_or ls 0 line) (sym left ∙ drop_more texts n line within) in
    ap Some same ∙ sym (slice_get-get_or texts n line within)

-- the lines behind it
pub lines_after : (texts : List (List ℕ)) (n : ℕ) (line : List ℕ) (rest : List (List ℕ)) → drop n texts ≡ line ∷ rest → rest ≡ drop (n + 1) texts
lines_after texts n line rest left = ap (drop 1) (sym left) ∙ drop-drop 1 n texts

-- where no line is left, there is none from there on
pub line_past : (texts : List (List ℕ)) (n i : ℕ) → drop n texts ≡ [] → n ≤ i → None ≡ slice_get texts i
line_past texts n i none least =
    sym (slice_get_past texts i (omega (arith, ap length none, length-drop n texts, least)))

-- of a text that is not too long a line is at fault
pub line_at_fault : (texts : List (List ℕ)) (number : ℕ) (cause : ConfigRefused) → cause ≢ TooLong → line_fault number (slice_get texts (number - 1)) (kind_at texts number) cause ≡ fault_by texts number cause
line_at_fault texts number TooLong other = absurd (other refl)
line_at_fault texts number Form other = refl
line_at_fault texts number Range other = refl
line_at_fault texts number KeyTwice other = refl
line_at_fault texts number (Movement refused) other = refl
