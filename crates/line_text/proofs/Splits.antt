-- The parts of a text that a byte separates.
use Rattle.std.proofs.Common.{◌≡◌, ◌≢◌, ℕ, ◌==◌, true, false, cond, List, [], ◌∷◌, get_or, refl, ap}
use Rattle.std.specs.Prelude.{All}
use Rattle.std.specs.List.{slice_split, onto_first}
use Rattle.std.proofs.lemmas.Bool.{ne_eqb}

-- where no byte is the separator, each fails the test for it
pub none_separates : (separator : ℕ) (text : List ℕ) → All (λ byte. byte ≢ separator) text → All (λ byte. (byte == separator) ≡ false) text
none_separates separator text none k d within = ne_eqb (get_or text k d) separator (none k d within)

-- a text has a part at least
pub some_part : (separator : ℕ) (text : List ℕ) → (part : List ℕ) × (parts : List (List ℕ)) × (slice_split (λ b. b == separator) text ≡ part ∷ parts)
some_part separator [] = ([], [], refl)
some_part separator (byte ∷ text) = elim (byte == separator) as (λ b. (part : List ℕ) × (parts : List (List ℕ)) × (cond b ([] ∷ slice_split (λ b. b == separator) text) (onto_first byte (slice_split (λ b. b == separator) text)) ≡ part ∷ parts)) [
  | true ↦ ([], slice_split (λ b. b == separator) text, refl)
  | false ↦ let rest = some_part separator text in (byte ∷ rest.0, rest.1, ap (onto_first byte) rest.2)
]
