-- The parts of a text before and after its first space.
use Rattle.std.proofs.Common.{◌≡◌, ◌≢◌, ℕ, zero, suc, List, [], ◌∷◌, ◌++◌, Option, Some, None, refl, ap, arith}
use Rattle.std.specs.Prelude.{All}
use Rattle.std.specs.Option.{option_map}
use Rattle.std.proofs.lemmas.Bool.{ne_eqb}
use Rattle.desk_replies.specs.Asked.{parted}

-- the bytes after the first
later : (byte : ℕ) (bytes : List ℕ) → All (λ b. b ≢ 32) (byte ∷ bytes) → All (λ b. b ≢ 32) bytes
later byte bytes none k d within = none (suc k) d (omega (arith, within))

-- the first byte
first : (byte : ℕ) (bytes : List ℕ) → All (λ b. b ≢ 32) (byte ∷ bytes) → byte ≢ 32
first byte bytes none = none zero 0 (omega arith)

-- a text whose first space is there
pub parted_there : (before after : List ℕ) → All (λ b. b ≢ 32) before → parted (before ++ 32 ∷ after) ≡ Some (before, after)
parted_there [] after none = refl
parted_there (byte ∷ before) after none =
    rw (ne_eqb byte 32 (first byte before none))
    (ap (λ (found : Option (List ℕ × List ℕ)). option_map (λ (parts : List ℕ × List ℕ). (byte ∷ parts.0, parts.1)) found) (parted_there before after (later byte before none)))

-- a text without a space
pub parted_nowhere : (text : List ℕ) → All (λ b. b ≢ 32) text → parted text ≡ None
parted_nowhere [] none = refl
parted_nowhere (byte ∷ text) none =
    rw (ne_eqb byte 32 (first byte text none))
    (ap (λ (found : Option (List ℕ × List ℕ)). option_map (λ (parts : List ℕ × List ℕ). (byte ∷ parts.0, parts.1)) found) (parted_nowhere text (later byte text none)))
