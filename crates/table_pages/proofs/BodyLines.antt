-- The first line of a body, and what stands behind it.
use Rattle.std.proofs.Common.{◌≡◌, ◌≢◌, ℕ, zero, suc, List, [], ◌∷◌, ◌++◌, refl, ap, arith}
use Rattle.std.specs.Prelude.{All}
use Rattle.std.proofs.lemmas.Bool.{ne_eqb}
use Rattle.table_pages.specs.FirstLine.{first_line, behind_line}

-- the bytes after the first
later : (byte : ℕ) (bytes : List ℕ) → All (λ b. b ≢ 10) (byte ∷ bytes) → All (λ b. b ≢ 10) bytes
later byte bytes none k d within = none (suc k) d (omega (arith, within))

-- the first byte
first : (byte : ℕ) (bytes : List ℕ) → All (λ b. b ≢ 10) (byte ∷ bytes) → byte ≢ 10
first byte bytes none = none zero 0 (omega arith)

-- a body whose first line feed is there
pub first_there : (before after : List ℕ) → All (λ b. b ≢ 10) before → first_line (before ++ 10 ∷ after) ≡ before
first_there [] after none = refl
first_there (byte ∷ before) after none =
    rw (ne_eqb byte 10 (first byte before none)) (ap (λ (line : List ℕ). byte ∷ line) (first_there before after (later byte before none)))

pub behind_there : (before after : List ℕ) → All (λ b. b ≢ 10) before → behind_line (before ++ 10 ∷ after) ≡ after
behind_there [] after none = refl
behind_there (byte ∷ before) after none = rw (ne_eqb byte 10 (first byte before none)) (behind_there before after (later byte before none))

-- a body without a line feed
pub first_alone : (body : List ℕ) → All (λ b. b ≢ 10) body → first_line body ≡ body
first_alone [] none = refl
first_alone (byte ∷ body) none =
    rw (ne_eqb byte 10 (first byte body none)) (ap (λ (line : List ℕ). byte ∷ line) (first_alone body (later byte body none)))

pub behind_alone : (body : List ℕ) → All (λ b. b ≢ 10) body → behind_line body ≡ []
behind_alone [] none = refl
behind_alone (byte ∷ body) none = rw (ne_eqb byte 10 (first byte body none)) (behind_alone body (later byte body none))
