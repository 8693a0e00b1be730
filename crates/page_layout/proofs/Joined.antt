-- A text to which parts were added.
use Rattle.std.proofs.Common.{◌≡◌, ℕ, List, ◌++◌, append_assoc}

-- three parts, one after another
pub three_parts : (old x y new a b c : List ℕ) → x ≡ old ++ a → y ≡ x ++ b → new ≡ y ++ c → new ≡ old ++ ((a ++ b) ++ c)
three_parts old x y new a b c first second third = rw (third, second, first) (simp append_assoc)

-- six parts, one after another
pub six_parts : (old r s t u v new a b c d e f : List ℕ) → r ≡ old ++ a → s ≡ r ++ b → t ≡ s ++ c → u ≡ t ++ d → v ≡ u ++ e → new ≡ v ++ f → new ≡ old ++ (((((a ++ b) ++ c) ++ d) ++ e) ++ f)
six_parts old r s t u v new a b c d e f one two three four five six = rw (six, five, four, three, two, one) (simp append_assoc)
