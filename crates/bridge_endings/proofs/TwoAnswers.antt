-- What a test of two answers tells.
use Rattle.std.proofs.Common.{◌≡◌, Bool, true, false, not, refl}
use mathlib.Core.Bool.{beq}

pub same_answer : (a b : Bool) → beq a b ≡ true → a ≡ b
same_answer true true same = refl
same_answer true false same = cc
same_answer false true same = cc
same_answer false false same = refl

pub other_answer : (a b : Bool) → beq a b ≡ false → a ≡ not b
other_answer true true other = cc
other_answer true false other = refl
other_answer false true other = refl
other_answer false false other = cc
