-- What each step of a reading found.
use Rattle.std.proofs.Common.{◌≡◌, ◌<◌, ◌≤◌, ◌&&◌, nat_le, ℕ, zero, suc, Bool, true, false, List, [], ◌∷◌, take, drop, get_or, Option, Some, None, ◌⊎◌, if◌then◌else◌, refl, ap, ◌∙◌, arith, inl, inr}
use Rattle.std.specs.Prelude.{option_map, option_and_then}
use Rattle.std.proofs.lemmas.Bool.{leb-true, and_parts}
use Rattle.session_bytes.specs.ActionBytes.{in_range, only_byte, at_end}

-- each number is a byte
abbrev pub AreBytes : List ℕ → Type 0
AreBytes xs = (i : ℕ) → get_or xs i 0 < 256

pub map_is : {A B : Type 0} (f : A → B) (o : Option A) (y : B) → option_map f o ≡ Some y → (x : A) × (o ≡ Some x) × (f x ≡ y)
map_is f None y is = absurd cc
map_is f (Some x) y is = (x, refl, cc)

pub then_is : {A B : Type 0} (f : A → Option B) (o : Option A) (y : B) → option_and_then f o ≡ Some y → (x : A) × (o ≡ Some x) × (f x ≡ Some y)
then_is f None y is = absurd cc
then_is f (Some x) y is = (x, refl, is)

pub if_is : {A : Type 0} (b : Bool) (x y : A) (z : A) → (if b then x else y) ≡ z → ((b ≡ true) × (x ≡ z)) ⊎ ((b ≡ false) × (y ≡ z))
if_is true x y z is = inl (refl, is)
if_is false x y z is = inr (refl, is)

pub in_range_is : (least most number n : ℕ) → in_range least most number ≡ Some n → (number ≡ n) × (least ≤ n) × (n ≤ most)
in_range_is least most number n is =
    elim (if_is (nat_le least number && nat_le number most) (Some number) None (Some n) is) [
      | inl here ↦
          let both = and_parts (nat_le least number) (nat_le number most) here.0 in
          let low = leb-true least number both.0 in
          let high = leb-true number most both.1 in
          let same : number ≡ n = let stated : Some number ≡ Some n = here.1 in cc in
          (same, omega (arith, low, same), omega (arith, high, same))
      | inr other ↦ let none : None ≡ Some n = other.1 in absurd cc
    ]

pub only_is : (bytes : List ℕ) (n : ℕ) → only_byte bytes ≡ Some n → bytes ≡ n ∷ []
only_is [] n is = absurd (let none : None ≡ Some n = is in cc)
only_is (byte ∷ []) n is = let stated : Some byte ≡ Some n = is in let same : byte ≡ n = cc in ap (λ x. x ∷ []) same
only_is (byte ∷ more ∷ rest) n is = absurd (let none : None ≡ Some n = is in cc)

pub end_is : {A : Type 0} (bytes : List ℕ) (x y : A) → at_end bytes x ≡ Some y → (bytes ≡ []) × (x ≡ y)
end_is [] x y is = (refl, let stated : Some x ≡ Some y = is in cc)
end_is (byte ∷ rest) x y is = absurd (let none : None ≡ Some y = is in cc)

-- the last number, in its range
pub last_is : (least most : ℕ) (bytes : List ℕ) (n : ℕ) → option_and_then (in_range least most) (only_byte bytes) ≡ Some n
    → (bytes ≡ n ∷ []) × (least ≤ n) × (n ≤ most)
last_is least most bytes n is =
    let found = then_is (in_range least most) (only_byte bytes) n is in
    let range = in_range_is least most found.0 n found.2 in
    (only_is bytes found.0 found.1 ∙ ap (λ x. x ∷ []) range.0, range.1, range.2)

pub two_bytes : (a b : ℕ) → a < 256 → b < 256 → AreBytes (a ∷ b ∷ [])
two_bytes a b first second zero = first
two_bytes a b first second (suc zero) = second
two_bytes a b first second (suc (suc i)) = omega arith

pub four_bytes : (a b c d : ℕ) → a < 256 → b < 256 → c < 256 → d < 256 → AreBytes (a ∷ b ∷ c ∷ d ∷ [])
four_bytes a b c d first second third fourth zero = first
four_bytes a b c d first second third fourth (suc zero) = second
four_bytes a b c d first second third fourth (suc (suc i)) = two_bytes c d third fourth i

pub front_bytes : (n : ℕ) (xs : List ℕ) → AreBytes xs → AreBytes (take n xs)
front_bytes zero xs are i = omega arith
front_bytes (suc n) [] are i = omega arith
front_bytes (suc n) (x ∷ xs) are zero = are 0
front_bytes (suc n) (x ∷ xs) are (suc i) = front_bytes n xs (λ j. are (suc j)) i

pub back_bytes : (n : ℕ) (xs : List ℕ) → AreBytes xs → AreBytes (drop n xs)
back_bytes zero xs are = are
back_bytes (suc n) [] are = are
back_bytes (suc n) (x ∷ xs) are = back_bytes n xs (λ j. are (suc j))
