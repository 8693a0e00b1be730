-- Numbers and texts are read back from the front of bytes.
use Rattle.std.proofs.Common.{◌≡◌, ◌<◌, ◌^◌, ℕ, List, [], ◌∷◌, ◌++◌, length, map, take, drop, All, refl, ap, subst, ◌∙◌}
use Rattle.std.proofs.Math.Seq.{take-append_seam, drop-append_seam}
use Rattle.std.proofs.lemmas.Nat.{from_be_bytes-to_be_bytes_4, from_be_bytes-to_be_bytes_8}
use Rattle.std.proofs.lemmas.List.Elements.{All-head, All-tail}
use Rattle.session_bytes.specs.Parts.{text_bytes, four_bytes, eight_bytes}
use Rattle.session_bytes.specs.PartsRead.{text_in, after_text, key_in, hand_at_front}

module _ {X : Type 0} where
  -- the part before a seam, and the part behind it
  pub take_front : (n : ℕ) (xs ys : List X) → length xs ≡ n → take n (xs ++ ys) ≡ xs
  take_front n xs ys long = subst (λ k. take k (xs ++ ys) ≡ xs) long (take-append_seam xs ys)

  pub drop_front : (n : ℕ) (xs ys : List X) → length xs ≡ n → drop n (xs ++ ys) ≡ ys
  drop_front n xs ys long = subst (λ k. drop k (xs ++ ys) ≡ ys) long (drop-append_seam xs ys)

  -- what is written element by element is read back, where each element is
  pub all_back : {Y : Type 0} (write : X → Y) (read : Y → X) (xs : List X) → All (λ x. read (write x) ≡ x) xs → map read (map write xs) ≡ xs
  all_back write read [] back = refl
  all_back write read (x ∷ xs) back =
      ap (λ y. y ∷ map read (map write xs)) (All-head (λ z. read (write z) ≡ z) x xs back)
      ∙ ap (λ ys. x ∷ ys) (all_back write read xs (All-tail (λ z. read (write z) ≡ z) x xs back))

-- a text, and what comes after it
pub text_back : (text rest : List ℕ) → text_in (text_bytes text ++ rest) ≡ text
text_back text rest = take-append_seam text rest

pub after_back : (text rest : List ℕ) → after_text (text_bytes text ++ rest) ≡ rest
after_back text rest = drop-append_seam text rest

-- a key and a hand
pub key_back : (key : ℕ) (rest : List ℕ) → key < 2 ^ 32 → key_in (four_bytes key ++ rest) ≡ key
key_back key rest small = from_be_bytes-to_be_bytes_4 key small

pub hand_back : (hand : ℕ) (rest : List ℕ) → hand < 2 ^ 64 → hand_at_front (eight_bytes hand ++ rest) ≡ hand
hand_back hand rest small = from_be_bytes-to_be_bytes_8 hand small
