-- A scale: numbers that rise, each of which holds up to the next.
use Rattle.std.proofs.Common.{ℕ, zero, suc, ◌≡◌, ◌+◌, ◌<◌, ◌≤◌, ◌*◌, ◌/◌, ◌↔◌, Bool, true, false, ◌&&◌, leb, List, [], ◌∷◌, length, get_or, count_by, inl, inr, ap, sym, ◌∙◌, cond, refl, arith}
use Rattle.std.specs.Prelude.{map, slice_index_or}
use Rattle.std.specs.List.{range_with_len}
use Rattle.std.proofs.lemmas.Bool.Decides.{leb_tells}
use Rattle.std.proofs.lemmas.Bool.{leb-true, le-leb, lt-leb, and_parts}
use Rattle.std.proofs.lemmas.List.Sums.{sum_by-cons, count_by-le-length}
use Rattle.std.proofs.lemmas.List.FromFn.{get_or-map-range_with_len}
use Rattle.bridge_score.specs.ImpScale.{imp_beginnings, imps_of}

-- none is below the one before it, and the first not below a given number
abbrev pub rises : ℕ → List ℕ → Bool
rises least [] = true
rises least (x ∷ xs) = leb least x && rises x xs

-- how many a number has reached
abbrev pub reached : ℕ → List ℕ → ℕ
reached n xs = count_by (λ x. leb x n) xs

reached-cons : (n x : ℕ) (xs : List ℕ) → reached n (x ∷ xs) ≡ cond (leb x n) 1 0 + reached n xs
reached-cons n x xs = sum_by-cons (λ y. cond (leb y n) 1 0) x xs

reached-cons_yes : (n x : ℕ) (xs : List ℕ) → leb x n ≡ true → reached n (x ∷ xs) ≡ 1 + reached n xs
reached-cons_yes n x xs h = reached-cons n x xs ∙ ap (λ b. cond b 1 0 + reached n xs) h

reached-cons_no : (n x : ℕ) (xs : List ℕ) → leb x n ≡ false → reached n (x ∷ xs) ≡ 0 + reached n xs
reached-cons_no n x xs h = reached-cons n x xs ∙ ap (λ b. cond b 1 0 + reached n xs) h

-- a number below the first has reached none
reached_none : (n least : ℕ) (xs : List ℕ) → n < least → rises least xs ≡ true → reached n xs ≡ 0
reached_none n least [] short up = refl
reached_none n least (x ∷ xs) short up =
    let parts = and_parts (leb least x) (rises x xs) up in
    let least_first : least ≤ x = leb-true least x parts.0 in
    let above : n < x = omega arith in
    let rest = reached_none n x xs above parts.1 in
    elim (leb_tells x n) [
      | inl at ↦ let under : x ≤ n = at.1 in absurd (omega arith)
      | inr below ↦ omega (arith, reached-cons_no n x xs below.0, rest)
    ]

-- a number has reached as many as it is at or above
pub reached_iff : (n least : ℕ) (xs : List ℕ) → rises least xs ≡ true → (k : ℕ) → k < length xs →
    (k < reached n xs) ↔ (get_or xs k 0 ≤ n)
reached_iff n least [] up k within = absurd (omega arith)
reached_iff n least (x ∷ xs) up zero within =
    let parts = and_parts (leb least x) (rises x xs) up in
    elim (leb_tells x n) [
      | inl at ↦ let one = reached-cons_yes n x xs at.0 in (λ _. at.1, λ _. omega (arith, one))
      | inr below ↦
          let above : n < x = below.1 in
          let none = reached-cons_no n x xs below.0 in
          let rest = reached_none n x xs above parts.1 in
          (λ (h : 0 < reached n (x ∷ xs)). absurd (omega (arith, none, rest, h)), λ (h : x ≤ n). absurd (omega (arith, h, above)))
    ]
reached_iff n least (x ∷ xs) up (suc k) within =
    let parts = and_parts (leb least x) (rises x xs) up in
    let later = reached_iff n x xs parts.1 k (omega arith) in
    elim (leb_tells x n) [
      | inl at ↦
          let one = reached-cons_yes n x xs at.0 in (
            λ (h : suc k < reached n (x ∷ xs)). later.0 (omega (arith, one, h)),
            λ (h : get_or xs k 0 ≤ n). let more : k < reached n xs = later.1 h in omega (arith, one, more),
          )
      | inr below ↦
          let above : n < x = below.1 in
          let none = reached-cons_no n x xs below.0 in
          let rest = reached_none n x xs above parts.1 in (
            λ (h : suc k < reached n (x ∷ xs)). absurd (omega (arith, none, rest, h)),
            λ (h : get_or xs k 0 ≤ n). let more : k < reached n xs = later.1 h in absurd (omega (arith, rest, more)),
          )
    ]

-- ten times a number is reached where its tens reach that number
tens_leb : (n x : ℕ) → leb (10 * x) n ≡ leb x (n / 10)
tens_leb n x = elim (leb_tells x (n / 10)) [
  | inl at ↦ let within : x ≤ n / 10 = at.1 in le-leb (10 * x) n (omega arith) ∙ sym at.0
  | inr below ↦ let short : n / 10 < x = below.1 in lt-leb (10 * x) n (omega arith) ∙ sym below.0
]

-- a scale of multiples of ten is reached by the tens
reached_by_tens : (n : ℕ) (xs : List ℕ) → reached n (map (λ x. 10 * x) xs) ≡ reached (n / 10) xs
reached_by_tens n [] = refl
reached_by_tens n (x ∷ xs) =
    reached-cons n (10 * x) (map (λ y. 10 * y) xs)
    ∙ ap (λ b. cond b 1 0 + reached n (map (λ y. 10 * y) xs)) (tens_leb n x)
    ∙ ap (λ k. cond (leb x (n / 10)) 1 0 + k) (reached_by_tens n xs)
    ∙ sym (reached-cons (n / 10) x xs)

-- the beginnings of the IMPs, in tens of points
abbrev beginnings_in_tens : List ℕ
beginnings_in_tens =
    2 ∷ 5 ∷ 9 ∷ 13 ∷ 17 ∷ 22 ∷ 27 ∷ 32 ∷ 37 ∷ 43 ∷ 50 ∷ 60 ∷ 75 ∷ 90 ∷ 110 ∷ 130 ∷ 150 ∷ 175 ∷ 200 ∷ 225 ∷ 250 ∷ 300 ∷ 350
    ∷ 400 ∷ []

-- the IMPs of 0, 10, 20 and so on up to 3,990 points
abbrev pub imps_by_tens : List ℕ
imps_by_tens = map (λ tens. reached tens beginnings_in_tens) (range_with_len 0 400)

pub imps_from_tens : (n : ℕ) → n < 4000 → slice_index_or imps_by_tens (n / 10) 0 ≡ imps_of n
imps_from_tens n below =
    get_or-map-range_with_len (λ tens. reached tens beginnings_in_tens) 0 400 (n / 10) (n / 10) 0 (omega arith) (omega arith)
    ∙ sym (reached_by_tens n beginnings_in_tens)

-- there are 24 beginnings
pub imps_most : (n : ℕ) → imps_of n ≤ 24
imps_most n = count_by-le-length (λ x. leb x n) imp_beginnings
