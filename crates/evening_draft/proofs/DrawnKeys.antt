-- Keys that are drawn are distinct, and have nine digits.
use Rattle.std.proofs.Common.{◌≡◌, ℕ, zero, suc, ◌+◌, ◌%◌, ◌^◌, ◌<◌, Bool, true, false, not, ◌||◌, ◌==◌, cond, List, [], ◌∷◌, ◌++◌, take, refl, sym, ap, ◌∙◌, arith}
use Rattle.std.specs.Prelude.{All, nat_lt}
use Rattle.std.specs.List.{list_any}
use Rattle.std.proofs.lemmas.Bool.{and_parts, and_from}
use Rattle.std.proofs.lemmas.List.Elements.{All-nil, All-cons, All-append}
use Rattle.std.proofs.lemmas.Nat.{mod_below}
use Rattle.rand_chacha.specs.ChaCha.{ChaCha, key_of, word_at, next_word}
use Rattle.bridge_config.specs.Limits.{stands_in, are_distinct}
use Rattle.evening_draft.specs.Keys.{HasNineDigits, nine_digits, gives_key, with_word, drawn}

both_false : (x y : Bool) → (x || y) ≡ false → (x ≡ false) × (y ≡ false)
both_false true y h = absurd cc
both_false false y h = (refl, h)

neither : (x y : Bool) → x ≡ false → y ≡ false → (x || y) ≡ false
neither x y h k = rw (h, k) refl

is_not : (x : Bool) → not x ≡ true → x ≡ false
is_not true h = absurd cc
is_not false h = refl

not_of : (x : Bool) → x ≡ false → not x ≡ true
not_of x h = rw h refl

choice : (P : List ℕ → Type 0) (b : Bool) (xs ys : List ℕ) → P ys → (b ≡ true → P xs) → P (cond b xs ys)
choice P true xs ys before after = after refl
choice P false xs ys before after = before

-- one more key is none of them
not_among : (first key : ℕ) (keys : List ℕ) → list_any (λ other. first == other) keys ≡ false → (first == key) ≡ false →
    list_any (λ other. first == other) (keys ++ (key ∷ [])) ≡ false
not_among first key [] none other = rw other refl
not_among first key (k ∷ keys) none other =
    let parts = both_false (first == k) _ none in
    neither (first == k) _ parts.0 (not_among first key keys parts.1 other)

-- one more key that does not stand among distinct ones
distinct_push : (keys : List ℕ) (key : ℕ) → are_distinct keys ≡ true → stands_in keys key ≡ false →
    are_distinct (keys ++ (key ∷ [])) ≡ true
distinct_push [] key distinct new = refl
distinct_push (k ∷ keys) key distinct new =
    let parts = and_parts (not (list_any (λ other. k == other) keys)) (are_distinct keys) distinct in
    let others = both_false (k == key) (stands_in keys key) new in
    and_from _ _ (not_of _ (not_among k key keys (is_not _ parts.0) others.0)) (distinct_push keys key parts.1 others.1)

-- the first of distinct keys are distinct
none_taken : (p : ℕ → Bool) (n : ℕ) (keys : List ℕ) → list_any p keys ≡ false → list_any p (take n keys) ≡ false
none_taken p zero keys none = refl
none_taken p (suc n) [] none = refl
none_taken p (suc n) (k ∷ keys) none =
    let parts = both_false (p k) _ none in
    neither (p k) _ parts.0 (none_taken p n keys parts.1)

pub distinct_take : (n : ℕ) (keys : List ℕ) → are_distinct keys ≡ true → are_distinct (take n keys) ≡ true
distinct_take zero keys distinct = refl
distinct_take (suc n) [] distinct = refl
distinct_take (suc n) (k ∷ keys) distinct =
    let parts = and_parts (not (list_any (λ other. k == other) keys)) (are_distinct keys) distinct in
    and_from _ _ (not_of _ (none_taken (λ other. k == other) n keys (is_not _ parts.0))) (distinct_take n keys parts.1)

digits_nine : (word : ℕ) → HasNineDigits (nine_digits word)
digits_nine word = let below : word % 900000000 < 900000000 = mod_below word 900000000 (omega arith) in (omega arith, omega arith)

-- what holds of keys and of the next holds with one word more
with_word_of : (P : List ℕ → Type 0) (keys : List ℕ) (word : ℕ) → P keys →
    (stands_in keys (nine_digits word) ≡ false → P (keys ++ (nine_digits word ∷ []))) → P (with_word keys word)
with_word_of P keys word before after =
    choice P (gives_key keys word) (keys ++ (nine_digits word ∷ [])) keys before
    (λ gives. after (is_not _ (and_parts (nat_lt word 3600000000) _ gives).1))

pub drawn_distinct : (seed : List ℕ) (words : ℕ) → are_distinct (drawn seed words) ≡ true
unfolding drawn
drawn_distinct seed zero = refl
drawn_distinct seed (suc words) =
    with_word_of (λ keys. are_distinct keys ≡ true) (drawn seed words) (word_at 10 (key_of seed) 0 words)
    (drawn_distinct seed words)
    (distinct_push (drawn seed words) (nine_digits (word_at 10 (key_of seed) 0 words)) (drawn_distinct seed words))

pub drawn_nine : (seed : List ℕ) (words : ℕ) → All HasNineDigits (drawn seed words)
unfolding drawn
drawn_nine seed zero = All-nil HasNineDigits
drawn_nine seed (suc words) =
    let word : ℕ = word_at 10 (key_of seed) 0 words in
    with_word_of (All HasNineDigits) (drawn seed words) word (drawn_nine seed words)
    (λ new. All-append HasNineDigits (drawn seed words) (nine_digits word ∷ []) (drawn_nine seed words)
    (All-cons HasNineDigits (nine_digits word) [] (digits_nine word) (All-nil HasNineDigits)))

-- the generator at that place of the seed's first stream
abbrev pub generator_at : List ℕ → ℕ → ChaCha
generator_at seed place = record { key = key_of seed; stream = 0; word_pos = place }

-- the word that it gives is the one at that place, and then it is at the next
pub next_at : (seed : List ℕ) (n word : ℕ) (g after : ChaCha) → n < 200 → g ≡ generator_at seed n →
    (word, after) ≡ next_word 10 g → (word ≡ word_at 10 (key_of seed) 0 n) × (after ≡ generator_at seed (n + 1))
next_at seed n word g after few at next =
    let there : (word, after) ≡ next_word 10 (generator_at seed n) = next ∙ ap (next_word 10) at in
    let place : (n + 1) % 2 ^ 68 ≡ n + 1 = omega arith in
    (ap (λ (x : ℕ × ChaCha). x.0) there, ap (λ (x : ℕ × ChaCha). x.1) there ∙ ap (generator_at seed) place)

-- the keys of one word more
pub drawn_more : (seed : List ℕ) (n word : ℕ) (keys after : List ℕ) → keys ≡ drawn seed n →
    word ≡ word_at 10 (key_of seed) 0 n → after ≡ with_word keys word → after ≡ drawn seed (n + 1)
unfolding drawn
drawn_more seed n word keys after so_far at more =
    let same : n + 1 ≡ suc n = omega arith in
    more ∙ ap (λ k. with_word k word) so_far ∙ ap (λ w. with_word (drawn seed n) w) at ∙ ap (drawn seed) (sym same)

pub none_drawn : (seed : List ℕ) → [] ≡ drawn seed 0
unfolding drawn
none_drawn seed = refl
