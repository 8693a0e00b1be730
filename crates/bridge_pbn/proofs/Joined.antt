-- Lines and games, one after another.
use Rattle.std.proofs.Common.{◌≡◌, ℕ, Bool, true, false, List, [], ◌∷◌, ◌++◌, refl, sym, ap, ◌∙◌, append_assoc, append-nil, arith}
use Rattle.std.specs.Prelude.{◌==◌, flat_map, length, if◌then◌else◌, Option}
use Rattle.std.proofs.lemmas.Bool.{eq-eqb, ne_eqb}
use Rattle.std.proofs.lemmas.List.Concat.{flat_map-append}
use Rattle.line_text.specs.Streams.{between, TakesPrefix}
use Rattle.line_text.proofs.Streams.{takes_prefix, prefix_longer}
use Rattle.std.specs.Io.KnownBytes.{Appends}
use Rattle.std.proofs.KnownBytes.{Appends-trans}
use Rattle.line_text.specs.Lines.{lines_text, parted}
use Rattle.line_text.specs.Words.{spaced}
use Rattle.bridge_pbn.specs.Written.{games_after, has_begun}

-- the text of two lists of lines
pub lines_append : (xs ys : List (List ℕ)) → lines_text (xs ++ ys) ≡ lines_text xs ++ lines_text ys
lines_append [] ys = refl
lines_append (x ∷ xs) ys =
    ap (λ rest. x ++ 10 ∷ rest) (lines_append xs ys) ∙ sym (append_assoc x (10 ∷ lines_text xs) (lines_text ys))

-- one line more
pub lines_more : (xs : List (List ℕ)) (x : List ℕ) → lines_text (xs ++ x ∷ []) ≡ lines_text xs ++ (x ++ 10 ∷ [])
lines_more xs x = lines_append xs (x ∷ [])

-- what stands between words and one more
abbrev pub gap : List (List ℕ) → List ℕ
gap [] = []
gap (word ∷ words) = 32 ∷ []

pub gap_of : (words : List (List ℕ)) (n : ℕ) → length words ≡ n → gap words ≡ (if n == 0 then [] else 32 ∷ [])
gap_of [] n is = rw (eq-eqb n 0 (sym is)) refl
gap_of (word ∷ words) n is = rw (ne_eqb n 0 (λ none. omega (arith, is, none))) refl

-- words with single spaces between, and one word more
pub spaced_more : (words : List (List ℕ)) (word : List ℕ) → spaced (words ++ word ∷ []) ≡ (spaced words ++ gap words) ++ word
spaced_more [] word = refl
spaced_more (x ∷ []) word = sym (append_assoc x (32 ∷ []) word)
spaced_more (x ∷ y ∷ words) word =
    let before : List ℕ = spaced (y ∷ words) in
    ap (λ rest. x ++ 32 ∷ rest) (spaced_more (y ∷ words) word)
    ∙ sym (append_assoc x (32 ∷ (before ++ 32 ∷ [])) word)
    ∙ ap (λ front. front ++ word) (sym (append_assoc x (32 ∷ before) (32 ∷ [])))

-- parted lists, one after another: the later ones begin with the separator where others stand before them
parted_append : {A : Type 0} (s : A) (x : List A) (xs ys : List (List A)) → parted s (x ∷ xs ++ ys) ≡ parted s (x ∷ xs) ++ flat_map (λ list. s ∷ list) ys
parted_append s x xs ys =
    ap (λ rest. x ++ rest) (flat_map-append (λ list. s ∷ list) xs ys) ∙ sym (append_assoc x (flat_map (λ list. s ∷ list) xs) (flat_map (λ list. s ∷ list) ys))

-- games, one after another
pub games_append : (begun : Bool) (xs ys : List (List (List ℕ))) → games_after begun (xs ++ ys) ≡ games_after begun xs ++ games_after (has_begun begun xs) ys
games_append true xs ys = flat_map-append (λ game. [] ∷ game) xs ys
games_append false [] ys = refl
games_append false (x ∷ xs) ys = parted_append [] x xs ys

pub begun_append : (begun : Bool) (xs ys : List (List (List ℕ))) → has_begun begun (xs ++ ys) ≡ has_begun (has_begun begun xs) ys
begun_append true xs ys = refl
begun_append false [] ys = refl
begun_append false (x ∷ xs) ys = refl

text_append : (begun : Bool) (xs ys : List (List (List ℕ))) → lines_text (games_after begun (xs ++ ys)) ≡ lines_text (games_after begun xs) ++ lines_text (games_after (has_begun begun xs) ys)
text_append begun xs ys = ap lines_text (games_append begun xs ys) ∙ lines_append (games_after begun xs) (games_after (has_begun begun xs) ys)

-- games that are written after others are written
pub written_more : (a b c : Option (List ℕ)) (begun now later : Bool) (xs ys : List (List (List ℕ))) → Appends a b (lines_text (games_after begun xs)) → now ≡ has_begun begun xs → Appends b c (lines_text (games_after now ys)) × (later ≡ has_begun now ys) → Appends a c (lines_text (games_after begun (xs ++ ys))) × (later ≡ has_begun begun (xs ++ ys))
written_more a b c begun now later xs ys taken is second =
    let after = rw is at second in
    rw (text_append begun xs ys, begun_append begun xs ys)
    (Appends-trans a b c (lines_text (games_after begun xs)) (lines_text (games_after (has_begun begun xs) ys)) taken after.0, after.1)

-- and a prefix of them, where more would come after them
pub written_prefix : (a b c : Option (List ℕ)) (begun now : Bool) (xs ys zs : List (List (List ℕ))) → Appends a b (lines_text (games_after begun xs)) → now ≡ has_begun begun xs → TakesPrefix (between b c) (lines_text (games_after now ys)) → TakesPrefix (between a c) (lines_text (games_after begun ((xs ++ ys) ++ zs)))
written_prefix a b c begun now xs ys zs taken is second =
    let after = rw is at second in
    rw (text_append begun (xs ++ ys) zs, text_append begun xs ys)
    (prefix_longer a c (lines_text (games_after begun xs) ++ lines_text (games_after (has_begun begun xs) ys)) (lines_text (games_after (has_begun begun (xs ++ ys)) zs))
    (takes_prefix a b c (lines_text (games_after begun xs)) (lines_text (games_after (has_begun begun xs) ys)) taken after))

-- one game, after an empty line where a game stands before it
pub game_after : (begun : Bool) (game : List (List ℕ)) → lines_text (if begun then [] ∷ [] else []) ++ lines_text game ≡ lines_text (games_after begun (game ∷ []))
game_after true game = ap (λ lines. 10 ∷ lines_text lines) (sym (append-nil game))
game_after false game = ap lines_text (sym (append-nil game))
