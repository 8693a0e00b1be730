-- Lines, one after another.
use Rattle.std.proofs.Common.{◌≡◌, ℕ, ◌+◌, ◌<◌, List, [], ◌∷◌, ◌++◌, length, get_or, take, Result, Ok, Err, OnOk, refl, sym, ap, ◌∙◌, append_assoc, append-nil}
use Rattle.std.specs.Prelude.{flat_map, codes}
use Rattle.std.proofs.lemmas.List.{take_more}
use Rattle.std.proofs.lemmas.List.Concat.{flat_map-append}
use Rattle.line_text.specs.Lines.{lines_text}
use Rattle.line_replies.specs.ReplyTexts.{spaced_line, listed_text}

-- what follows from what holds at Ok holds at Ok
pub then_ok : {A E P Q : Type 0} (r : Result A E) → (P → Q) → OnOk r P → OnOk r Q
then_ok (Ok x) follows holds = follows holds
then_ok (Err e) follows holds = tt

-- the text of two lists of lines
pub lines_append : (xs ys : List (List ℕ)) → lines_text (xs ++ ys) ≡ lines_text xs ++ lines_text ys
lines_append [] ys = refl
lines_append (x ∷ xs) ys =
    ap (λ rest. x ++ 10 ∷ rest) (lines_append xs ys) ∙ sym (append_assoc x (10 ∷ lines_text xs) (lines_text ys))

-- two lists of lines that were added
pub two_added : (xs ys : List (List ℕ)) (a b c : List ℕ) → b ≡ a ++ lines_text xs → c ≡ b ++ lines_text ys → c ≡ a ++ lines_text (xs ++ ys)
two_added xs ys a b c first second = rw (second, first, lines_append xs ys) (append_assoc a (lines_text xs) (lines_text ys))

-- three lists of lines that were added
pub three_added : (xs ys zs : List (List ℕ)) (a b c d : List ℕ) → a ≡ [] → b ≡ a ++ lines_text xs → c ≡ b ++ lines_text ys → d ≡ c ++ lines_text zs → d ≡ lines_text (xs ++ (ys ++ zs))
three_added xs ys zs a b c d empty one two three =
    rw (three, two, one, empty, lines_append xs (ys ++ zs), lines_append ys zs) (append_assoc (lines_text xs) (lines_text ys) (lines_text zs))

-- three lists of lines that were added to a text
pub three_more : (xs ys zs : List (List ℕ)) (a b c d : List ℕ) → b ≡ a ++ lines_text xs → c ≡ b ++ lines_text ys → d ≡ c ++ lines_text zs → d ≡ a ++ lines_text (xs ++ (ys ++ zs))
three_more xs ys zs a b c d one two three =
    two_added xs (ys ++ zs) a b d one (two_added ys zs b c d two three)

-- and four
pub four_more : (ws xs ys zs : List (List ℕ)) (a b c d e : List ℕ) → b ≡ a ++ lines_text ws → c ≡ b ++ lines_text xs → d ≡ c ++ lines_text ys → e ≡ d ++ lines_text zs
    → e ≡ a ++ lines_text (ws ++ (xs ++ (ys ++ zs)))
four_more ws xs ys zs a b c d e one two three four =
    two_added ws (xs ++ (ys ++ zs)) a b e one (three_more xs ys zs b c d e two three four)

-- a line of a word that is another
pub line_of : (first word other a b : List ℕ) → word ≡ other → b ≡ a ++ lines_text (spaced_line first (word ∷ []) ∷ []) → b ≡ a ++ lines_text (spaced_line first (other ∷ []) ∷ [])
line_of first word other a b same is = is ∙ ap (λ w. a ++ lines_text (spaced_line first (w ∷ []) ∷ [])) same

-- what stands around some lines
pub listed_all : (xs : List (List ℕ)) (a b c d : List ℕ) → b ≡ a ++ codes "OK\n" → c ≡ b ++ lines_text xs → d ≡ c ++ codes ".\n" → d ≡ a ++ listed_text xs
listed_all xs a b c d one two three = rw (three, two, one, lines_append xs (codes "." ∷ [])) (simp append_assoc)

-- what stands around a line and others
pub listed_more : (x : List ℕ) (xs : List (List ℕ)) (a b c d e more : List ℕ) → b ≡ a ++ codes "OK\n" → c ≡ b ++ (x ++ 10 ∷ []) → more ≡ lines_text xs → d ≡ c ++ more
    → e ≡ d ++ codes ".\n" → e ≡ a ++ listed_text (x ∷ xs)
listed_more x xs a b c d e more one two is three four =
    rw (four, three, is, two, one, lines_append (x ∷ xs) (codes "." ∷ [])) (simp append_assoc)

-- what stands around a line and two lists of others
pub listed_both : (x : List ℕ) (xs ys : List (List ℕ)) (a b c d e f more : List ℕ) → b ≡ a ++ codes "OK\n" → c ≡ b ++ (x ++ 10 ∷ []) → d ≡ c ++ lines_text xs → more ≡ lines_text ys
    → e ≡ d ++ more → f ≡ e ++ codes ".\n" → f ≡ a ++ listed_text (x ∷ (xs ++ ys))
listed_both x xs ys a b c d e f more one two three is four five =
    listed_more x (xs ++ ys) a b c e f (lines_text (xs ++ ys)) one two refl (two_added xs ys c d e three (four ∙ ap (λ (l : List ℕ). d ++ l) is)) five

-- the lines of one element more
pub one_more : {X : Type 0} (lines : X → List (List ℕ)) (all : List X) (i : ℕ) (d : X) (a b c : List ℕ) → i < length all → b ≡ a ++ lines_text (flat_map lines (take i all))
    → c ≡ b ++ lines_text (lines (get_or all i d)) → c ≡ a ++ lines_text (flat_map lines (take (i + 1) all))
one_more lines all i d a b c within first second =
    let more : flat_map lines (take (i + 1) all) ≡ flat_map lines (take i all) ++ lines (get_or all i d) =
    ap (flat_map lines) (take_more all i d within)
    ∙ flat_map-append lines (take i all) (get_or all i d ∷ [])
    ∙ ap (λ last. flat_map lines (take i all) ++ last) (append-nil (lines (get_or all i d))) in
    two_added (flat_map lines (take i all)) (lines (get_or all i d)) a b c first second ∙ ap (λ l. a ++ lines_text l) (sym more)
