-- The lines of plays, one after another.
use Rattle.std.proofs.Common.{◌≡◌, ℕ, ◌+◌, ◌<◌, ◌≤◌, Bool, true, false, List, [], ◌∷◌, ◌++◌, length, get_or, take, Option, Some, None, Result, Ok, Err, OnOk, refl, sym, ap, ◌∙◌, append_assoc, append-nil}
use Rattle.std.specs.Prelude.{flat_map, codes, sum_by, is_some}
use Rattle.std.specs.List.{filter_map, cons_option}
use Rattle.std.specs.Option.{option_to_list}
use Rattle.std.proofs.lemmas.List.{take_more}
use Rattle.std.proofs.lemmas.List.Sums.{count_by-le-length}
use Rattle.std.proofs.lemmas.List.Concat.{flat_map-append}
use Rattle.std.proofs.lemmas.List.Elements.{filter_map-append}
use Rattle.bridge_movement.specs.declared.row.Row.{Row}
use Rattle.session_rules.specs.State.{SessionValue}
use Rattle.line_text.specs.Lines.{lines_text}
use Rattle.line_replies.specs.ReplyTexts.{listed_text}
use Rattle.bridge_results.specs.PlayCells.{line_score}
use Rattle.bridge_results.specs.declared.traveller.BoardLine.{BoardLine}
use Rattle.board_replies.specs.Beside.{score_count}
use Rattle.board_replies.specs.OwnPlays.{OwnPlay, own_plays_in, own_plays}
use Rattle.board_replies.specs.Rulings.{ruled_in, ruled_lines}
use Rattle.board_replies.specs.Told.{own_lines, own_text, others_line}

-- what follows from what holds at Ok holds at Ok
pub then_ok : {A E P Q : Type 0} (r : Result A E) → (P → Q) → OnOk r P → OnOk r Q
then_ok (Ok x) follows holds = follows holds
then_ok (Err e) follows holds = tt

-- the text of two lists of lines
pub lines_append : (xs ys : List (List ℕ)) → lines_text (xs ++ ys) ≡ lines_text xs ++ lines_text ys
lines_append [] ys = refl
lines_append (x ∷ xs) ys =
    ap (λ rest. x ++ 10 ∷ rest) (lines_append xs ys) ∙ sym (append_assoc x (10 ∷ lines_text xs) (lines_text ys))

-- the text of two lists of plays
pub own_append : (s : SessionValue) (is_open : Bool) (xs ys : List OwnPlay) → own_text s is_open (xs ++ ys) ≡ own_text s is_open xs ++ own_text s is_open ys
own_append s is_open xs ys =
    ap lines_text (flat_map-append (own_lines s is_open) xs ys)
    ∙ lines_append (flat_map (own_lines s is_open) xs) (flat_map (own_lines s is_open) ys)

-- a text that is made of a list piece by piece
module _ {X : Type 0} (text : List X → List ℕ) (append : (xs ys : List X) → text (xs ++ ys) ≡ text xs ++ text ys) (empty : text [] ≡ []) where
  -- an element that may be there, before others
  cons : (x : Option X) (xs : List X) → text (cons_option x xs) ≡ text (option_to_list x) ++ text xs
  cons None xs = rw empty refl
  cons (Some x) xs = append (x ∷ []) xs

  -- three elements that may be there
  pub three : (f : ℕ → Option X) (a b c d : List ℕ) → b ≡ a ++ text (option_to_list (f 1)) → c ≡ b ++ text (option_to_list (f 2)) → d ≡ c ++ text (option_to_list (f 3))
      → d ≡ a ++ text (filter_map f (1 ∷ 2 ∷ 3 ∷ []))
  three f a b c d one two last =
      let one_text = λ (x : Option X). text (option_to_list x) in
      let all : text (filter_map f (1 ∷ 2 ∷ 3 ∷ [])) ≡ one_text (f 1) ++ (one_text (f 2) ++ one_text (f 3)) =
      cons (f 1) (cons_option (f 2) (cons_option (f 3) []))
      ∙ ap (λ rest. one_text (f 1) ++ rest) (cons (f 2) (cons_option (f 3) [])
      ∙ ap (λ rest. one_text (f 2) ++ rest) (cons (f 3) [] ∙ ap (λ rest. one_text (f 3) ++ rest) empty ∙ append-nil (one_text (f 3)))) in
      rw (last, two, one, all) (simp append_assoc)

  -- the elements of one row more
  pub one_row_more : (f : Row → List X) (rows : List Row) (i : ℕ) (d : Row) (a b c : List ℕ) → i < length rows → b ≡ a ++ text (flat_map f (take i rows))
      → c ≡ b ++ text (f (get_or rows i d)) → c ≡ a ++ text (flat_map f (take (i + 1) rows))
  one_row_more f rows i d a b c within first second =
      let more : flat_map f (take (i + 1) rows) ≡ flat_map f (take i rows) ++ f (get_or rows i d) =
      ap (flat_map f) (take_more rows i d within)
      ∙ flat_map-append f (take i rows) (get_or rows i d ∷ [])
      ∙ ap (λ last. flat_map f (take i rows) ++ last) (append-nil (f (get_or rows i d))) in
      let texts : text (flat_map f (take (i + 1) rows)) ≡ text (flat_map f (take i rows)) ++ text (f (get_or rows i d)) =
      ap text more ∙ append (flat_map f (take i rows)) (f (get_or rows i d)) in
      rw (second, first, texts) (append_assoc a (text (flat_map f (take i rows))) (text (f (get_or rows i d))))

-- the plays of all rows are those of the pair
pub all_rows : (s : SessionValue) (pair : ℕ) → flat_map (own_plays_in s pair) s.configuration.movement.rows ≡ own_plays s pair
unfolding own_plays
all_rows s pair = refl

-- the rulings of all rows are those of the session
pub all_ruled : (s : SessionValue) → flat_map (ruled_in s) s.configuration.movement.rows ≡ ruled_lines s
unfolding ruled_lines
all_ruled s = refl

-- what stands around lines that are told
pub told_around : (is_open : Bool) (lines : List (List ℕ)) (a b c d : List ℕ) → b ≡ a ++ lines_text (codes "OK" ∷ others_line is_open ∷ []) → c ≡ b ++ lines_text lines
    → d ≡ c ++ codes ".\n" → d ≡ a ++ listed_text (others_line is_open ∷ lines)
told_around true lines a b c d first second last = rw (last, second, first, lines_append lines (codes "." ∷ [])) (simp append_assoc)
told_around false lines a b c d first second last = rw (last, second, first, lines_append lines (codes "." ∷ [])) (simp append_assoc)

-- lines, and one line more
pub lines_then_one : (lines : List (List ℕ)) (line a b c : List ℕ) → b ≡ a ++ lines_text lines → c ≡ b ++ (line ++ 10 ∷ []) → c ≡ a ++ lines_text (lines ++ line ∷ [])
lines_then_one lines line a b c first second =
    second ∙ ap (λ text. text ++ lines_text (line ∷ [])) first ∙ append_assoc a (lines_text lines) (lines_text (line ∷ []))
    ∙ ap (λ text. a ++ text) (sym (lines_append lines (line ∷ [])))

-- no more lines have a score than there are
pub scores_few : (lines : List BoardLine) → sum_by score_count lines ≤ length lines
scores_few lines = count_by-le-length (λ (line : BoardLine). is_some (line_score line.comparison)) lines

-- what stands around the lines of one play
pub listed_around : (lines : List (List ℕ)) (a b c d : List ℕ) → b ≡ a ++ codes "OK\n" → c ≡ b ++ lines_text lines → d ≡ c ++ codes ".\n" → d ≡ a ++ listed_text lines
listed_around lines a b c d first second last =
    rw (last, second, first, lines_append lines (codes "." ∷ [])) (simp append_assoc)

-- the lines of elements that are found, with one element more
pub found_more : {X : Type 0} (f : X → Option (List ℕ)) (xs : List X) (i : ℕ) (d : X) (a b c : List ℕ) → i < length xs → d ≡ get_or xs i d → b ≡ a ++ lines_text (filter_map f (take i xs))
    → c ≡ b ++ lines_text (option_to_list (f d)) → c ≡ a ++ lines_text (filter_map f (take (i + 1) xs))
found_more f xs i d a b c within is first second =
    let last : filter_map f (get_or xs i d ∷ []) ≡ option_to_list (f d) = ap (λ x. filter_map f (x ∷ [])) (sym is) ∙ single (f d) in
    let more : filter_map f (take (i + 1) xs) ≡ filter_map f (take i xs) ++ option_to_list (f d) =
    ap (filter_map f) (take_more xs i d within)
    ∙ filter_map-append f (take i xs) (get_or xs i d ∷ [])
    ∙ ap (λ found. filter_map f (take i xs) ++ found) last in
    second ∙ ap (λ text. text ++ lines_text (option_to_list (f d))) first
    ∙ append_assoc a (lines_text (filter_map f (take i xs))) (lines_text (option_to_list (f d)))
    ∙ ap (λ text. a ++ text) (sym (ap lines_text more ∙ lines_append (filter_map f (take i xs)) (option_to_list (f d))))
  where
    single : (found : Option (List ℕ)) → cons_option found [] ≡ option_to_list found
    single None = refl
    single (Some line) = refl
