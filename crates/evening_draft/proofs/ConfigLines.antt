-- The lines of a configuration are short, and have no control characters.
use Rattle.std.proofs.Common.{◌≡◌, ℕ, ◌+◌, ◌/◌, ◌%◌, ◌<◌, ◌≤◌, true, List, [], ◌∷◌, ◌++◌, length, get_or, map, codes, refl, arith}
use Rattle.std.specs.Prelude.{All}
use Rattle.std.specs.Fmt.{decimal}
use Rattle.std.specs.List.{list_all}
use Rattle.std.proofs.lemmas.Bool.{and_parts, and_from}
use Rattle.std.proofs.lemmas.Bool.Decides.{nat_tests}
use Rattle.std.proofs.lemmas.Fmt.{length-decimal-le}
use Rattle.std.proofs.lemmas.List.Elements.{All-nil, All-cons, All-head, All-tail, All-map}
use Rattle.std.proofs.lemmas.Nat.{mod_below, div_below}
use Rattle.line_text.specs.Words.{spaced}
use Rattle.bridge_cards.specs.declared.scoring.Scoring.{Scoring}
use Rattle.bridge_cards.specs.declared.scoring.Scoring.TheVariants.{MatchPoints, Imps}
use Rattle.bridge_movement.specs.declared.row.Row.{Row}
use Rattle.bridge_movement.specs.declared.shape.Shape.{Shape}
use Rattle.bridge_movement.specs.Fair.{IsMovement}
use Rattle.bridge_movement.specs.MovementValue.{MovementValue}
use Rattle.bridge_movement.specs.Shape.{IsShape}
use Rattle.bridge_config.specs.ConfigValue.{ConfigValue, Pair, heading_of, people_of, keys_of, keys_in}
use Rattle.bridge_config.specs.Limits.{is_name, IsConfiguration, IsPair, IsKeyNumber}
use Rattle.bridge_config.specs.Spelling.{scoring_word, heading_lines, mitchell_line, shape_text, row_text, player_words, pair_text, pair_lines, people_lines}
use Rattle.evening_draft.proofs.NameBytes.{name_shown, name_length, date_shown, date_length}
use Rattle.evening_draft.specs.declared.form.MovementForm.{MovementForm}
use Rattle.evening_draft.specs.declared.form.MovementForm.TheVariants.{Mitchell, Rows}
use Rattle.evening_draft.specs.ConfigText.{movement_lines}
use Rattle.evening_draft.proofs.Spelled.{is_shown, IsLine, room, line_of_words, number_shown}

-- what holds of two lists joined holds of each
front_and_rest : {X : Type 0} (P : X → Type 0) (xs ys : List X) → All P (xs ++ ys) → All P xs × All P ys
front_and_rest P [] ys all = (All-nil P, all)
front_and_rest P (x ∷ xs) ys all =
    let rest = front_and_rest P xs ys (All-tail P x (xs ++ ys) all) in
    (All-cons P x xs (All-head P x (xs ++ ys) all) rest.0, rest.1)

-- the line of a keyword and a word
two_words : (most : ℕ) (keyword word : List ℕ) → list_all is_shown keyword ≡ true → list_all is_shown word ≡ true →
    length keyword + length word + 2 ≤ most → IsLine most (spaced (keyword ∷ word ∷ []))
two_words most keyword word shown shown' short =
    let all : room (keyword ∷ word ∷ []) ≡ (length keyword + 1) + ((length word + 1) + 0) = refl in
    line_of_words most (keyword ∷ word ∷ []) (and_from _ _ shown (and_from _ _ shown' refl)) (omega arith)

-- the line of a keyword and five words
six_words : (most : ℕ) (keyword a b c d e : List ℕ) → list_all is_shown keyword ≡ true → list_all is_shown a ≡ true →
    list_all is_shown b ≡ true → list_all is_shown c ≡ true → list_all is_shown d ≡ true → list_all is_shown e ≡ true →
    length keyword + length a + length b + length c + length d + length e + 6 ≤ most →
    IsLine most (spaced (keyword ∷ a ∷ b ∷ c ∷ d ∷ e ∷ []))
six_words most keyword a b c d e k p q r s t short =
    let words : List (List ℕ) = keyword ∷ a ∷ b ∷ c ∷ d ∷ e ∷ [] in
    let all : room words ≡ (length keyword + 1) + ((length a + 1) + ((length b + 1) + ((length c + 1) + ((length d + 1) + ((length e + 1) + 0))))) = refl in
    line_of_words most words
    (and_from _ _ k (and_from _ _ p (and_from _ _ q (and_from _ _ r (and_from _ _ s (and_from _ _ t refl))))))
    (omega arith)

scoring_shown : (scoring : Scoring) → (list_all is_shown (scoring_word scoring) ≡ true) × (length (scoring_word scoring) ≤ 3)
scoring_shown MatchPoints = (refl, omega arith)
scoring_shown Imps = (refl, omega arith)

-- numbers of two digits, and of ten
small_number : (n : ℕ) → n ≤ 99 → (list_all is_shown (decimal n) ≡ true) × (length (decimal n) ≤ 2)
small_number n small = (number_shown n (omega arith), length-decimal-le 2 n (omega arith) (omega arith) (omega arith))

key_number : (n : ℕ) → n ≤ 4294967295 → (list_all is_shown (decimal n) ≡ true) × (length (decimal n) ≤ 10)
key_number n small = (number_shown n (omega arith), length-decimal-le 10 n (omega arith) (omega arith) (omega arith))

-- five small numbers after a keyword of at most eight letters
five_numbers : (keyword : List ℕ) (a b c d e : ℕ) → list_all is_shown keyword ≡ true → length keyword ≤ 8 →
    a ≤ 99 → b ≤ 99 → c ≤ 99 → d ≤ 99 → e ≤ 99 →
    IsLine 40 (spaced (keyword ∷ decimal a ∷ decimal b ∷ decimal c ∷ decimal d ∷ decimal e ∷ []))
five_numbers keyword a b c d e shown short p q r s t =
    let u = small_number a p in
    let v = small_number b q in
    let w = small_number c r in
    let x = small_number d s in
    let y = small_number e t in
    six_words 40 keyword (decimal a) (decimal b) (decimal c) (decimal d) (decimal e) shown u.0 v.0 w.0 x.0 y.0
    (omega (arith, u.1, v.1, w.1, x.1, y.1))

pub heading_short : (configuration : ConfigValue) → IsConfiguration configuration →
    All (IsLine 40) (heading_lines (heading_of configuration))
heading_short c limits =
    let scoring = scoring_shown c.scoring in
    let boards : c.boards ≤ 99 = let within = limits.boards in grind (arith, nat_tests) in
    let number = small_number c.boards boards in
    let site : List ℕ = spaced (codes "SITE" ∷ c.site ∷ []) in
    let date : List ℕ = spaced (codes "DATE" ∷ c.date ∷ []) in
    let scores : List ℕ = spaced (codes "SCORING" ∷ scoring_word c.scoring ∷ []) in
    let sets : List ℕ = spaced (codes "BOARDS" ∷ decimal c.boards ∷ []) in
    All-cons (IsLine 40) (spaced (codes "EVENT" ∷ c.event ∷ [])) (site ∷ date ∷ scores ∷ sets ∷ [])
    (two_words 40 (codes "EVENT") c.event refl (name_shown c.event limits.event) (let l = name_length c.event limits.event in omega arith))
    (All-cons (IsLine 40) site (date ∷ scores ∷ sets ∷ [])
    (two_words 40 (codes "SITE") c.site refl (name_shown c.site limits.site) (let l = name_length c.site limits.site in omega arith))
    (All-cons (IsLine 40) date (scores ∷ sets ∷ [])
    (two_words 40 (codes "DATE") c.date refl (date_shown c.date limits.date_form) (let l = date_length c.date limits.date_form in omega arith))
    (All-cons (IsLine 40) scores (sets ∷ [])
    (two_words 40 (codes "SCORING") (scoring_word c.scoring) refl scoring.0 (omega (arith, scoring.1)))
    (All-cons (IsLine 40) sets []
    (two_words 40 (codes "BOARDS") (decimal c.boards) refl number.0 (omega (arith, number.1)))
    (All-nil (IsLine 40))))))

-- the numbers of a row are small
pub record IsSmall (row : Row) : Type 0 where
  pub round : row.round ≤ 99
  pub table : row.table ≤ 99
  pub ns : row.ns ≤ 99
  pub ew : row.ew ≤ 99
  pub set : row.set ≤ 99

small_rows : (shape : Shape) (rows : List Row) → IsShape shape → IsMovement shape rows → All IsSmall rows
small_rows shape rows limits movement k d within =
    let pairs = movement.fair.pairs k d within in
    let set = movement.fair.sets k d within in
    let due = (movement.complete.order k within).1 d in
    let most : shape.pairs ≤ 24 = limits.pairs.1 in
    let sets : shape.sets ≤ 12 = limits.sets.1 in
    let rounds : shape.rounds ≤ 12 = limits.rounds.1 in
    let tables : shape.tables ≤ 12 = limits.tables.1 in
    let some : 0 < shape.tables = omega (arith, limits.tables.0) in
    let column : k % shape.tables < shape.tables = mod_below k shape.tables some in
    let line : k / shape.tables < shape.rounds = div_below k shape.tables shape.rounds some due.0 in
    record {
      round = omega (arith, due.1);
      table = omega (arith, due.2);
      ns = omega (arith, pairs.0);
      ew = omega (arith, pairs.1);
      set = omega (arith, set.1);
    }

row_short : (row : Row) → IsSmall row → IsLine 40 (row_text row)
row_short row small =
    five_numbers (codes "ROW") row.round row.table row.ns row.ew row.set refl (omega arith) small.round small.table small.ns small.ew small.set

shape_short : (shape : Shape) → IsShape shape → IsLine 40 (shape_text shape)
shape_short shape limits =
    five_numbers (codes "MOVEMENT") shape.tables shape.rounds shape.sets shape.pairs shape.split refl (omega arith)
    (omega (arith, limits.tables.1)) (omega (arith, limits.rounds.1)) (omega (arith, limits.sets.1))
    (omega (arith, limits.pairs.1)) (omega (arith, limits.pairs.1, limits.split.1))

pub movement_short : (form : MovementForm) (movement : MovementValue) → IsShape movement.shape →
    IsMovement movement.shape movement.rows → All (IsLine 40) (movement_lines form movement)
movement_short Mitchell m limits is =
    let number = small_number m.shape.tables (omega (arith, limits.tables.1)) in
    All-cons (IsLine 40) (mitchell_line m.shape.tables) []
    (two_words 40 (codes "MITCHELL") (decimal m.shape.tables) refl number.0 (omega (arith, number.1))) (All-nil (IsLine 40))
movement_short Rows m limits is =
    All-cons (IsLine 40) (shape_text m.shape) (map row_text m.rows) (shape_short m.shape limits)
    (All-map (IsLine 40) row_text m.rows (λ k d within. row_short (get_or m.rows k d) (small_rows m.shape m.rows limits is k d within)))

-- the line of a pair, by its two names and keys
two_players : (index : ℕ) (names : List (List ℕ)) (keys : List ℕ) → index ≤ 99 → length names ≡ 2 → length keys ≡ 2 →
    list_all is_name names ≡ true → All IsKeyNumber keys →
    IsLine 100 (spaced (codes "PAIR" ∷ decimal index ∷ player_words names keys))
two_players index (a ∷ b ∷ []) (k ∷ l ∷ []) small two two' named numbers =
    let parts = and_parts (is_name a) _ named in
    let second = and_parts (is_name b) _ parts.1 in
    let n = small_number index small in
    let first_key = key_number k (All-head IsKeyNumber k (l ∷ []) numbers) in
    let second_key = key_number l (All-head IsKeyNumber l [] (All-tail IsKeyNumber k (l ∷ []) numbers)) in
    let long_a = name_length a parts.0 in
    let long_b = name_length b second.0 in
    six_words 100 (codes "PAIR") (decimal index) a (decimal k) b (decimal l) refl n.0 (name_shown a parts.0) first_key.0
    (name_shown b second.0) second_key.0 (omega (arith, n.1, first_key.1, second_key.1, long_a, long_b))
two_players index [] keys small two two' named numbers = absurd cc
two_players index (a ∷ []) keys small two two' named numbers = absurd cc
two_players index (a ∷ b ∷ c ∷ names) keys small two two' named numbers = absurd cc
two_players index (a ∷ b ∷ []) [] small two two' named numbers = absurd cc
two_players index (a ∷ b ∷ []) (k ∷ []) small two two' named numbers = absurd cc
two_players index (a ∷ b ∷ []) (k ∷ l ∷ m ∷ keys) small two two' named numbers = absurd cc

pairs_short : (index : ℕ) (pairs : List Pair) → index + length pairs ≤ 100 → All IsPair pairs →
    All IsKeyNumber (keys_in pairs) → All (IsLine 100) (pair_lines index pairs)
pairs_short index [] few is keys = All-nil (IsLine 100)
pairs_short index (pair ∷ pairs) few is keys =
    let here : IsPair pair = All-head IsPair pair pairs is in
    let parts = front_and_rest IsKeyNumber pair.keys (keys_in pairs) keys in
    let small : index ≤ 99 = omega arith in
    All-cons (IsLine 100) (pair_text index pair) (pair_lines (index + 1) pairs)
    (two_players index pair.names pair.keys small here.two_names here.two_keys here.names parts.0)
    (pairs_short (index + 1) pairs (omega arith) (All-tail IsPair pair pairs is) parts.1)

pub people_short : (configuration : ConfigValue) → IsConfiguration configuration →
    All (IsLine 100) (people_lines (people_of configuration))
people_short c limits =
    let all : All IsKeyNumber (keys_of c) = limits.keys.numbers in
    let director = key_number c.director (All-head IsKeyNumber c.director (keys_in c.pairs) all) in
    let most : c.movement.shape.pairs ≤ 24 = limits.shape.pairs.1 in
    All-cons (IsLine 100) (spaced (codes "DIRECTOR" ∷ decimal c.director ∷ [])) (pair_lines 1 c.pairs)
    (two_words 100 (codes "DIRECTOR") (decimal c.director) refl director.0 (omega (arith, director.1)))
    (pairs_short 1 c.pairs (let count = limits.count in omega arith) limits.pairs
    (All-tail IsKeyNumber c.director (keys_in c.pairs) all))
