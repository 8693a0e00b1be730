-- The movement that is read is spelled so, and the one that is spelled so is read.
use Rattle.std.proofs.Common.{◌≡◌, ℕ, ◌+◌, Bool, true, false, cond, inl, inr, List, [], ◌∷◌, ◌++◌, length, Option, Some, None, Result, Ok, Err, refl, sym, ap, ◌∙◌, subst, arith}
use Rattle.std.specs.Prelude.{codes, map, All}
use Rattle.std.specs.Str.{bytes_eq}
use Rattle.std.proofs.lemmas.List.Elements.{All-head, All-tail}
use Rattle.bridge_movement.specs.declared.row.Row.{Row}
use Rattle.bridge_movement.specs.declared.shape.Shape.{Shape}
use Rattle.bridge_movement.specs.Fair.{IsMovement}
use Rattle.bridge_movement.specs.MovementValue.{MovementValue}
use Rattle.bridge_movement.specs.Shape.{IsShape, row_count}
use Rattle.bridge_config.specs.declared.refused.ConfigFault.{ConfigFault}
use Rattle.bridge_config.specs.Spelling.{mitchell_line, shape_text, row_text, IsMitchell, SpellsMovement}
use Rattle.bridge_config.specs.LineReading.{form_at, number_in, number_line, shape_in, shape_line}
use Rattle.line_text.specs.Words.{words_of, word_after, five_after}
use Rattle.bridge_config.specs.Reading.{due_line, rows_in, Moved, JudgesRows, ReadsShape, ReadsMitchell, ReadsPlan, ReadsMovement}
use Rattle.bridge_config.proofs.LineLaws.{number_takes, number_again}
use Rattle.bridge_config.proofs.FiveWordLaws.{shape_takes, shape_again}
use Rattle.bridge_config.proofs.Steps.{not_ok, IsShort, TakesLines, takes_none, takes_line, number_short, shape_short}
use Rattle.bridge_config.proofs.Rows.{rows_takes, rows_again}
use Rattle.bridge_config.proofs.Movements.{movement_in_bytes, one_mitchell, mitchell_shape_within}

-- lines in front were read as a movement within the limits, and others are left
pub record TakesMovement (texts : List (List ℕ)) (movement : MovementValue) (rest : List (List ℕ)) : Type 0 where
  pub movement_texts : List (List ℕ)
  pub spelled : SpellsMovement movement movement_texts
  pub lines : TakesLines texts movement_texts rest
  pub shape : IsShape movement.shape
  pub rows : IsMovement movement.shape movement.rows

-- a line that was read as a Mitchell movement spells it
mitchell_takes : (line : List ℕ) (rest : List (List ℕ)) (read : Result ℕ ConfigFault) (moved : Moved) →
    number_line 6 (codes "MITCHELL") 2 12 line ≡ read → ReadsMitchell rest read (Ok moved) →
    TakesMovement (line ∷ rest) moved.movement moved.rest
mitchell_takes line rest (Err fault) moved is reads = absurd cc
mitchell_takes line rest (Ok tables) moved is (mitchell, number, left, movement) =
    let one = number_takes 6 2 12 (codes "MITCHELL") line tables (omega arith) is in
    let lines : TakesLines (line ∷ rest) (mitchell_line tables ∷ []) rest =
    takes_line (line ∷ rest) line (mitchell_line tables) rest [] rest refl one.0
    (number_short 6 2 12 (codes "MITCHELL") line tables is) (takes_none rest) in
    record {
      movement_texts = mitchell_line tables ∷ [];
      spelled = inl (tables, mitchell, refl);
      lines = subst (λ (ts : List (List ℕ)). TakesLines (line ∷ rest) (mitchell_line tables ∷ []) ts) (sym left) lines;
      shape = mitchell_shape_within tables moved.movement mitchell;
      rows = movement;
    }

-- lines that were read as a shape and its rows, which are a movement, spell it
judged_takes : (line : List ℕ) (rest : List (List ℕ)) (shape : Shape) (read : Result (List Row × List (List ℕ)) ConfigFault) (moved : Moved) →
    shape_line 6 line ≡ Ok shape → rows_in (row_count shape) 7 rest ≡ read → JudgesRows shape read (Ok moved) →
    TakesMovement (line ∷ rest) moved.movement moved.rest
judged_takes line rest shape (Err fault) moved is rows_are reads = absurd cc
judged_takes line rest shape (Ok rows) moved is rows_are (movement, same) =
    let one = shape_takes 6 line shape is in
    let others = rows_takes (row_count shape) 7 rest rows rows_are in
    subst (λ (m : Moved). TakesMovement (line ∷ rest) m.movement m.rest) (sym same)
    (record {
      movement_texts = shape_text shape ∷ map row_text rows.0;
      spelled = inr refl;
      lines = takes_line (line ∷ rest) line (shape_text shape) rest (map row_text rows.0) rows.1 refl one.0
          (shape_short 6 line shape is) others.lines;
      shape = one.1;
      rows = movement;
    })

-- a line that was read as a shape, and the lines of its rows, spell a movement
shape_takes_rows : (line : List ℕ) (rest : List (List ℕ)) (read : Result Shape ConfigFault) (moved : Moved) →
    shape_line 6 line ≡ read → ReadsShape rest read (Ok moved) → TakesMovement (line ∷ rest) moved.movement moved.rest
shape_takes_rows line rest (Err fault) moved is reads = absurd cc
shape_takes_rows line rest (Ok shape) moved is reads =
    judged_takes line rest shape (rows_in (row_count shape) 7 rest) moved is refl reads

-- the sixth line, in either form, and the lines of its rows spell a movement
plan_takes : (line : List ℕ) (rest : List (List ℕ)) (word : Option (List ℕ)) (moved : Moved) →
    word_after (codes "MITCHELL") (words_of line) ≡ word → ReadsPlan line rest word (Ok moved) →
    TakesMovement (line ∷ rest) moved.movement moved.rest
plan_takes line rest None moved is reads = shape_takes_rows line rest (shape_line 6 line) moved refl reads
plan_takes line rest (Some word) moved is reads =
    mitchell_takes line rest (number_in 6 2 12 (Some word)) moved (ap (number_in 6 2 12) is) reads

-- lines that were read as a movement spell it
pub movement_takes : (texts : List (List ℕ)) (moved : Moved) → ReadsMovement (due_line 6 texts) (Ok moved) →
    TakesMovement texts moved.movement moved.rest
movement_takes [] moved reads = absurd cc
movement_takes (line ∷ rest) moved reads =
    plan_takes line rest (word_after (codes "MITCHELL") (words_of line)) moved refl reads

-- the movement was read, and those lines are left
abbrev pub Moves : MovementValue → List (List ℕ) → Result Moved ConfigFault → Type 0
Moves movement rest moved =
    (number : ℕ) × (moved ≡ Ok (record { movement = movement; number = number; rest = rest }))

-- equal movements with equal lines left are read alike
same_moved : (movement movement' : MovementValue) (number : ℕ) (rest rest' : List (List ℕ)) → movement ≡ movement' → rest ≡ rest' →
    ◌≡◌ {A = Moved} (record { movement = movement; number = number; rest = rest }) (record { movement = movement'; number = number; rest = rest' })
same_moved movement movement' number rest rest' p q = cc

-- a Mitchell movement of that many tables is read as the one that is spelled
mitchell_read : (tables : ℕ) (movement : MovementValue) (rest : List (List ℕ)) (moved : Result Moved ConfigFault) →
    IsMitchell tables movement → ReadsMitchell rest (Ok tables) moved → Moves movement rest moved
mitchell_read tables movement rest (Err fault) mitchell reads = absurd reads
mitchell_read tables movement rest (Ok moved) mitchell (same, number, left, is_movement) = (
  moved.number,
  ap (λ (m : Moved). Ok m)
      (same_moved moved.movement movement moved.number moved.rest rest (one_mitchell tables moved.movement movement same mitchell) left),
)

-- a number of tables after `MITCHELL` is read as the Mitchell movement
mitchell_again : (line : List ℕ) (tables : ℕ) (movement : MovementValue) (rest : List (List ℕ)) (word : Option (List ℕ)) (moved : Result Moved ConfigFault) →
    IsMitchell tables movement → number_in 6 2 12 word ≡ Ok tables → ReadsPlan line rest word moved → Moves movement rest moved
mitchell_again line tables movement rest None moved mitchell is reads = not_ok (Moves movement rest moved) (form_at 6) tables is
mitchell_again line tables movement rest (Some word) moved mitchell is reads =
    mitchell_read tables movement rest moved mitchell
    (subst (λ (read : Result ℕ ConfigFault). ReadsMitchell rest read moved) is reads)

-- nothing, whichever way a test goes
either_none : {A : Type 0} (b : Bool) → ◌≡◌ {A = Option A} (cond b None None) None
either_none true = refl
either_none false = refl

-- a line that is read as a shape has more words than a Mitchell movement's
more_words : (keyword other : List ℕ) (words : List (List ℕ)) (shape : Shape) → shape_in 6 (five_after keyword words) ≡ Ok shape →
    word_after other words ≡ None
more_words keyword other [] shape e = refl
more_words keyword other (a ∷ []) shape e = either_none (bytes_eq a other)
more_words keyword other (a ∷ b ∷ []) shape e =
    not_ok (word_after other (a ∷ b ∷ []) ≡ None) (form_at 6) shape (sym (ap (shape_in 6) (either_none (bytes_eq a keyword))) ∙ e)
more_words keyword other (a ∷ b ∷ c ∷ words) shape e = either_none (bytes_eq a other)

-- rows that are a movement are judged to be one
rows_read : (movement : MovementValue) (rest : List (List ℕ)) (moved : Result Moved ConfigFault) →
    IsMovement movement.shape movement.rows → JudgesRows movement.shape (Ok (movement.rows, rest)) moved →
    Moves movement rest moved
rows_read movement rest (Err fault) rows (refused, no_movement, refusal, is) = absurd (no_movement rows)
rows_read movement rest (Ok moved) rows (judged, is) =
    (7 + row_count movement.shape, ap (λ (m : Moved). Ok m) is)

-- the lines of a shape and of its rows, which are a movement, are read as it
shape_again_rows : (movement : MovementValue) (rest : List (List ℕ)) (moved : Result Moved ConfigFault) →
    All IsShort (shape_text movement.shape ∷ map row_text movement.rows) → IsShape movement.shape →
    IsMovement movement.shape movement.rows →
    ReadsMovement (Ok (shape_text movement.shape, map row_text movement.rows ++ rest)) moved → Moves movement rest moved
shape_again_rows movement rest moved short limits rows reads =
    let line : List ℕ = shape_text movement.shape in
    let texts : List (List ℕ) = map row_text movement.rows in
    let one : shape_line 6 line ≡ Ok movement.shape =
    shape_again 6 line movement.shape (All-head IsShort line texts short) limits refl in
    let none : word_after (codes "MITCHELL") (words_of line) ≡ None =
    more_words (codes "MOVEMENT") (codes "MITCHELL") (words_of line) movement.shape one in
    let others : rows_in (length movement.rows) 7 (texts ++ rest) ≡ Ok (movement.rows, rest) =
    rows_again 7 movement.rows rest (All-tail IsShort line texts short) (movement_in_bytes movement.shape movement.rows limits rows) in
    let counted : rows_in (row_count movement.shape) 7 (texts ++ rest) ≡ Ok (movement.rows, rest) =
    ap (λ (n : ℕ). rows_in n 7 (texts ++ rest)) (sym rows.complete.count) ∙ others in
    let plan : ReadsShape (texts ++ rest) (shape_line 6 line) moved =
    subst (λ (word : Option (List ℕ)). ReadsPlan line (texts ++ rest) word moved) none reads in
    let judged : JudgesRows movement.shape (rows_in (row_count movement.shape) 7 (texts ++ rest)) moved =
    subst (λ (read : Result Shape ConfigFault). ReadsShape (texts ++ rest) read moved) one plan in
    rows_read movement rest moved rows
    (subst (λ (read : Result (List Row × List (List ℕ)) ConfigFault). JudgesRows movement.shape read moved) counted judged)

-- lines that spell a movement are read as it
pub movement_again : (movement : MovementValue) (texts rest : List (List ℕ)) (moved : Result Moved ConfigFault) →
    SpellsMovement movement texts → All IsShort texts → IsShape movement.shape → IsMovement movement.shape movement.rows →
    ReadsMovement (due_line 6 (texts ++ rest)) moved → Moves movement rest moved
movement_again movement texts rest moved (inl (tables, mitchell, is)) short limits rows reads =
    let line : List ℕ = mitchell_line tables in
    let short' : All IsShort (line ∷ []) = subst (λ (ts : List (List ℕ)). All IsShort ts) is short in
    let reads' : ReadsMovement (Ok (line, rest)) moved =
    subst (λ (ts : List (List ℕ)). ReadsMovement (due_line 6 (ts ++ rest)) moved) is reads in
    let one : number_line 6 (codes "MITCHELL") 2 12 line ≡ Ok tables =
    number_again 6 2 12 (codes "MITCHELL") line tables (omega arith) (All-head IsShort line [] short') refl
    mitchell.tables_within.0 mitchell.tables_within.1 refl in
    mitchell_again line tables movement rest (word_after (codes "MITCHELL") (words_of line)) moved mitchell one reads'
movement_again movement texts rest moved (inr is) short limits rows reads =
    shape_again_rows movement rest moved (subst (λ (ts : List (List ℕ)). All IsShort ts) is short) limits rows
    (subst (λ (ts : List (List ℕ)). ReadsMovement (due_line 6 (ts ++ rest)) moved) is reads)
