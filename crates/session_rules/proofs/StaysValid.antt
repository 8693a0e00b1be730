-- Sessions stay valid: the opening, and a change of one record.
use Rattle.std.proofs.Common.{◌≡◌, ◌≢◌, ◌+◌, ◌*◌, ◌/◌, ◌<◌, ◌≤◌, ℕ, List, [], ◌∷◌, length, Option, Some, None, refl, sym, ap, ◌∙◌, subst, arith, inl, inr, ◌⊎◌, length-set, replicate}
use Rattle.std.specs.Prelude.{All, map, slice_get, slice_set, unwrap_or}
use Rattle.std.specs.Option.{option_map}
use Rattle.std.proofs.lemmas.Bool.{cases_eq}
use Rattle.std.proofs.lemmas.List.{length-replicate, get_or-replicate, get_or-set_same, get_or-set_other}
use Rattle.std.proofs.lemmas.Option.{slice_get-map, slice_get_cases, slice_get_within, slice_get_past, slice_get-get_or, get_or_from_slice_get}
use Rattle.bridge_score.specs.declared.Scoring.{Scoring}
use Rattle.bridge_config.specs.ConfigValue.{ConfigValue}
use Rattle.bridge_config.specs.Limits.{IsConfiguration}
use Rattle.bridge_movement.specs.declared.row.Row.{Row}
use Rattle.session_rules.specs.Record.{PlainRecord, empty_record}
use Rattle.session_rules.specs.State.{SessionValue, opening, opening_row, row_at, row_boards, changed_at}
use Rattle.session_rules.specs.Valid.{board_of, IsValidRecord, IsDealOrNone, IsValid}
use Rattle.session_rules.proofs.Lists.{changed_at-Some, changed_at-None, map-changed_at}

-- The opening

-- an element of the list that was mapped
pub mapped_from : {A B : Type 0} (f : A → B) (xs : List A) (i : ℕ) (y : B) → slice_get (map f xs) i ≡ Some y → (x : A) × (slice_get xs i ≡ Some x) × (f x ≡ y)
mapped_from {A} {B} f xs i y is =
    elim (slice_get_cases xs i).1 [
      | inl (x, within, found, read) ↦
          let same : Some (f x) ≡ Some y = sym (slice_get-map f xs i ∙ ap (option_map f) found) ∙ is in
          (x, found, cc)
      | inr (past, none) ↦
          let wrong : ◌≡◌ {A = Option B} None (Some y) = sym (slice_get-map f xs i ∙ ap (option_map f) none) ∙ is in absurd cc
    ]

pub none_of : {A : Type 0} (i : ℕ) (x : A) → slice_get [] i ≡ Some x → ⊥
none_of {A} i x is = let within = slice_get_within {A = A} [] i x is in absurd (omega arith)

-- nothing has happened in a new record of the current round or a later one
empty_valid : (scoring : Scoring) (deals : List (Option (List ℕ))) (round board : ℕ) → 1 ≤ round → IsValidRecord scoring deals 1 round (empty_record board)
empty_valid scoring deals round board least = record {
  calls = λ row_index call is. absurd (none_of row_index call is);
  dealt = λ none. refl;
  unplayed = λ none. let few : 0 ≤ 99 = omega arith in record { cards = refl; claims = few; claim = refl };
  play = tt;
  ruled = tt;
  later = λ less. refl;
  earlier = λ less. absurd (omega arith);
}

row_of_empty : (boards : ℕ) (rows : List Row) (row_index : ℕ) (row : Row) → slice_get rows row_index ≡ Some row → row_at (map (opening_row boards) rows) row_index ≡ opening_row boards row
row_of_empty boards rows row_index row is =
    ap (λ o. unwrap_or o []) (slice_get-map (opening_row boards) rows row_index ∙ ap (option_map (opening_row boards)) is)

boards_of_empty : (boards : List ℕ) → map board_of (map empty_record boards) ≡ boards
boards_of_empty [] = refl
boards_of_empty (board ∷ boards) = ap (λ rest. board ∷ rest) (boards_of_empty boards)

opening_boards : (boards : ℕ) (rows : List Row) → map (map board_of) (map (opening_row boards) rows) ≡ map (row_boards boards) rows
opening_boards boards [] = refl
opening_boards boards (row ∷ rows) =
    ap (λ first. first ∷ map (map board_of) (map (opening_row boards) rows)) (boards_of_empty (row_boards boards row))
    ∙ ap (λ rest. row_boards boards row ∷ rest) (opening_boards boards rows)

undealt_all : (n : ℕ) → All IsDealOrNone (replicate n None)
undealt_all n =
    let none : Option (List ℕ) = None in
    λ k d within. subst IsDealOrNone (sym (get_or-replicate n k none d (omega (arith, within, length-replicate n none)))) tt

-- a row is of a round
pub round_due : (configuration : ConfigValue) (row_index : ℕ) (row : Row) → IsConfiguration configuration → slice_get configuration.movement.rows row_index ≡ Some row → row.round ≡ row_index / configuration.movement.shape.tables + 1
round_due configuration row_index row limits is =
    let rows = configuration.movement.rows in
    let due = (limits.movement.complete.order row_index (slice_get_within rows row_index row is)).1 row in
    ap (λ (r : Row). r.round) (sym (get_or_from_slice_get rows row_index row row is)) ∙ due.1

pub opening_valid : (configuration : ConfigValue) → IsConfiguration configuration → IsValid (opening configuration)
opening_valid configuration limits = record {
  configured = limits;
  begun = omega arith;
  ends = omega arith;
  boards = length-replicate (configuration.movement.shape.sets * configuration.boards) None;
  deals = undealt_all (configuration.movement.shape.sets * configuration.boards);
  of_boards = opening_boards configuration.boards configuration.movement.rows;
  plays = λ row_index index row plain is found.
      let from = mapped_from empty_record (row_boards configuration.boards row) index plain
      (ap (λ records. slice_get records index) (sym (row_of_empty configuration.boards configuration.movement.rows row_index row is)) ∙ found) in
      let due = round_due configuration row_index row limits is in
      subst (IsValidRecord configuration.scoring (opening configuration).deals 1 row.round) from.2
      (empty_valid configuration.scoring (opening configuration).deals row.round from.0 (omega (arith, due)));
}

-- A change of one record

-- what is read after a write
pub set_read : {A : Type 0} (xs : List A) (i : ℕ) (y : A) → i < length xs → slice_get (slice_set xs i y) i ≡ Some y
set_read xs i y within = slice_get-get_or (slice_set xs i y) i y (omega (arith, length-set xs i y)) ∙ ap Some (get_or-set_same xs i y y within)

pub set_other : {A : Type 0} (xs : List A) (i j : ℕ) (y : A) → j ≢ i → slice_get (slice_set xs i y) j ≡ slice_get xs j
set_other xs i j y apart =
    elim (slice_get_cases xs j).1 [
      | inl (x, within, found, read) ↦
          slice_get-get_or (slice_set xs i y) j y (omega (arith, within, length-set xs i y)) ∙ ap Some (get_or-set_other xs i j y y apart) ∙ sym (slice_get-get_or xs j y within)
      | inr (past, none) ↦ slice_get_past (slice_set xs i y) j (omega (arith, past, length-set xs i y)) ∙ sym none
    ]

-- an element of a list of which one was changed is another, or what that one became
pub changed_from : {A : Type 0} (f : A → A) (xs : List A) (i j : ℕ) (y : A) → slice_get (changed_at f xs i) j ≡ Some y → ((j ≡ i) × ((x : A) × (slice_get xs i ≡ Some x) × (f x ≡ y))) ⊎ (slice_get xs j ≡ Some y)
changed_from {A} f xs i j y is =
    elim (slice_get_cases xs i).1 [
      | inl (x, within, found, read) ↦
          let now : slice_get (slice_set xs i (f x)) j ≡ Some y = ap (λ ys. slice_get ys j) (sym (changed_at-Some f xs i x found)) ∙ is in
          elim (cases_eq j i) [
            | inl same ↦
                let here : Some (f x) ≡ Some y = sym (set_read xs i (f x) within) ∙ ap (slice_get (slice_set xs i (f x))) (sym same) ∙ now in
                inl (same, (x, found, cc))
            | inr apart ↦ inr (sym (set_other xs i j (f x) apart) ∙ now)
          ]
      | inr (past, none) ↦ inr (ap (λ ys. slice_get ys j) (sym (changed_at-None f xs i none)) ∙ is)
    ]

-- the same of the records of all rows
pub row_found : (records : List (List PlainRecord)) (row_index index : ℕ) (plain : PlainRecord) → slice_get (row_at records row_index) index ≡ Some plain → (row : List PlainRecord) × (slice_get records row_index ≡ Some row) × (row_at records row_index ≡ row)
row_found records row_index index plain is =
    elim (slice_get_cases records row_index).1 [
      | inl (row, within, found, read) ↦ (row, found, ap (λ o. unwrap_or o []) found)
      | inr (past, none) ↦
          let wrong : slice_get [] index ≡ Some plain = ap (λ o. slice_get (unwrap_or o []) index) (sym none) ∙ is in absurd (none_of index plain wrong)
    ]

abbrev ChangedHere : (PlainRecord → PlainRecord) → (List PlainRecord → ℕ) → List (List PlainRecord) → ℕ → ℕ → PlainRecord → Type 0
ChangedHere f at records row_index other after =
    (other ≡ row_index) × ((before : PlainRecord) × (slice_get (row_at records row_index) (at (row_at records row_index)) ≡ Some before) × (f before ≡ after))

record_from : (f : PlainRecord → PlainRecord) (at : List PlainRecord → ℕ) (records : List (List PlainRecord)) (row_index other index : ℕ) (after : PlainRecord) → slice_get (row_at (changed_at (λ rs. changed_at f rs (at rs)) records row_index) other) index ≡ Some after → ChangedHere f at records row_index other after ⊎ (slice_get (row_at records other) index ≡ Some after)
record_from f at records row_index other index after is =
    let g : List PlainRecord → List PlainRecord = λ rs. changed_at f rs (at rs) in
    let row = row_found (changed_at g records row_index) other index after is in
    let there : slice_get row.0 index ≡ Some after = ap (λ rs. slice_get rs index) (sym row.2) ∙ is in
    elim (changed_from g records row_index other row.0 row.1) [
      | inl (same, (before, found, made)) ↦
          let own : row_at records row_index ≡ before = ap (λ o. unwrap_or o []) found in
          elim (changed_from f before (at before) index after (ap (λ rs. slice_get rs index) made ∙ there)) [
            | inl (here, (x, at_x, become)) ↦ inl (same, (x, ap (λ rs. slice_get rs (at rs)) own ∙ at_x, become))
            | inr elsewhere ↦ inr (ap (λ rs. slice_get rs index) (ap (row_at records) same ∙ own) ∙ elsewhere)
          ]
      | inr kept ↦ inr (ap (λ o. slice_get (unwrap_or o []) index) kept ∙ there)
    ]

-- a session in which one record became another that is valid
pub valid_change : (s : SessionValue) (row_index : ℕ) (f : PlainRecord → PlainRecord) (at : List PlainRecord → ℕ) → IsValid s → ((x : PlainRecord) → (f x).board ≡ x.board) → ((row : Row) (x : PlainRecord) → slice_get s.configuration.movement.rows row_index ≡ Some row → slice_get (row_at s.records row_index) (at (row_at s.records row_index)) ≡ Some x → IsValidRecord s.configuration.scoring s.deals s.round row.round x → IsValidRecord s.configuration.scoring s.deals s.round row.round (f x)) → IsValid (record s { records = changed_at (λ rs. changed_at f rs (at rs)) s.records row_index })
valid_change s row_index f at valid boards stays = record {
  configured = valid.configured;
  begun = valid.begun;
  ends = valid.ends;
  boards = valid.boards;
  deals = valid.deals;
  of_boards = map-changed_at (map board_of) (λ rs. changed_at f rs (at rs)) s.records row_index (λ rs. map-changed_at board_of f rs (at rs) boards) ∙ valid.of_boards;
  plays = λ other index row after is found.
      elim (record_from f at s.records row_index other index after found) [
        | inl (same, (before, was, become)) ↦
            let here : slice_get s.configuration.movement.rows row_index ≡ Some row = ap (slice_get s.configuration.movement.rows) (sym same) ∙ is in
            subst (IsValidRecord s.configuration.scoring s.deals s.round row.round) become (stays row before here was (valid.plays row_index (at (row_at s.records row_index)) row before here was))
        | inr kept ↦ valid.plays other index row after is kept
      ];
}
