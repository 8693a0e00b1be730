-- The records of all rows are read back from the parts of the plays.
use Rattle.std.proofs.Common.{◌≡◌, ◌+◌, ◌-◌, ◌*◌, ℕ, Bool, true, false, cond, List, [], ◌∷◌, ◌++◌, length, map, drop, All, ◌⊎◌, inl, inr, refl, sym, ap, ◌∙◌, arith}
use Rattle.std.specs.Prelude.{flat_map}
use Rattle.std.specs.List.{range_with_len}
use Rattle.std.proofs.lemmas.List.{length-map, ext_get_or, get_or-map, nil_from_length}
use Rattle.std.proofs.lemmas.List.Elements.{All-head, All-tail}
use Rattle.std.proofs.lemmas.List.FromFn.{length-range_with_len, length-map-range_with_len, get_or-map-range_with_len}
use Rattle.std.proofs.lemmas.Option.{unwrap_or-slice_get}
use Rattle.bridge_movement.specs.declared.row.Row.{Row}
use Rattle.bridge_movement.specs.Row.{is_live}
use Rattle.session_bytes.specs.Parts.{record_part, record_or_empty, row_parts}
use Rattle.session_bytes.specs.PartsRead.{records_in, tables_in}
use Rattle.session_rules.specs.Record.{PlainRecord, empty_record}
use Rattle.session_rules.specs.State.{row_boards}
use Rattle.session_rules.specs.Valid.{board_of}
use Rattle.session_store.specs.declared.disk_format.DiskFormat.{DiskFormat}
use Rattle.session_bytes.proofs.BytesBack.{drop_front}
use Rattle.session_bytes.proofs.RecordBack.{kept_record, IsWritten, record_back}

-- the parts of a row that has a record for each board
pub full_parts : (format : DiskFormat) (boards : ℕ) (records : List PlainRecord) → length records ≡ boards
    → row_parts format boards records ≡ map (record_part format) records
full_parts format boards records full =
    let part : ℕ → List ℕ = λ index. record_part format (record_or_empty records index) in
    let long : length (row_parts format boards records) ≡ boards = length-map-range_with_len part 0 boards in
    let longs : length (map (record_part format) records) ≡ boards = length-map records (record_part format) ∙ full in
    let nothing : List ℕ = [] in
    ext_get_or nothing (row_parts format boards records) (map (record_part format) records) (long ∙ sym longs)
    (λ row_index within.
    get_or-map-range_with_len part 0 boards row_index row_index nothing (omega (arith, within, long)) (omega arith)
    ∙ ap (record_part format) (unwrap_or-slice_get records row_index (empty_record 0))
    ∙ sym (get_or-map (record_part format) records row_index (empty_record 0) nothing (omega (arith, within, long, full))))

row_back : (format : DiskFormat) (records : List PlainRecord) (more : List (List ℕ)) → All IsWritten records
    → records_in (map board_of records) (map (record_part format) records ++ more) ≡ map (kept_record format) records
row_back format [] more written = refl
row_back format (plain ∷ records) more written =
    ap (λ first. first ∷ records_in (map board_of records) (map (record_part format) records ++ more)) (record_back format plain (All-head IsWritten plain records written))
    ∙ ap (λ rest. kept_record format plain ∷ rest) (row_back format records more (All-tail IsWritten plain records written))

-- a row has a record for each board, or none
boards_long : (boards : ℕ) (row : Row) → (length (row_boards boards row) ≡ boards) ⊎ (row_boards boards row ≡ [])
boards_long boards row = of (is_live row) ((row.set - 1) * boards + 1)
  where
    of : (live : Bool) (first : ℕ) → (length (cond live (range_with_len first boards) []) ≡ boards) ⊎ (cond live (range_with_len first boards) [] ≡ [])
    of true first = inl (length-range_with_len first boards)
    of false first = inr refl

pub row_long : (boards : ℕ) (row : Row) (records : List PlainRecord) → map board_of records ≡ row_boards boards row
    → (length records ≡ boards) ⊎ (records ≡ [])
row_long boards row records are =
    elim (boards_long boards row) [
      | inl full ↦ inl (sym (length-map records board_of) ∙ ap (λ (xs : List ℕ). length xs) are ∙ full)
      | inr none ↦ inr (nil_from_length records (sym (length-map records board_of) ∙ ap (λ (xs : List ℕ). length xs) (are ∙ none)))
    ]

records_back : (format : DiskFormat) (boards : ℕ) (row : Row) (records : List PlainRecord) (more : List (List ℕ)) → map board_of records ≡ row_boards boards row
    → All IsWritten records → records_in (row_boards boards row) (row_parts format boards records ++ more) ≡ map (kept_record format) records
records_back format boards row records more are written =
    ap (λ bs. records_in bs (row_parts format boards records ++ more)) (sym are) ∙ elim (row_long boards row records are) [
      | inl full ↦ ap (λ parts. records_in (map board_of records) (parts ++ more)) (full_parts format boards records full) ∙ row_back format records more written
      | inr none ↦ ap (λ (rs : List PlainRecord). records_in (map board_of rs) (row_parts format boards records ++ more)) none ∙ ap (map (kept_record format)) (sym none)
    ]

pub tables_back : (format : DiskFormat) (boards : ℕ) (rows : List Row) (tables : List (List PlainRecord)) → map (map board_of) tables ≡ map (row_boards boards) rows
    → All (All IsWritten) tables → tables_in boards rows (flat_map (row_parts format boards) tables) ≡ map (map (kept_record format)) tables
tables_back format boards [] [] are written = refl
tables_back format boards [] (records ∷ tables) are written = absurd cc
tables_back format boards (row ∷ rows) [] are written = absurd cc
tables_back format boards (row ∷ rows) (records ∷ tables) are written =
    let first : map board_of records ≡ row_boards boards row = cc in
    let others : map (map board_of) tables ≡ map (row_boards boards) rows = cc in
    let more : List (List ℕ) = flat_map (row_parts format boards) tables in
    let long : length (row_parts format boards records) ≡ boards
    = length-map-range_with_len (λ index. record_part format (record_or_empty records index)) 0 boards in
    ap (λ here. here ∷ tables_in boards rows (drop boards (row_parts format boards records ++ more)))
    (records_back format boards row records more first (All-head (All IsWritten) records tables written))
    ∙ ap (λ parts. map (kept_record format) records ∷ tables_in boards rows parts) (drop_front boards (row_parts format boards records) more long)
    ∙ ap (λ rest. map (kept_record format) records ∷ rest) (tables_back format boards rows tables others (All-tail (All IsWritten) records tables written))
