-- The records of a row and of all rows, one after the other.
use Rattle.std.proofs.Common.{◌≡◌, ◌+◌, ◌-◌, ◌*◌, ◌<◌, ◌==◌, ℕ, zero, suc, true, false, cond, List, [], ◌∷◌, ◌++◌, length, get_or, map, take, drop, Option, Some, None, refl, sym, ap, ◌∙◌, subst, arith, length-append}
use Rattle.std.specs.Prelude.{All, IfNone, OnSome, slice_get, flat_map, replicate, unwrap_or}
use Rattle.arrayvec.specs.ArrayVec.{ArrayVec}
use Rattle.std.specs.List.{range_with_len, list_all}
use Rattle.std.specs.Option.{option_map}
use Rattle.std.proofs.lemmas.Bool.{and_parts, eqb-true}
use Rattle.std.specs.Global.{Vec}
use Rattle.std.proofs.lemmas.List.{map-append, length-map, drop_at}
use Rattle.std.proofs.lemmas.List.FromFn.{length-range_with_len, length-map-range_with_len}
use Rattle.std.proofs.lemmas.Simd.{map-map}
use Rattle.std.proofs.lemmas.List.Elements.{All-nil, All-push}
use Rattle.std.proofs.lemmas.Option.{slice_get_read, slice_get-map, slice_get_past, get_or_from_slice_get}
use Rattle.bridge_movement.specs.declared.row.Row.{Row}
use Rattle.bridge_movement.specs.Row.{is_live}
use Rattle.bridge_cards.specs.declared.scoring.Scoring.{Scoring}
use Rattle.bridge_table.specs.declared.record.Record.{Record}
use Rattle.session_rules.specs.Record.{PlainRecord, empty_record}
use Rattle.bridge_table.specs.Kept.{plain_of, board_kept}
use Rattle.session_bytes.specs.Parts.{HasRecord, record_part, record_or_empty, row_parts}
use Rattle.session_rules.specs.State.{Deals, row_boards}
use Rattle.session_rules.specs.StateRange.{IsRecordInRange}
use Rattle.session_rules.specs.Valid.{board_of, IsValidRecord}
use Rattle.session_store.specs.declared.disk_format.DiskFormat.{DiskFormat}
use Rattle.session_store.specs.declared.disk_format.DiskFormat.TheVariants.{One, Two}
use Rattle.session_bytes.specs.Reading.{items_of, empty_length, is_empty_part, part_kept, plains_of, AreRecords, IsRowOf, AreRows, IsReadFrom}
use Rattle.session_bytes.proofs.ReadLists.{some_there, both_push, flat_at, suc_times}
use Rattle.session_bytes.proofs.PartLemmas.{next_taken, length-flat_fixed}

-- the boards that are kept are those of what is seen
pub boards_seen : (table : List Record) → map board_of (map plain_of table) ≡ map board_kept table
boards_seen table = map-map board_of plain_of table

module _ (format : DiskFormat) (scoring : Scoring) (deals : Deals) (now round : ℕ) where
  -- one record more
  pub records_push : (board : ℕ) (part : List ℕ) (table : List Record) (kept : Record)
      → AreRecords format scoring deals now round (map board_kept table) (map plain_of table) → IsReadFrom format scoring deals now round board part kept
      → AreRecords format scoring deals now round (map board_kept (table ++ kept ∷ [])) (map plain_of (table ++ kept ∷ []))
  records_push board part table kept are read =
      let longer : map plain_of (table ++ kept ∷ []) ≡ map plain_of table ++ plain_of kept ∷ [] = map-append plain_of table (kept ∷ []) in
      record {
        boards_are = boards_seen (table ++ kept ∷ []);
        valid = subst (All (IsValidRecord scoring deals now round)) (sym longer) (All-push (IsValidRecord scoring deals now round) (map plain_of table) (plain_of kept) are.valid read.valid);
        in_range = subst (All IsRecordInRange) (sym longer) (All-push IsRecordInRange (map plain_of table) (plain_of kept) are.in_range read.in_range);
        of_format = subst (All (HasRecord format)) (sym longer) (All-push (HasRecord format) (map plain_of table) (plain_of kept) are.of_format read.of_format);
      }

-- a record is of the board of the one that is kept in its place
pub board_there : (table : List Record) (records : List PlainRecord) (i : ℕ) (kept : Record) (plain : PlainRecord) → map board_of records ≡ map board_kept table
    → i < length table → kept ≡ get_or table i kept → slice_get records i ≡ Some plain → plain.board ≡ kept.board
board_there table records i kept plain same within is found =
    let both : Some plain.board ≡ Some kept.board
    = sym (slice_get-map board_of records i ∙ ap (option_map board_of) found)
    ∙ ap (λ bs. slice_get bs i) same
    ∙ slice_get-map board_kept table i ∙ ap (option_map board_kept) (slice_get_read table (length table) i kept refl within is) in
    cc

-- The parts of a row

-- as many records as boards
pub records_count : (format : DiskFormat) (scoring : Scoring) (deals : Deals) (now round : ℕ) (boards : List ℕ) (records : List PlainRecord)
    → AreRecords format scoring deals now round boards records → length records ≡ length boards
records_count format scoring deals now round boards records are =
    sym (length-map records board_of) ∙ ap length are.boards_are

-- the part of a play in which nothing has happened
abbrev empty_part : DiskFormat → List ℕ
empty_part format = replicate (empty_length format) 0

empty_is : (format : DiskFormat) → is_empty_part format (empty_part format) ≡ true
empty_is One = refl
empty_is Two = refl

zeros_are : (format : DiskFormat) (bytes : List ℕ) → is_empty_part format bytes ≡ true → bytes ≡ empty_part format
zeros_are format bytes is =
    let both = and_parts (length bytes == empty_length format) (list_all (λ byte. byte == 0) bytes) is in
    zeros (empty_length format) bytes (eqb-true (length bytes) (empty_length format) both.0) both.1
  where
    one : (b : ℕ) (bs : List ℕ) → list_all (λ byte. byte == 0) (b ∷ bs) ≡ true → (b ≡ 0) × (list_all (λ byte. byte == 0) bs ≡ true)
    one b bs all = let both = and_parts (b == 0) (list_all (λ byte. byte == 0) bs) all in (eqb-true b 0 both.0, both.1)

    zeros : (n : ℕ) (bs : List ℕ) → length bs ≡ n → list_all (λ byte. byte == 0) bs ≡ true → bs ≡ replicate n 0
    zeros zero [] long all = refl
    zeros zero (b ∷ bs) long all = absurd (omega (arith, long))
    zeros (suc n) [] long all = absurd (omega (arith, long))
    zeros (suc n) (b ∷ bs) long all =
        let both = one b bs all in
        ap (λ c. c ∷ bs) both.0 ∙ ap (λ cs. 0 ∷ cs) (zeros n bs (omega (arith, long)) both.1)

unplayed_part : (format : DiskFormat) → record_part format (empty_record 0) ≡ empty_part format
unplayed_part One = refl
unplayed_part Two = refl

none_at : (format : DiskFormat) (index : ℕ) → record_part format (record_or_empty [] index) ≡ empty_part format
none_at format index =
    ap (λ o. record_part format (unwrap_or o (empty_record 0))) (slice_get_past {X = PlainRecord} [] index (omega arith)) ∙ unplayed_part format

-- a row without records
row_none : (format : DiskFormat) (parts : List (ArrayVec ℕ)) (k : ℕ) → list_all (λ part. is_empty_part format part.items) parts ≡ true
    → map (λ index. record_part format (record_or_empty [] index)) (range_with_len k (length parts)) ≡ map items_of parts
row_none format [] k all = refl
row_none format (part ∷ parts) k all =
    let both = and_parts (is_empty_part format part.items) (list_all (λ part. is_empty_part format part.items) parts) all in
    ap (λ p. p ∷ map (λ index. record_part format (record_or_empty [] index)) (range_with_len (k + 1) (length parts))) (none_at format k ∙ sym (zeros_are format part.items both.0))
    ∙ ap (λ ps. part.items ∷ ps) (row_none format parts (k + 1) both.1)

none_row : (format : DiskFormat) (parts : List (ArrayVec ℕ)) (k : ℕ) → map (λ index. record_part format (record_or_empty [] index)) (range_with_len k (length parts)) ≡ map items_of parts
    → list_all (λ part. is_empty_part format part.items) parts ≡ true
none_row format [] k is = refl
none_row format (part ∷ parts) k is =
    let first : record_part format (record_or_empty [] k) ≡ part.items = cc in
    let rest : map (λ index. record_part format (record_or_empty [] index)) (range_with_len (k + 1) (length parts)) ≡ map items_of parts = cc in
    let empty : is_empty_part format part.items ≡ true = ap (is_empty_part format) (sym first ∙ none_at format k) ∙ empty_is format in
    rw (empty, none_row format parts (k + 1) rest) refl

pub unplayed_row : (format : DiskFormat) (boards : ℕ) (parts : List (ArrayVec ℕ)) → length parts ≡ boards → list_all (λ part. is_empty_part format part.items) parts ≡ true
    → row_parts format boards [] ≡ map items_of parts
unplayed_row format boards parts long all = ap (λ n. row_parts format n []) (sym long) ∙ row_none format parts 0 all

pub row_unplayed : (format : DiskFormat) (boards : ℕ) (parts : List (ArrayVec ℕ)) → length parts ≡ boards → row_parts format boards [] ≡ map items_of parts
    → list_all (λ part. is_empty_part format part.items) parts ≡ true
row_unplayed format boards parts long is = none_row format parts 0 (ap (λ n. row_parts format n []) long ∙ is)

pub no_records : (records : List PlainRecord) → map board_of records ≡ [] → records ≡ []
no_records [] is = refl
no_records (x ∷ xs) is = absurd cc

-- no records
pub no_rows : (format : DiskFormat) (scoring : Scoring) (deals : Deals) (now round : ℕ) → AreRecords format scoring deals now round [] []
no_rows format scoring deals now round = record {
  boards_are = refl;
  valid = All-nil (IsValidRecord scoring deals now round);
  in_range = All-nil IsRecordInRange;
  of_format = All-nil (HasRecord format);
}

-- the boards of a row
pub live_boards : (boards : ℕ) (row : Row) → is_live row ≡ true → row_boards boards row ≡ range_with_len ((row.set - 1) * boards + 1) boards
live_boards boards row is = ap (λ b. cond b (range_with_len ((row.set - 1) * boards + 1) boards) []) is

pub other_boards : (boards : ℕ) (row : Row) → is_live row ≡ false → row_boards boards row ≡ []
other_boards boards row is = ap (λ b. cond b (range_with_len ((row.set - 1) * boards + 1) boards) []) is

-- a table of a row that is live has a record for each board of a set
pub live_count : (boards : ℕ) (row : Row) (table : List Record) → map board_kept table ≡ row_boards boards row → is_live row ≡ true → length table ≡ boards
live_count boards row table of is =
    sym (length-map table board_kept) ∙ ap length (of ∙ live_boards boards row is) ∙ length-range_with_len ((row.set - 1) * boards + 1) boards

-- and one of another row none
pub other_none : (boards : ℕ) (row : Row) (table : List Record) → map board_kept table ≡ row_boards boards row → is_live row ≡ false → table ≡ []
other_none boards row [] of is = refl
other_none boards row (kept ∷ table) of is = let none = of ∙ other_boards boards row is in absurd cc

-- what is kept of records has their parts
pub kept_parts : (format : DiskFormat) (table : List Record) → map (part_kept format) table ≡ map (record_part format) (map plain_of table)
kept_parts format table = sym (map-map (record_part format) plain_of table)

-- what was found, or not

pub found_both : (P Q R : Type 0) (o : Option (Unit {0})) → OnSome o P → OnSome o Q → (P → Q → R) → OnSome o R
found_both P Q R None one two then = tt
found_both P Q R (Some x) one two then = then one two

pub found_none : (P Q : Type 0) (o : Option (Unit {0})) → IfNone o P → (P → Q) → IfNone o Q
found_none P Q None holds then = then holds
found_none P Q (Some x) holds then = tt

-- All rows

-- the rows that are left, with one and without it
pub suc_row : (rows row_index boards : ℕ) → row_index < rows → (rows - row_index) * boards ≡ boards + (rows - (row_index + 1)) * boards
suc_row rows row_index boards within =
    let next : rows - row_index ≡ suc (rows - (row_index + 1)) = omega (arith, within) in
    ap (λ n. n * boards) next ∙ suc_times (rows - (row_index + 1)) boards

row_length : (format : DiskFormat) (boards : ℕ) (records : List PlainRecord) → length (row_parts format boards records) ≡ boards
row_length format boards records = length-map-range_with_len (λ index. record_part format (record_or_empty records index)) 0 boards

module _ (format : DiskFormat) (scoring : Scoring) (deals : Deals) (now boards : ℕ) where
  -- one row more
  pub rows_push : (rows : List Row) (i : ℕ) (row : Row) (tables : List (Vec Record)) (table : Vec Record) → i < length rows → slice_get rows i ≡ Some row
      → AreRows format scoring deals now boards (take i rows) (map plains_of tables) → IsRowOf format scoring deals now boards row (plains_of table)
      → AreRows format scoring deals now boards (take (i + 1) rows) (map plains_of (tables ++ table ∷ []))
  rows_push rows i row tables table within is are own =
      let longer : take (i + 1) rows ≡ take i rows ++ row ∷ [] = next_taken rows i row within (sym (get_or_from_slice_get rows i row row is)) in
      let made : map plains_of (tables ++ table ∷ []) ≡ map plains_of tables ++ plains_of table ∷ [] = map-append plains_of tables (table ∷ []) in
      subst (λ (rs : List Row). AreRows format scoring deals now boards rs (map plains_of (tables ++ table ∷ []))) (sym longer)
      (subst (AreRows format scoring deals now boards (take i rows ++ row ∷ [])) (sym made) (record {
        count = omega (arith, are.count, length-append (map plains_of tables) (plains_of table ∷ []), length-append (take i rows) (row ∷ []));
        each = both_push (IsRowOf format scoring deals now boards) (take i rows) (map plains_of tables) row (plains_of table) are.count are.each own;
      }))

  -- the records of the row at an index have the parts there
  pub row_there : (rows : List Row) (records front : List (List PlainRecord)) (rest : List (List ℕ)) (i : ℕ) (row : Row)
      → AreRows format scoring deals now boards rows records → flat_map (row_parts format boards) front ++ rest ≡ flat_map (row_parts format boards) records
      → length front ≡ i → i < length rows → slice_get rows i ≡ Some row
      → (own : List PlainRecord) × IsRowOf format scoring deals now boards row own × (row_parts format boards own ≡ take boards rest)
  row_there rows records front rest i row are same before within is =
      let found = some_there records i (omega (arith, within, are.count)) in
      let long : length (flat_map (row_parts format boards) front) ≡ i * boards = length-flat_fixed (row_parts format boards) boards (row_length format boards) front ∙ ap (λ n. n * boards) before in
      let parts = flat_at (row_parts format boards) boards (row_length format boards) i records found.0 found.1 in (
        found.0,
        are.each i row found.0 is found.1,
        sym parts ∙ ap (λ ps. take boards (drop (i * boards) ps)) (sym same) ∙ ap (take boards) (drop_at (flat_map (row_parts format boards) front) rest (i * boards) long),
      )

-- the boards of the table of a row
pub boards_of_row : (tables : List (Vec Record)) (rows : List Row) (boards index : ℕ) (table : Vec Record) (row : Row)
    → map (λ (t : Vec Record). map board_kept t.items) tables ≡ map (row_boards boards) rows → slice_get tables index ≡ Some table → slice_get rows index ≡ Some row
    → map board_kept table.items ≡ row_boards boards row
boards_of_row tables rows boards index table row same of_table of_row =
    let both : Some (map board_kept table.items) ≡ Some (row_boards boards row)
    = sym (slice_get-map (λ (t : Vec Record). map board_kept t.items) tables index ∙ ap (option_map (λ (t : Vec Record). map board_kept t.items)) of_table)
    ∙ ap (λ bs. slice_get bs index) same
    ∙ slice_get-map (row_boards boards) rows index ∙ ap (option_map (row_boards boards)) of_row in
    cc

-- as many tables as rows
pub rows_long : (tables : List (Vec Record)) (rows : List Row) (boards : ℕ) → map (λ (t : Vec Record). map board_kept t.items) tables ≡ map (row_boards boards) rows
    → length tables ≡ length rows
rows_long tables rows boards same =
    sym (length-map tables (λ (t : Vec Record). map board_kept t.items)) ∙ ap length same ∙ length-map rows (row_boards boards)
