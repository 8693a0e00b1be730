-- The part of a play, by the record that is kept.
use Rattle.session_store.specs.declared.disk_format.DiskFormat.TheVariants.{Two}
use Rattle.std.proofs.Common.{◌≡◌, ◌*◌, ◌/◌, ◌%◌, ◌<◌, ℕ, List, [], length, map, sym, ap, subst, ◌∙◌}
use Rattle.std.specs.Prelude.{Option, Some, slice_get, slice_index_or, unwrap_or}
use Rattle.std.specs.Option.{option_map}
use Rattle.std.proofs.Math.Nat.{div-lt_iff_lt-mul}
use Rattle.std.proofs.lemmas.List.{length-map}
use Rattle.std.proofs.lemmas.Option.{slice_get-map, get_or_from_slice_get}
use Rattle.bridge_table.specs.declared.record.Record.{Record}
use Rattle.session_rules.specs.Record.{PlainRecord, empty_record}
use Rattle.session_rules.specs.State.{SessionValue}
use Rattle.bridge_table.specs.Kept.{plain_of}
use Rattle.session_bytes.specs.Parts.{record_part, record_or_empty, play_parts}
use Rattle.bridge_table.proofs.Tables.{row_is}
use Rattle.session_bytes.proofs.PartIndexes.{count_plays, index_of_play}

module _ (s : SessionValue) (tables : List (List Record)) (boards row_index : ℕ) (records_are : map (map plain_of) tables ≡ s.records)
    (boards_are : boards ≡ s.configuration.boards) (some : 0 < boards) (within : row_index < length (play_parts Two s)) where
  count_records : length s.records ≡ length tables
  count_records = ap (λ (records : List (List PlainRecord)). length records) (sym records_are) ∙ length-map tables (map plain_of)

  inside : row_index < length s.records * boards
  inside = subst (λ n. row_index < length s.records * n) (sym boards_are) (subst (λ n. row_index < n) (count_plays Two s) within)

  -- the play's row is there
  pub row_within : row_index / boards < length tables
  row_within = subst (λ n. row_index / boards < n) count_records ((div-lt_iff_lt-mul some).1 inside)

  -- the part is that of the record in the row
  pub play_part_is : (table : List Record) → slice_get tables (row_index / boards) ≡ Some table
      → slice_index_or (play_parts Two s) row_index [] ≡ record_part Two (record_or_empty (map plain_of table) (row_index % boards))
  play_part_is table there =
      let row : List PlainRecord = map plain_of table in
      let at : (n : ℕ) → boards ≡ n → slice_index_or s.records (row_index / n) row ≡ row
      = λ n same. ap (λ k. slice_index_or s.records (row_index / k) row) (sym same)
      ∙ ap (λ (records : List (List PlainRecord)). slice_index_or records (row_index / boards) row) (sym records_are)
      ∙ get_or_from_slice_get (map (map plain_of) tables) (row_index / boards) row row (row_is tables (row_index / boards) table there) in
      index_of_play Two s row_index row (subst (λ n. 0 < n) boards_are some) (subst (λ n. row_index < n) (count_plays Two s) within)
      ∙ ap (λ (records : List PlainRecord). record_part Two (record_or_empty records (row_index % s.configuration.boards))) (at s.configuration.boards boards_are)
      ∙ ap (λ n. record_part Two (record_or_empty row (row_index % n))) (sym boards_are)

-- the record that is found there, or none
pub found_or_empty : (table : List Record) (index : ℕ) (found : Option Record) → found ≡ slice_get table index
    → record_or_empty (map plain_of table) index ≡ unwrap_or (option_map plain_of found) (empty_record 0)
found_or_empty table index found is =
    ap (λ (o : Option PlainRecord). unwrap_or o (empty_record 0)) (slice_get-map plain_of table index ∙ ap (option_map plain_of) (sym is))
