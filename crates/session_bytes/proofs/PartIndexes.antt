-- How many parts a session has, and which stands at which index.
use Rattle.std.proofs.Common.{◌≡◌, ◌+◌, ◌*◌, ◌/◌, ◌%◌, ◌<◌, ℕ, List, [], length, map, ◌∙◌, arith, length-append}
use Rattle.std.specs.Prelude.{slice_index_or}
use Rattle.std.proofs.Math.Nat.{mod-lt}
use Rattle.std.proofs.lemmas.List.{length-map, get_or-map, get_or_append_left}
use Rattle.std.proofs.lemmas.List.FromFn.{length-map-range_with_len, get_or-map-range_with_len}
use Rattle.bridge_config.specs.ConfigValue.{Pair}
use Rattle.session_rules.specs.Record.{PlainRecord}
use Rattle.session_rules.specs.State.{SessionValue}
use Rattle.session_bytes.specs.Parts.{deal_part, pair_part, record_part, record_or_empty, row_parts, play_parts, board_parts, pair_parts, parts_of}
use Rattle.session_store.specs.declared.disk_format.DiskFormat.{DiskFormat}
use Rattle.session_bytes.proofs.PartLemmas.{length-flat_fixed, flat_fixed_index}

row_length : (format : DiskFormat) (boards : ℕ) (records : List PlainRecord) → length (row_parts format boards records) ≡ boards
row_length format boards records = length-map-range_with_len (λ index. record_part format (record_or_empty records index)) 0 boards

module _ (format : DiskFormat) (s : SessionValue) where
  pub count_plays : length (play_parts format s) ≡ length s.records * s.configuration.boards
  count_plays = length-flat_fixed (row_parts format s.configuration.boards) s.configuration.boards (row_length format s.configuration.boards) s.records

  pub count_boards : length (board_parts format s) ≡ length s.deals + length s.records * s.configuration.boards
  count_boards = omega (arith, length-append (map deal_part s.deals) (play_parts format s), length-map s.deals deal_part, count_plays)

  pub count_pairs : length (pair_parts format s) ≡ length s.configuration.pairs + length s.deals + length s.records * s.configuration.boards
  count_pairs =
      omega (arith, length-append (map pair_part s.configuration.pairs) (board_parts format s), length-map s.configuration.pairs pair_part, count_boards)

  pub count_parts : length (parts_of format s) ≡ 2 + length s.configuration.pairs + length s.deals + length s.records * s.configuration.boards
  count_parts = omega (arith, count_pairs)

  -- the part of a pair
  pub index_of_pair : (row_index : ℕ) (pair : Pair) → row_index < length s.configuration.pairs → slice_index_or (pair_parts format s) row_index [] ≡ pair_part (slice_index_or s.configuration.pairs row_index pair)
  index_of_pair row_index pair within =
      get_or_append_left (map pair_part s.configuration.pairs) (board_parts format s) [] row_index (omega (arith, within, length-map s.configuration.pairs pair_part))
      ∙ get_or-map pair_part s.configuration.pairs row_index pair [] within

  -- the part of a play
  pub index_of_play : (row_index : ℕ) (row : List PlainRecord) → 0 < s.configuration.boards → row_index < length s.records * s.configuration.boards
      → slice_index_or (play_parts format s) row_index [] ≡ record_part format (record_or_empty (slice_index_or s.records (row_index / s.configuration.boards) row) (row_index % s.configuration.boards))
  index_of_play row_index row some within =
      let boards : ℕ = s.configuration.boards in
      let records : List PlainRecord = slice_index_or s.records (row_index / boards) row in
      flat_fixed_index (row_parts format boards) boards (row_length format boards) s.records row_index row [] some within
      ∙ get_or-map-range_with_len (λ index. record_part format (record_or_empty records index)) 0 boards (row_index % boards) (row_index % boards) []
      (mod-lt row_index some) (omega arith)
