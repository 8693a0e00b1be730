use Rattle.std.proofs.Common.{◌≡◌, ◌∙◌, [], ℕ, List, map, sym, ap, subst}
use Rattle.std.proofs.lemmas.Bool.{false≢true}
use Rattle.std.proofs.lemmas.List.{length-map}
use Rattle.bridge_table.specs.declared.record.Record.{Record}
use Rattle.bridge_table.specs.Kept.{plain_of, board_kept}
use Rattle.session_bytes.specs.Parts.{row_parts}
use Rattle.session_bytes.specs.Reading.{items_of, AreRecords, IsRowOf}
use Rattle.session_bytes.proofs.TablesBack.{full_parts}
use Rattle.session_bytes.proofs.ReadTables.{records_count, live_count, other_none, other_boards, kept_parts, unplayed_row, row_unplayed, no_records, no_rows, found_both, found_none}
use Rattle.session_bytes.proofs.tables_read.read_table.Goals as goal

pub read_records-requires-clause-count : goal.read_records-requires-clause-count
read_records-requires-clause-count c =
    live_count c.args.boards c.args.row.now c.args.table.now c.requires.boards (sym c.is_live.ensures.test ∙ c.if-is_live.true) ∙ sym c.requires.count

pub returns-then-is_live-clause-written : goal.returns-then-is_live-clause-written
returns-then-is_live-clause-written c =
    let format = c.args.format in
    let boards = c.args.boards in
    let row = c.args.row.now in
    let table = c.args.table.now in
    let after = c.read_records.new.table in
    let live = live_count boards row table c.requires.boards (sym c.is_live.ensures.test ∙ c.if-is_live.true) in
    found_both _ _ (row_parts format boards (map plain_of after) ≡ map items_of c.args.parts.now) c.read_records.result
    c.read_records.ensures.written c.read_records.ensures.records
    (λ written are.
    let count = records_count format c.args.scoring c.args.deals.now c.args.now row.round (map board_kept table) (map plain_of after) are in
    full_parts format boards (map plain_of after) (count ∙ length-map table board_kept ∙ live) ∙ sym (kept_parts format after) ∙ written)

pub returns-then-is_live-clause-other : goal.returns-then-is_live-clause-other
returns-then-is_live-clause-other c =
    let format = c.args.format in
    let boards = c.args.boards in
    let row = c.args.row.now in
    let table = c.args.table.now in
    let live = live_count boards row table c.requires.boards (sym c.is_live.ensures.test ∙ c.if-is_live.true) in
    found_none _ _ c.read_records.result c.read_records.ensures.other (λ none records are is.
    let of_boards : AreRecords format c.args.scoring c.args.deals.now c.args.now row.round (map board_kept table) records
    = subst (λ (bs : List ℕ). AreRecords format c.args.scoring c.args.deals.now c.args.now row.round bs records) (sym c.requires.boards) are in
    let count = records_count format c.args.scoring c.args.deals.now c.args.now row.round (map board_kept table) records of_boards in
    none records of_boards (sym (full_parts format boards records (count ∙ length-map table board_kept ∙ live)) ∙ is))

pub returns-then-are_empty_parts-clause-written : goal.returns-then-are_empty_parts-clause-written
returns-then-are_empty_parts-clause-written c =
    ap (λ (kepts : List Record). row_parts c.args.format c.args.boards (map plain_of kepts))
    (other_none c.args.boards c.args.row.now c.args.table.now c.requires.boards (sym c.is_live.ensures.test ∙ c.if-is_live.false))
    ∙ unplayed_row c.args.format c.args.boards c.args.parts.now c.requires.count (sym c.are_empty_parts.ensures ∙ c.if-are_empty_parts.true)

pub returns-then-are_empty_parts-clause-row : goal.returns-then-are_empty_parts-clause-row
returns-then-are_empty_parts-clause-row c =
    let boards = c.args.boards in
    let row = c.args.row.now in
    let dead = sym c.is_live.ensures.test ∙ c.if-is_live.false in
    subst (λ (kepts : List Record). IsRowOf c.args.format c.args.scoring c.args.deals.now c.args.now boards row (map plain_of kepts))
    (sym (other_none boards row c.args.table.now c.requires.boards dead))
    (subst (λ (bs : List ℕ). AreRecords c.args.format c.args.scoring c.args.deals.now c.args.now row.round bs []) (sym (other_boards boards row dead))
    (no_rows c.args.format c.args.scoring c.args.deals.now c.args.now row.round))

pub returns-else-are_empty_parts-clause-other : goal.returns-else-are_empty_parts-clause-other
returns-else-are_empty_parts-clause-other c = λ records are is.
    let format = c.args.format in
    let boards = c.args.boards in
    let none = other_boards boards c.args.row.now (sym c.is_live.ensures.test ∙ c.if-is_live.false) in
    let empty : records ≡ [] = no_records records (are.boards_are ∙ none) in
    let all = row_unplayed format boards c.args.parts.now c.requires.count (ap (row_parts format boards) (sym empty) ∙ is) in
    false≢true (sym c.if-are_empty_parts.false ∙ c.are_empty_parts.ensures ∙ all)
